-- `Line`: what the program prints.
pub mod Line
