-- For readers: what the program prints, held against the rules.
pub mod Printed
