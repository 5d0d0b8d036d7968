-- `Line`: numbers in decimal, and the lines that say a kind or a refusal.
pub mod Line
