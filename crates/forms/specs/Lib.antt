-- `Describe`: the description of a message that was read. `Rows`: its list. `Block`: what was read, as numbers in fixed
-- places. `Described`: which description such numbers say. `BlockFor`: the numbers that say a description, and those of
-- a message that was read, cleared of what is the reader's.
pub mod Describe
pub mod Rows
pub mod Block
pub mod Described
pub mod BlockFor
