-- `Refusals`: the numbers, held against the table of the rules.
pub mod Refusals
