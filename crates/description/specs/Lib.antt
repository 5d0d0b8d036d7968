-- `Meaning`: which message a description speaks of. `Judge`: which descriptions speak of one.
pub mod Meaning
pub mod Judge
