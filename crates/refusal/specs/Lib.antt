-- `Refusal`: the refusals' numbers, and a refusal with its place.
pub mod Refusal
