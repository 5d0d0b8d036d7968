-- `Tests`: the rules that close a `returns` whose definition picks by tests. `Picks`: going by a test's two cases.
-- `Parts`: parts of a slice as lists, and lists stored into one. `Digits`: numbers of n bytes, once for every n.
-- `Lists`: what holds of each element. `Bools`: tests joined. `Pigeonhole`: different numbers below n are at most n.
-- `Clauses`: facts that answer a goal of two clauses.
pub mod Tests
pub mod Clauses
pub mod Picks
pub mod Parts
pub mod Digits
pub mod Lists
pub mod Bools
pub mod Pigeonhole
-- For the proofs of this crate: `SameBytes`, the library's test of two lists.
mod SameBytes
