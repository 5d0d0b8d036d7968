-- For readers: `InC`, demand 3 for what C keeps and sees; `NotOurs`, a negotiation step on numbers that are no state, or
-- by no side; `Again`, what was read in C and is written in C; `Leaves`, a refused call leaves what it was lent;
-- `Answers`, what a node call answers that isn't refused.
pub mod InC
pub mod NotOurs
pub mod Again
pub mod Leaves
pub mod Answers
-- For their proofs: what C keeps and sees of a list of calls, and of a list of steps, held against the node's lists.
mod Keeping
mod Stepping
