-- For readers: `Accepted`, when a step is accepted and when it is refused; `Turns`, the last sentence of demand 3;
-- `Edges`, a session computed.
pub mod Accepted
pub mod Turns
pub mod Edges
-- For their proofs: what a step leads to is allowed, and what is allowed is led to; sessions and counts of what was
-- read.
mod Ways
mod Readings
