-- For callers' proofs: `Lengths`, how many bytes are written; `HandedOver`, bytes handed over to an output; `Onward`, a
-- message that is relayed.
pub mod Lengths
pub mod HandedOver
pub mod Onward
-- For the proofs of this crate: `Response`, a node's answer; `Answers`, the writer's answers.
mod Response
mod Answers
