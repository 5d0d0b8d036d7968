-- For callers' proofs: `Puts`, steps in a row, and what stands in the buffer at the end.
-- For the proofs of this crate: `Spans`: the bytes of a span. `PutRows`: locators and pairs, row by row.
pub mod Puts
pub mod Spans
pub mod PutRows
