-- For readers: `Numbers`, the relay table between its bytes and its numbers; `HandedBack`, what a call hands back is
-- what the next call takes.
pub mod Numbers
pub mod HandedBack
-- For callers' proofs: `Fits`, numbers within their widths.
pub mod Fits
-- For their proof: the ways of the node call.
mod Calls
