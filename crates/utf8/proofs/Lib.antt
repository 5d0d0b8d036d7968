-- For readers: `Utf8Exact`, what is accepted held against the standard.
pub mod Utf8Exact
-- For the proofs of this crate: `Texts`, what the library says in the words of `Utf8`.
mod Texts
mod Utf8Scalar
