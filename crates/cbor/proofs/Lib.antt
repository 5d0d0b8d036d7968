-- For readers: `ItemLaws`, the first whole item held against the standard; `PutExact`, heads written.
pub mod ItemLaws
pub mod PutExact
-- For callers' proofs: heads read and written, bytes stored, items accepted, refused and passed over, tokens, their
-- bounds, and where they stay as they were.
pub mod HeadExact
pub mod HeadFault
pub mod Accepts
pub mod Exact
pub mod Unique
pub mod Refuses
pub mod Tokens
pub mod Passes
pub mod Kept
pub mod Stores
-- For the proofs of this crate.
mod Bounds
mod Common
mod Runs
mod Turn
mod Steps
mod Within
mod Followed
