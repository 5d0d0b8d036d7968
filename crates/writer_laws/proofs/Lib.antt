-- For readers: `Read`, accepted bytes are the writer's encoding of their message; `Relay`, a message with its count one
-- lower; `Write`, what is written is read back, and exactly where 18 and 19 are answered; `Answer`, the same of a
-- node's answer; `Leaves`, what is refused leaves the output; `Again`, what was read, described and written again;
-- `Room`, how long a list has room for the rows of every message.
pub mod Read
pub mod Relay
pub mod Write
pub mod Answer
pub mod Leaves
pub mod Again
pub mod Room
-- For callers' proofs: items that are messages, encoded; where a message's items stand; messages that are encoded alike
-- are the same; rows filled one after the other, and those of locators and of pairs.
pub mod Encodes
pub mod Places
pub mod Once
pub mod Filled
pub mod Locators
pub mod Pairs
-- For the proofs of this crate: pairs read at another place, a count's head replaced in a part and in a message, where
-- the count stands; what the judge passes.
mod Moved
mod Recounted
mod Lowered
mod Counts
mod Script
mod Within
mod Judged
mod Drafts
-- Spans of what stands in a message; the kinds.
mod Spans
mod ByKind
