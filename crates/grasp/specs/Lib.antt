-- What the exported functions answer and leave: `Reading`, a message, a locator, a pair; `Writing`, a message written;
-- `Negotiating`, a step; `Call`, the node call.
pub mod Reading
pub mod Writing
pub mod Negotiating
pub mod Call
