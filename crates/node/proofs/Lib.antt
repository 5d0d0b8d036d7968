-- `Spreads`: a Discovery or a Flood that was read. `Sends`: what a node sends. `Outcomes`: the ways of a node call.
pub mod Spreads
pub mod Sends
pub mod Outcomes
