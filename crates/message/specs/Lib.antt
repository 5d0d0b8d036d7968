-- What is read of a message's parts: `Opening`, `Sequence`, `Response`, `Flood`, `Shape` for the kinds' shapes,
-- `Examined` for the whole. `Fields`: what a message holds.
pub mod Opening
pub mod Sequence
pub mod Shape
pub mod Response
pub mod Flood
pub mod Examined
pub mod Fields
