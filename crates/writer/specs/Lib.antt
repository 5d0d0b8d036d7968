-- `Write`: what the writer answers. `Edges`: the messages of rules 12. `Lower`: a message that is relayed.
pub mod Write
pub mod Edges
pub mod Lower
