-- `Names`: a node's own names.
pub mod Names
