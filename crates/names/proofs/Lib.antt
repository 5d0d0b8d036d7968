-- `Walks`: the loops over own names.
pub mod Walks
