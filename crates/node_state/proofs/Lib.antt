-- `TableRows`: the rows of the relay table. `Keys`: the keys of rows. `Masks`: masks of links.
pub mod TableRows
pub mod Keys
pub mod Masks
