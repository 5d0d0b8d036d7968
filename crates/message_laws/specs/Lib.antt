-- `Stands`: what the answers of the readers describe. `Describes`: what an answer of `reader::read` describes. `Holds`:
-- what such an answer holds, without its places.
pub mod Stands
pub mod Describes
pub mod Holds
