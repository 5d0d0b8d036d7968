-- What the functions answer: `Head`, `Item`, `Token`, `Put`; `Turn`, the private ones of the walk. What the standard
-- says: `Tree`, items as data and their encoding; `Fault`, which head is at fault.
pub mod Head
pub mod Item
pub mod Turn
pub mod Token
pub mod Tree
pub mod Fault
pub mod Put
