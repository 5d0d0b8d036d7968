-- `Role`: what a node looks at in a message, and its key. `Call`: the node call. `Passed`: what its functions rest on.
pub mod Role
pub mod Call
pub mod Passed
