-- `Step`: what the step answers. `Allowed`: the ways in which it is accepted, said of the message that was read.
-- `Turns`: a list of steps, and demand 3's claim about it.
pub mod Step
pub mod Allowed
pub mod Turns
