-- For readers: `Taken`, which blocks the writer takes; `Cleared`, that those that were read are among them.
pub mod Taken
pub mod Cleared
-- `Turns`: the turns of the loops that fill rows.
mod Turns
