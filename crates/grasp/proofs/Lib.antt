-- `Calls`: the node call over a record of numbers.
mod Calls
