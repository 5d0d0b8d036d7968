-- `Plain`: a message of the grammar as it is written. `Says`: which message a description says, and what it is to be
-- read back. `Answer`: a node's answer, and what it is to be read as a message. `Lent`: the rows of a message, in a
-- list that is lent, and how many numbers they may be.
pub mod Plain
pub mod Says
pub mod Answer
pub mod Lent
