-- `Fits`: a Flood's pairs lie within the message, and the turns of the loop over them. `Clear`: a refusal where a place
-- is noted. `Parts`: where the parts of a message that was read lie, how long they are at least, and how great its
-- numbers are at most.
pub mod Fits
pub mod Clear
pub mod Parts
