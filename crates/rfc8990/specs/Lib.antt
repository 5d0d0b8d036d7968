-- What RFC 8990 and rules 1 to 4 say of messages, without reading one.
-- `Message`: the messages as data, whatever stands for a value. `Cddl`: which CBOR items are which message, rule by
-- rule of section 4.
-- `Limits`: bytes, named texts and names. `Encoding`: a message's encoding with shortest heads.
-- `Accepted`: the bytes that are to be accepted. `Refusals`: which refusal is due.
pub mod Message
pub mod Cddl
pub mod Limits
pub mod Encoding
pub mod Accepted
pub mod Refusals
