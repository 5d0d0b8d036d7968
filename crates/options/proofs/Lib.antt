-- `Fits`: what is read lies within the part, has so many bytes at least, and is passed over by the walk. `Series`: the
-- same of locators one after the other and of a divert. `Led`: no locator is an array that a text leads. `Texts`: the
-- places of bad texts and long names. `Moved`: the same part read at another place. `Same`: what two answers that
-- are one have. `Needed`: a value that has to be there.
pub mod Fits
pub mod Series
pub mod Led
pub mod Texts
pub mod Moved
pub mod Same
pub mod Needed
