-- For readers: the readers of the parts held against the CDDL, both ways.
pub mod Locator
pub mod Objective
pub mod Pair
pub mod Divert
pub mod Outcome
-- For readers: what an answer holds.
pub mod Held
-- For the laws of `reader`: what one item is answered, of all kinds; that it is one message only, described in one way.
pub mod Shaped
pub mod Once
pub mod Described
-- The walk ends where a message's parts end, of any list of numbers.
pub mod Walked
-- The kinds, each both ways.
pub mod Plain
pub mod Exchange
pub mod Response
pub mod Flood
-- What they share; and the encoding of an item is made of bytes.
pub mod Bytes
pub mod Whole
pub mod Heads
pub mod Opening
pub mod Locators
pub mod Noted
-- `Bridge`: tokens and items that stand in the bytes. `Pieces`: items by the token that was read. `Sizes`: items passed
-- over. `Texts`: places of bad texts and long names. `One`: an item is one locator, objective or pair at most.
-- `Levels`: how many levels a locator has, and pairs.
pub mod Bridge
pub mod Pieces
pub mod Sizes
pub mod Texts
pub mod One
pub mod Levels
-- For the proof of `Locator`.
mod LocatorParts
