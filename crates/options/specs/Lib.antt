-- What the readers answer: `Text`, named texts; `Part`, a part that was read; `Locator`, `Locators`, `Divert`,
-- `Outcome`, `Objective`, `Pair`.
pub mod Text
pub mod Part
pub mod Locator
pub mod Locators
pub mod Divert
pub mod Outcome
pub mod Objective
pub mod Pair
