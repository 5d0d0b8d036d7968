-- For readers: `Whole`, demand 3; `Edges`, the starred cases of rules 12, computed; `Verdict`, what comes of a node
-- call; `Bars`, the refusals 12 to 17; `OwnNames`, which bytes are own names, and which names are among them; `Handed`,
-- what is never handed up; `Sent`, what each verdict leaves and sends; `RelayRows`, the rows of the relay table;
-- `Keys`, when two keys are the same; `Tally`, which never wraps; `Links`, which links are up; `Settings`, a fresh
-- record and the setting of links.
pub mod Whole
pub mod Edges
pub mod Verdict
pub mod Bars
pub mod OwnNames
pub mod Handed
pub mod Sent
pub mod RelayRows
pub mod Keys
pub mod Tally
pub mod Links
pub mod Settings
-- For the proof of demand 3: what is read of a relay; the ways a call can go; the interfaces in a mask.
pub mod Told
pub mod Calls
pub mod Copies
-- For the others: the tests of a node call and of rows, held against the conditions of rules 7 and 9; texts that stand
-- one after the other; the array and the frame around own names.
mod Ways
mod Lives
mod NameTexts
mod NamesJudged
