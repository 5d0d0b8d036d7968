-- Demand 3: `Relays`, what is seen of relays, and the sentences about them; `History`, a list of calls and link
-- settings; `Demand`, the demand as one statement.
pub mod Relays
pub mod History
pub mod Demand
-- The node call: `RelayRows`, free, used, live and dead rows; `OwnNames`, the bytes that are to be accepted as own
-- names; `Bars`, the refusals 12 to 17; `Due`, the verdict that is due on a message, and what comes of a node call;
-- `Sent`, what RELAY and ANSWER do; `Settings`, a fresh record, and the setting of links; `Edges`, the node calls at
-- the edges.
pub mod RelayRows
pub mod OwnNames
pub mod Bars
pub mod Due
pub mod Sent
pub mod Settings
pub mod Edges
