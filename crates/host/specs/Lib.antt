-- `Records`, `Table`, `States`: a record, a relay table and a negotiation's state as numbers and bytes. `Call`: the
-- node call on them. `Widths`: what those numbers and bytes can hold.
pub mod Records
pub mod Table
pub mod Call
pub mod States
pub mod Widths
