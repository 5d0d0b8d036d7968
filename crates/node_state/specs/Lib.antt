-- `Record`: the record and the masks of links. `Table`: the relay table. `Key`: the key of a message's row.
pub mod Record
pub mod Table
pub mod Key
