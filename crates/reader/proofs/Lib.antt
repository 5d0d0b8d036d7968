-- For readers: `Exact`, which bytes are accepted and what is said of them; `Refused`, each refusal held against its
-- row; `Led`, the number of a kind.
pub mod Exact
pub mod Refused
pub mod Led
-- Their proof: what any bytes are answered.
pub mod Placed
-- For callers' proofs: `Answers`, how the code's answers meet the definition; `ReadParts`, what is known of a message
-- that was read.
pub mod Answers
pub mod ReadParts
