-- What C's numbers and bytes can hold: a record, a relay table and a negotiation's state whose numbers have the widths
-- of the code's types.
use Rattle.std.specs.Prelude.{ℕ, ◌^◌, ◌<◌, List, ◌≡◌, length}
use Rattle.base.specs.Lists.{Every}
use Rattle.node_state.specs.declared.Record.{Record}
use Rattle.node_state.specs.Table.{table_numbers}
use Rattle.negotiation.specs.declared.State.{State}
use Rattle.negotiation.specs.declared.State.TheVariants.{Fresh, Open, Closed}

-- port, ttl, interfaces and links; clock and tally may have any width, since C's numbers have 64 bits too
pub record RecordFits (r : Record) : Type 0 where
  pub port : r.port < 2 ^ 16
  pub ttl : r.ttl < 2 ^ 32
  pub interfaces : r.interfaces < 2 ^ 8
  pub links : r.links < 2 ^ 8

-- 256 numbers of 64 bits
pub record TableFits (t : List ℕ) : Type 0 where
  pub sized : length t ≡ table_numbers
  pub wide : Every (λ x. x < 2 ^ 64) t

-- an open state's session and count
abbrev pub StateFits : State → Type 0
StateFits Fresh = Unit {0}
StateFits (Open session count turn) = (session < 2 ^ 32) × (count < 2 ^ 8)
StateFits Closed = Unit {0}
