-- What the functions of a node call rest on, once 12 to 17 are passed.
use Rattle.std.specs.Prelude.{ℕ, ◌≤◌, true, false, List, ◌≡◌, length}
use Rattle.base.specs.Bits.{has_bit}
use Rattle.rfc8990.specs.Limits.{most_bytes}
use Rattle.node_state.specs.declared.Record.{Record}
use Rattle.node_state.specs.Record.{most_tally, record_bad, arrival_bad}
use Rattle.node_state.specs.Table.{table_numbers, table_bad}

-- what the code uses of a call's having passed 12 to 17
pub record Passed (r : Record) (t : List ℕ) (clock interface room : ℕ) : Type 0 where
  pub good : record_bad r ≡ false
  pub arrives : arrival_bad r interface ≡ false
  pub later : r.clock ≤ clock
  pub table : table_bad clock t ≡ false
  pub fits : most_bytes ≤ room

-- what of it the verdicts on a Discovery or a Flood rest on
pub record Ready (r : Record) (t : List ℕ) (interface room : ℕ) : Type 0 where
  pub sized : length t ≡ table_numbers
  pub up : has_bit r.links interface ≡ true
  pub tally : r.tally ≤ most_tally
  pub fits : most_bytes ≤ room
