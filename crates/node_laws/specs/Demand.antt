-- Demand 3, entire (rules 13.3 to 13.9): for every list of node calls and link settings from a fresh node, and for
-- every list of steps on one negotiation state.
use Rattle.std.specs.Prelude.{ℕ, List}
use Rattle.negotiation.specs.Turns.{Sent, Bounded}
use Rattle.node_state.specs.Record.{fresh_or_blank}
use Rattle.node_state.specs.Table.{fresh_table}
use Rattle.node_laws.specs.History.{Event, WholeList}

-- the demand's two parts: of the node (rules 13.3.1 to 13.3.4), and of a negotiation (rules 13.3.5)
pub record Demand3 : Type 0 where
  -- also where the fresh record was refused: it is all zeros then, and every call is refused
  pub node : (address : List ℕ) (port ttl interfaces mask : ℕ) (events : List Event)
      → WholeList (fresh_or_blank address port ttl interfaces mask) fresh_table events
  pub negotiation : (messages : List Sent) → Bounded messages
