-- `node_state::table::free_dead` meets its contract. The loop's invariant: the rows passed are freed where they were
-- dead.
use mathlib.Core.Path.{◌≡◌}
use Rattle.node_state.specs.Table.{free_rows}
use Rattle.node_state.proofs.table.free_dead.Given as goal

abbrev pub invariant-loop-i : goal.invariant-loop-i
invariant-loop-i l = l.table ≡ free_rows l.clock l.initial.table l.i
