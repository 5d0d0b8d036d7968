-- `host::table::load` meets its contract. The loop's invariant: with the numbers that are left the table is the whole
-- one.
use Prim.Native.Nat.{◌*◌}
use Rattle.host.proofs.Numbers.{Loading}
use Rattle.host.proofs.table.load.Given as goal

abbrev pub invariant-loop-row : goal.invariant-loop-row
invariant-loop-row l = Loading l.bytes (4 * l.row) l.table
