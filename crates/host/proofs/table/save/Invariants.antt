-- `host::table::save` meets its contract. The loop's invariant: with those of the numbers that are left the bytes are
-- the whole table's.
use Prim.Native.Nat.{◌*◌}
use Rattle.host.proofs.Numbers.{Saving}
use Rattle.host.proofs.table.save.Given as goal

abbrev pub invariant-loop-row : goal.invariant-loop-row
invariant-loop-row l = Saving l.table (4 * l.row) l.bytes
