-- `host::table::save` meets its contract. The loop's invariant: with those of the numbers that are left the bytes are
-- the whole table's.
use mathlib.Core.Path.{◌≡◌}
use Prim.Native.Nat.{◌+◌, ◌*◌}
use native.Mathlib.Omega.{arith}
use Rattle.host.proofs.Numbers.{save_begun, save_turn, save_done}
use Rattle.host.proofs.table.save.Goals as goal

pub loop-row-init : goal.loop-row-init
loop-row-init c = save_begun _ _ c.requires.numbers c.requires.bytes

pub loop-row-preserved : goal.loop-row-preserved
loop-row-preserved c =
    let next : 4 * (c.loop-row.row + 1) ≡ 4 * c.loop-row.row + 4 = omega arith in
    rw next (save_turn _ _ _ _ _ _ _ c.loop-row.invariant c.put_number.ensures
    c.put_number-in-loop-row.ensures c.put_number-in-loop-row-2.ensures c.put_number-in-loop-row-3.ensures)

pub returns : goal.returns
returns c = let all : c.loop-row.row ≡ 64 = omega arith in
    save_done _ _ c.requires.numbers (rw all at c.loop-row.invariant)
