-- `host::table::load` meets its contract. The loop's invariant: with the numbers that are left the table is the whole
-- one.
use mathlib.Core.Path.{◌≡◌}
use Prim.Native.Nat.{◌+◌, ◌*◌}
use native.Mathlib.Omega.{arith}
use lib.ListN.{length-set}
use Rattle.host.proofs.Numbers.{load_begun, load_turn, load_done}
use Rattle.host.proofs.table.load.Goals as goal

pub loop-row-init : goal.loop-row-init
loop-row-init c = load_begun _ _ c.requires.numbers

pub bounds-table-i-in-loop-row : goal.bounds-table-i-in-loop-row
bounds-table-i-in-loop-row c = simp length-set (omega arith)

pub bounds-table-i-in-loop-row-2 : goal.bounds-table-i-in-loop-row-2
bounds-table-i-in-loop-row-2 c = simp length-set (omega arith)

pub bounds-table-i-in-loop-row-3 : goal.bounds-table-i-in-loop-row-3
bounds-table-i-in-loop-row-3 c = simp length-set (omega arith)

pub loop-row-preserved : goal.loop-row-preserved
loop-row-preserved c =
    let next : 4 * (c.loop-row.row + 1) ≡ 4 * c.loop-row.row + 4 = omega arith in
    rw next (load_turn _ _ _ _ _ _ _ c.loop-row.invariant c.number_at.ensures
    c.number_at-in-loop-row.ensures c.number_at-in-loop-row-2.ensures c.number_at-in-loop-row-3.ensures)

pub returns : goal.returns
returns c = let all : c.loop-row.row ≡ 64 = omega arith in load_done _ _ (rw all at c.loop-row.invariant)
