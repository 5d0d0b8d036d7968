-- `node_state::table::free_dead` meets its contract. The loop's invariant: the rows passed are freed where they were
-- dead.
use mathlib.Core.Path.{◌≡◌, refl, sym, ◌∙◌}
use native.Mathlib.Omega.{arith}
use Rattle.node_state.specs.Table.{free_rows, freed}
use Rattle.node_state.proofs.TableRows.{of_sized, of_other, pass_dead, pass_live}
use Rattle.node_state.proofs.table.free_dead.Goals as goal
use Rattle.node_state.proofs.table.free_dead.Goals.{then-is_dead, else-is_dead}

pub returns-then-table : goal.returns-then-table
returns-then-table c = sym (of_other _ _ _ c.if-table.true)

pub loop-i-init : goal.loop-i-init
unfolding free_rows
loop-i-init c = refl

pub loop-i-preserved : goal.loop-i-preserved
loop-i-preserved c =
    let loop = c.loop-i in
    let args = c.args in
    elim c.if-is_dead.branch [
      | then-is_dead w ↦ pass_dead args.clock args.table.now loop.table c.if-is_dead.table loop.i loop.invariant
          (sym c.is_dead.ensures ∙ w.if-is_dead.true) (w.table-is ∙ w.put_row.ensures)
      | else-is_dead w ↦ w.table-is ∙ pass_live args.clock args.table.now loop.table loop.i loop.invariant
          (sym c.is_dead.ensures ∙ w.if-is_dead.false)
    ]

pub returns : goal.returns
unfolding freed
returns c = let e : c.loop-i.i ≡ 64 = omega arith in rw (of_sized _ _ _ c.if-table.false) (rw e at c.loop-i.invariant)
