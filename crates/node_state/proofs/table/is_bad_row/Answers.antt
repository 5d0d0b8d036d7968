-- `node_state::table::is_bad_row` meets its contract.
use mathlib.Core.Path.{refl, sym, ◌∙◌}
use Rattle.node_state.specs.Table.{row_bad, row_used, cell}
use Rattle.node_state.proofs.TableRows.{later_bad}
use Rattle.node_state.proofs.table.is_bad_row.Goals as goal

pub returns-then-is_free : goal.returns-then-is_free
unfolding row_bad row_used
returns-then-is_free c = rw (sym c.is_free.ensures ∙ c.if-is_free.true) refl

pub returns-then-is_keyed : goal.returns-then-is_keyed
unfolding row_bad row_used cell
returns-then-is_keyed c =
    let args = c.args in
    rw (
      sym c.is_free.ensures ∙ c.if-is_free.false,
      sym c.is_keyed.ensures ∙ c.if-is_keyed.true,
    ) (later_bad args.clock (cell args.table.now args.i 3))

pub returns : goal.returns
unfolding row_bad row_used
returns c = rw (sym c.is_free.ensures ∙ c.if-is_free.false, sym c.is_keyed.ensures ∙ c.if-is_keyed.false) refl
