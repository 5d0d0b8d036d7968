-- `node_state::table::fill_lowest` meets its contract.
use mathlib.Core.Path.{sym, ap, ◌∙◌}
use native.Mathlib.Omega.{arith}
use Rattle.base.specs.Pick.{pick}
use Rattle.node_state.specs.Table.{row_told}
use Rattle.node_state.proofs.TableRows.{of_other, row_some, fills_row, fills_none}
use Rattle.node_state.proofs.table.fill_lowest.Goals as goal

pub returns-then-table : goal.returns-then-table
unfolding row_told pick
returns-then-table c = record {
  value = ap row_told (sym (of_other _ _ _ c.if-table.true));
  table_after = sym (of_other _ _ _ c.if-table.true);
}

pub returns-in_err-row : goal.returns-in_err-row
returns-in_err-row c =
    let both = fills_none _ c.args.key c.args.clock c.if-table.false (sym c.lowest_free.ensures ∙ c.in_err-row.was) in
    record { value = c.from_residual.ensures ∙ both.0; table_after = both.1 }

pub put_row-requires-clause-small : goal.put_row-requires-clause-small
put_row-requires-clause-small c =
    let (same, l) = row_some _ (sym c.lowest_free.ensures ∙ c.in_ok-row.was) in omega (arith, same, l)

pub returns : goal.returns
returns c =
    let both = fills_row _ _ _ c.if-table.false (sym c.lowest_free.ensures ∙ c.in_ok-row.was) c.put_row.ensures in
    record { value = both.0; table_after = both.1 }
