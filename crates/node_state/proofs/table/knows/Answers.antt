-- `node_state::table::knows` meets its contract.
use Rattle.std.proofs.Common.{refl, sym, ◌∙◌, rules, tests}
use Rattle.std.proofs.lemmas.Iterator.{YieldsList-from_range}
use Rattle.std.proofs.lemmas.Iterator.Search.{any_from_yields_List}
use Rattle.node_state.specs.Table.{row_matches, is_known}
use Rattle.node_state.proofs.TableRows.{of_sized, of_other, some_listed}
use Rattle.node_state.proofs.table.knows.Goals as goal

pub returns-then-table : goal.returns-then-table
returns-then-table c = sym (of_other _ _ _ c.if-table.true)

pub returns : goal.returns
unfolding is_known
returns c =
    let matches = row_matches c.args.key c.args.table.now in
    rw (of_sized _ _ _ c.if-table.false)
    (any_from_yields_List matches _ _ _ c.any.ensures.ran (YieldsList-from_range 0 64 64 refl refl) (λ x b q k. search (rules, tests))
    ∙ some_listed matches)
