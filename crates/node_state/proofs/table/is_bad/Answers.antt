-- `node_state::table::is_bad` meets its contract.
use Rattle.std.proofs.Common.{refl, ◌∙◌, rules, tests}
use Rattle.std.proofs.lemmas.Iterator.{YieldsList-from_range}
use Rattle.std.proofs.lemmas.Iterator.Search.{any_from_yields_List}
use borrow.Author.Tests.{eq-eqb, ne_eqb}
use Rattle.node_state.specs.Table.{row_bad, table_bad}
use Rattle.node_state.proofs.TableRows.{some_listed}
use Rattle.node_state.proofs.table.is_bad.Goals as goal

pub returns-then-table : goal.returns-then-table
unfolding table_bad
returns-then-table c = rw (ne_eqb _ 256 c.if-table.true) refl

pub returns : goal.returns
unfolding table_bad
returns c =
    let bad = row_bad c.args.clock c.args.table.now in
    rw (eq-eqb _ 256 c.if-table.false)
    (any_from_yields_List bad _ _ _ c.any.ensures.ran (YieldsList-from_range 0 64 64 refl refl) (λ x b q k. search (rules, tests))
    ∙ some_listed bad)
