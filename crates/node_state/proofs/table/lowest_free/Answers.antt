-- `node_state::table::lowest_free` meets its contract.
use Rattle.std.proofs.Common.{refl, ◌∙◌, rules, tests}
use Rattle.std.proofs.lemmas.Iterator.{YieldsList-from_range}
use Rattle.std.proofs.lemmas.Iterator.Search.{position_from_yields_List}
use Rattle.node_state.specs.Table.{row_free, lowest_free}
use Rattle.node_state.proofs.TableRows.{found_listed}
use Rattle.node_state.proofs.table.lowest_free.Goals as goal

pub returns : goal.returns
unfolding lowest_free
returns c =
    let free = row_free c.args.table.now in
    let found = position_from_yields_List free _ _ _ c.position.ensures.ran (YieldsList-from_range 0 64 64 refl refl) (λ x b q k. search (rules, tests)) in
    found_listed free found
