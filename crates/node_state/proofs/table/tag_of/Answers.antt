-- `node_state::table::tag_of` meets its contract.
use mathlib.Core.Path.{refl}
use Rattle.node_state.specs.Table.{tag_in}
use Rattle.node_state.proofs.table.tag_of.Goals as goal

pub returns : goal.returns
unfolding tag_in
returns c = refl
