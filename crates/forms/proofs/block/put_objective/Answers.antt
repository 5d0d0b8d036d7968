-- `forms::block::put_objective` meets its contract.
use mathlib.Core.Path.{refl}
use Rattle.forms.specs.Block.{with_objective}
use Rattle.forms.proofs.block.put_objective.Goals as goal

pub returns : goal.returns
unfolding with_objective
returns c = refl
