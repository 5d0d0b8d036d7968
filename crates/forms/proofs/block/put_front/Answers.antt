-- `forms::block::put_front` meets its contract.
use mathlib.Core.Path.{refl}
use Rattle.forms.specs.Block.{front_block}
use Rattle.forms.proofs.block.put_front.Goals as goal

pub returns : goal.returns
unfolding front_block
returns c = refl
