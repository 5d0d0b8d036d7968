-- `forms::block::put_span` meets its contract.
use mathlib.Core.Path.{refl}
use Rattle.forms.specs.Block.{with_span}
use Rattle.forms.proofs.block.put_span.Goals as goal

pub returns : goal.returns
unfolding with_span
returns c = refl
