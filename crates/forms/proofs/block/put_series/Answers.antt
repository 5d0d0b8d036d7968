-- `forms::block::put_series` meets its contract.
use mathlib.Core.Path.{refl}
use Rattle.forms.specs.Block.{with_series}
use Rattle.forms.proofs.block.put_series.Goals as goal

pub returns : goal.returns
unfolding with_series
returns c = refl
