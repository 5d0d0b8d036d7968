-- `forms::block::response` meets its contract.
use Rattle.forms.specs.Block.{response_block}
use Rattle.forms.proofs.block.response.Goals as goal

pub returns : goal.returns
unfolding response_block
returns c = rw (← c.put_front.ensures, ← c.put_extra.ensures) c.put_targets.ensures
