-- `forms::block::end` meets its contract.
use Rattle.forms.specs.Block.{end_block}
use Rattle.forms.proofs.block.end.Goals as goal

pub returns : goal.returns
unfolding end_block
returns c = rw (← c.put_front.ensures) c.put_outcome.ensures
