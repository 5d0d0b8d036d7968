-- `forms::block::invalid` meets its contract.
use Rattle.forms.specs.Block.{invalid_block}
use Rattle.forms.proofs.block.invalid.Goals as goal

pub returns : goal.returns
unfolding invalid_block
returns c = rw (← c.put_front.ensures) c.put_span.ensures
