-- `forms::block::exchange` meets its contract.
use Rattle.forms.specs.Block.{exchange_block}
use Rattle.forms.proofs.block.exchange.Goals as goal

pub returns : goal.returns
unfolding exchange_block
returns c = rw (← c.put_front.ensures) c.put_objective.ensures
