-- `forms::block::discovery` meets its contract.
use Rattle.forms.specs.Block.{discovery_block}
use Rattle.forms.proofs.block.discovery.Goals as goal

pub returns : goal.returns
unfolding discovery_block
returns c = rw (← c.put_front.ensures) c.put_objective.ensures
