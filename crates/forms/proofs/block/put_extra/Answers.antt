-- `forms::block::put_extra` meets its contract.
use Rattle.forms.specs.Block.{with_extra}
use Rattle.forms.proofs.block.put_extra.Goals as goal

pub returns-in-None : goal.returns-in-None
unfolding with_extra
returns-in-None c = rw c.in-None.is

pub returns-in-Some : goal.returns-in-Some
unfolding with_extra
returns-in-Some c = rw c.in-Some.is c.put_objective.ensures
