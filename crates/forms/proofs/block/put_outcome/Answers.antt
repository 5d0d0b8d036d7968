-- `forms::block::put_outcome` meets its contract.
use Rattle.forms.specs.Block.{outcome_block}
use Rattle.forms.proofs.block.put_outcome.Goals as goal

pub returns-in-Accept : goal.returns-in-Accept
unfolding outcome_block
returns-in-Accept c = rw c.in-Accept.is c.put_span.ensures

pub returns-in-Decline : goal.returns-in-Decline
unfolding outcome_block
returns-in-Decline c = rw c.in-Decline.is c.put_span-in-Decline.ensures

pub returns-in-Reason : goal.returns-in-Reason
unfolding outcome_block
returns-in-Reason c = rw c.in-Reason.is c.put_span-in-Reason.ensures
