-- `description::judge::ok_outcome` meets its contract.
use Rattle.description.specs.Judge.{ok_outcome}
use Rattle.description.proofs.judge.ok_outcome.Goals as goal

pub returns-in-Accept : goal.returns-in-Accept
unfolding ok_outcome
returns-in-Accept c = rw c.in-Accept.is

pub returns-in-Decline : goal.returns-in-Decline
unfolding ok_outcome
returns-in-Decline c = rw c.in-Decline.is

pub returns-in-Reason : goal.returns-in-Reason
unfolding ok_outcome
returns-in-Reason c = rw c.in-Reason.is c.is_inside.ensures
