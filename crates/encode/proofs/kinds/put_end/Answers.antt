-- `encode::kinds::put_end` meets its contract.
use Rattle.description.specs.Meaning.{end_of}
use Rattle.encode.proofs.kinds.put_end.Goals as goal

pub returns-in-Accept : goal.returns-in-Accept
unfolding end_of
returns-in-Accept c = rw c.in-Accept.is c.put_accept.ensures

pub returns-in-Decline : goal.returns-in-Decline
unfolding end_of
returns-in-Decline c = rw c.in-Decline.is c.put_decline.ensures

pub returns-in-Reason : goal.returns-in-Reason
unfolding end_of
returns-in-Reason c = rw c.in-Reason.is c.put_reason.ensures
