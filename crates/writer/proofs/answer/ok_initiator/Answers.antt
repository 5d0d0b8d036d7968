-- `writer::answer::ok_initiator` meets its contract.
use Rattle.base.proofs.Tests.{tests}
use Rattle.base.specs.Pick.{pick}
use Rattle.writer.specs.Write.{ok_initiator}
use Rattle.writer.proofs.answer.ok_initiator.Goals as goal

pub returns-then-s-eq4 : goal.returns-then-s-eq4
unfolding ok_initiator pick
returns-then-s-eq4 c = search tests

pub returns : goal.returns
unfolding ok_initiator pick
returns c = search tests
