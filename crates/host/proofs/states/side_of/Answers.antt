-- `host::states::side_of` meets its contract.
use Rattle.base.specs.Pick.{pick}
use borrow.Author.Tests.{eq-eqb, ne_eqb}
use Rattle.host.specs.States.{side_of}
use Rattle.host.proofs.states.side_of.Goals as goal

pub returns-then-number-eq0 : goal.returns-then-number-eq0
unfolding side_of pick
returns-then-number-eq0 c = rw (eq-eqb _ _ c.if-number-eq0.true)

pub returns : goal.returns
unfolding side_of pick
returns c = rw (ne_eqb _ _ c.if-number-eq0.false)
