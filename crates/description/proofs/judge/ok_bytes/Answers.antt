-- `description::judge::ok_bytes` meets its contract.
use Rattle.description.specs.Judge.{ok_value}
use Rattle.base.specs.Pick.{pick}
use borrow.Author.Tests.{eq-eqb, ne_eqb}
use Rattle.description.proofs.judge.ok_bytes.Goals as goal

pub returns-then-s-eq0 : goal.returns-then-s-eq0
unfolding ok_value pick
returns-then-s-eq0 c = rw (eq-eqb _ _ c.if-s-eq0.true)

pub returns : goal.returns
unfolding ok_value pick
returns c = rw (ne_eqb _ _ c.if-s-eq0.false) c.is_whole.ensures
