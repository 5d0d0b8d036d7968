-- `description::judge::ok_none_or` meets its contract.
use Rattle.description.specs.Judge.{ok_none_or}
use Rattle.base.specs.Pick.{pick}
use borrow.Author.Tests.{eq-eqb, ne_eqb}
use Rattle.description.proofs.judge.ok_none_or.Goals as goal

pub returns-then-kind-eq0 : goal.returns-then-kind-eq0
unfolding ok_none_or pick
returns-then-kind-eq0 c = rw (eq-eqb _ _ c.if-kind-eq0.true) c.is_blank.ensures

pub returns : goal.returns
unfolding ok_none_or pick
returns c = rw (ne_eqb _ _ c.if-kind-eq0.false) c.ok_locator_row.ensures
