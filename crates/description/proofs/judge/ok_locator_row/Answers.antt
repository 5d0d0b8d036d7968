-- `description::judge::ok_locator_row` meets its contract.
use Rattle.description.specs.Judge.{ok_locator_row}
use Rattle.base.specs.Pick.{pick}
use borrow.Author.Tests.{lt-ltb, le-ltb}
use Rattle.description.proofs.judge.ok_locator_row.Goals as goal

pub returns-then-kind-lt103 : goal.returns-then-kind-lt103
unfolding ok_locator_row pick
returns-then-kind-lt103 c = rw (lt-ltb _ _ c.if-kind-lt103.true)

pub returns-then-kind-gt106 : goal.returns-then-kind-gt106
unfolding ok_locator_row pick
returns-then-kind-gt106 c = rw (le-ltb _ _ c.if-kind-lt103.false, lt-ltb _ _ c.if-kind-gt106.true)

pub returns : goal.returns
unfolding ok_locator_row pick
returns c = rw (le-ltb _ _ c.if-kind-lt103.false, le-ltb _ _ c.if-kind-gt106.false) c.is_inside.ensures
