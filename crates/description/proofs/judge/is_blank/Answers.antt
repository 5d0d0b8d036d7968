-- `description::judge::is_blank` meets its contract.
use Rattle.description.specs.Judge.{blank_locator_row}
use Rattle.base.specs.Pick.{pick}
use borrow.Author.Tests.{eq-eqb, ne_eqb}
use Rattle.description.proofs.judge.is_blank.Goals as goal

pub returns-then-p-ne0 : goal.returns-then-p-ne0
unfolding blank_locator_row pick
returns-then-p-ne0 c = rw (ne_eqb _ _ c.if-p-ne0.true)

pub returns-then-p-ne0-2 : goal.returns-then-p-ne0-2
unfolding blank_locator_row pick
returns-then-p-ne0-2 c = rw (eq-eqb _ _ c.if-p-ne0.false, ne_eqb _ _ c.if-p-ne0-2.true)

pub returns-then-p-ne0-3 : goal.returns-then-p-ne0-3
unfolding blank_locator_row pick
returns-then-p-ne0-3 c = rw (eq-eqb _ _ c.if-p-ne0.false, eq-eqb _ _ c.if-p-ne0-2.false, ne_eqb _ _ c.if-p-ne0-3.true)

pub returns : goal.returns
unfolding blank_locator_row pick
returns c =
    rw (eq-eqb _ _ c.if-p-ne0.false, eq-eqb _ _ c.if-p-ne0-2.false, eq-eqb _ _ c.if-p-ne0-3.false)
