-- `description::judge::ok_pair` meets its contract.
use Rattle.description.specs.Judge.{ok_pair}
use Rattle.base.specs.Pick.{pick}
use borrow.Author.Tests.{eq-eqb, ne_eqb}
use Rattle.description.proofs.judge.ok_pair.Goals as goal

pub returns-then-list-i-ne0 : goal.returns-then-list-i-ne0
unfolding ok_pair pick
returns-then-list-i-ne0 c = rw (ne_eqb _ _ c.if-list-i-ne0.true)

pub returns-then-ok_objective_row : goal.returns-then-ok_objective_row
unfolding ok_pair pick
returns-then-ok_objective_row c = rw (
  eq-eqb _ _ c.if-list-i-ne0.false,
  ← c.objective_row_at-o.ensures,
  ← c.locator_row_at-p.ensures,
  ← c.ok_objective_row.ensures,
  c.if-ok_objective_row.true,
) c.ok_none_or.ensures

pub returns : goal.returns
unfolding ok_pair pick
returns c = rw (
  eq-eqb _ _ c.if-list-i-ne0.false,
  ← c.objective_row_at-o.ensures,
  ← c.ok_objective_row.ensures,
  c.if-ok_objective_row.false,
)
