-- `description::judge::ok_objective_row` meets its contract.
use Rattle.description.specs.Judge.{ok_objective_row}
use Rattle.base.specs.Pick.{pick}
use Rattle.description.proofs.judge.ok_objective_row.Goals as goal

pub returns-then-is_inside : goal.returns-then-is_inside
unfolding ok_objective_row pick
returns-then-is_inside c = rw (← c.is_inside.ensures, c.if-is_inside.true) c.ok_item.ensures

pub returns : goal.returns
unfolding ok_objective_row pick
returns c = rw (← c.is_inside.ensures, c.if-is_inside.false)
