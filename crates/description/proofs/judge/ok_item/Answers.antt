-- `description::judge::ok_item` meets its contract.
use Rattle.description.specs.Judge.{ok_item}
use Rattle.base.specs.Pick.{pick}
use Rattle.description.proofs.judge.ok_item.Goals as goal

pub returns-then-is_inside : goal.returns-then-is_inside
unfolding ok_item pick
returns-then-is_inside c = rw (← c.is_inside.ensures, c.if-is_inside.true) c.ok_value.ensures

pub returns : goal.returns
unfolding ok_item pick
returns c = rw (← c.is_inside.ensures, c.if-is_inside.false)
