-- `description::judge::ok_flood` meets its contract.
use Rattle.description.specs.Judge.{ok_flood}
use Rattle.base.specs.Pick.{pick}
use Rattle.description.proofs.judge.ok_flood.Goals as goal

pub returns-then-is_inside : goal.returns-then-is_inside
unfolding ok_flood pick
returns-then-is_inside c = rw (← c.is_inside.ensures, c.if-is_inside.true) c.ok_pairs.ensures

pub returns : goal.returns
unfolding ok_flood pick
returns c = rw (← c.is_inside.ensures, c.if-is_inside.false)
