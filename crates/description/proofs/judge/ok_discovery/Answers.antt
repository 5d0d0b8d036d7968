-- `description::judge::ok_discovery` meets its contract.
use Rattle.description.specs.Judge.{ok_discovery}
use Rattle.base.specs.Pick.{pick}
use Rattle.description.proofs.judge.ok_discovery.Goals as goal

pub returns-then-is_inside : goal.returns-then-is_inside
unfolding ok_discovery pick
returns-then-is_inside c = rw (← c.is_inside.ensures, c.if-is_inside.true) c.ok_given.ensures

pub returns : goal.returns
unfolding ok_discovery pick
returns c = rw (← c.is_inside.ensures, c.if-is_inside.false)
