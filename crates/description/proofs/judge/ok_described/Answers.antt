-- `description::judge::ok_described` meets its contract.
use Rattle.description.specs.Judge.{ok_described}
use Rattle.base.specs.Pick.{pick}
use Rattle.description.proofs.judge.ok_described.Goals as goal

pub returns-then-ok_list : goal.returns-then-ok_list
unfolding ok_described pick
returns-then-ok_list c = rw (← c.ok_list.ensures, c.if-ok_list.true) c.ok_parts.ensures

pub returns : goal.returns
unfolding ok_described pick
returns c = rw (← c.ok_list.ensures, c.if-ok_list.false)
