-- `description::judge::ok_list` meets its contract.
use Rattle.description.specs.Judge.{ok_list}
use Rattle.base.specs.Pick.{pick}
use Rattle.description.proofs.judge.ok_list.Goals as goal

pub returns-then-has_list : goal.returns-then-has_list
unfolding ok_list pick
returns-then-has_list c = rw (← c.has_list.ensures, c.if-has_list.true)

pub returns : goal.returns
unfolding ok_list pick
returns c = rw (← c.has_list.ensures, c.if-has_list.false)
