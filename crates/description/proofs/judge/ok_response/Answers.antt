-- `description::judge::ok_response` meets its contract.
use Rattle.description.specs.Judge.{ok_response}
use Rattle.base.specs.Pick.{pick}
use Rattle.description.proofs.judge.ok_response.Goals as goal

pub returns-then-ok_rows : goal.returns-then-ok_rows
unfolding ok_response pick
returns-then-ok_rows c = rw (
  ← c.is_inside.ensures,
  c.if-is_inside.true,
  ← c.ok_rows.ensures,
  c.if-ok_rows.true,
) c.ok_extra.ensures

pub returns-then-is_inside : goal.returns-then-is_inside
unfolding ok_response pick
returns-then-is_inside c = rw (← c.is_inside.ensures, c.if-is_inside.true, ← c.ok_rows.ensures, c.if-ok_rows.false)

pub returns : goal.returns
unfolding ok_response pick
returns c = rw (← c.is_inside.ensures, c.if-is_inside.false)
