-- `description::judge::ok_row` meets its contract.
use Rattle.description.specs.Judge.{ok_row}
use Rattle.description.proofs.judge.ok_row.Goals as goal

pub returns : goal.returns
unfolding ok_row
returns c = rw (← c.locator_row_at-p.ensures) c.ok_locator_row.ensures
