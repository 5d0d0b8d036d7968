-- `description::judge::ok_given` meets its contract.
use Rattle.description.proofs.judge.ok_given.Goals as goal

pub returns : goal.returns
returns c = rw (← c.objective_row_of-entry.ensures) c.ok_objective_row.ensures
