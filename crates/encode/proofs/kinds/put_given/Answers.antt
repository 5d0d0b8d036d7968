-- `encode::kinds::put_given` meets its contract.
use Rattle.encode.proofs.kinds.put_given.Goals as goal

pub returns : goal.returns
returns c = rw (← c.objective_row_of-entry.ensures) c.put_objective_row.ensures
