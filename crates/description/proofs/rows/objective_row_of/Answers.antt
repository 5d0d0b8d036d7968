-- `description::rows::objective_row_of` meets its contract.
use mathlib.Core.Path.{refl}
use Rattle.description.specs.Meaning.{objective_row_of}
use Rattle.description.proofs.rows.objective_row_of.Goals as goal

pub returns : goal.returns
unfolding objective_row_of
returns c = refl
