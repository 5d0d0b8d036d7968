-- `forms::describe::given_of` meets its contract.
use mathlib.Core.Path.{refl}
use Rattle.forms.specs.Describe.{given_of}
use Rattle.forms.proofs.describe.given_of.Goals as goal

pub returns : goal.returns
unfolding given_of
returns c = refl
