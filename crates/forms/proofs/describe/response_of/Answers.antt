-- `forms::describe::response_of` meets its contract.
use Rattle.forms.specs.Describe.{description_of}
use Rattle.forms.proofs.describe.response_of.Goals as goal

pub returns : goal.returns
unfolding description_of
returns c =
    rw (← c.is_divert.ensures, ← c.extra_of.ensures)
