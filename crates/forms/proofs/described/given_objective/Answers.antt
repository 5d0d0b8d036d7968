-- `forms::described::given_objective` meets its contract.
use Rattle.forms.specs.Described.{given_objective}
use Rattle.forms.proofs.described.given_objective.Goals as goal

pub returns : goal.returns
unfolding given_objective
returns c =
    rw (← c.span.ensures, ← c.span-2.ensures)
