-- `forms::described::is_blank` meets its contract.
use Rattle.forms.specs.Described.{is_blank}
use Rattle.forms.proofs.described.is_blank.Goals as goal

pub returns : goal.returns
unfolding is_blank
returns c =
    rw (← c.all_fit.ensures)
