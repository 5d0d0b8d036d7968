-- `forms::rows::put_numbers` meets its contract: the numbers are copied into a part that is lent.
use Rattle.base.proofs.Parts.{lent_sets}
use Rattle.forms.proofs.rows.put_numbers.Goals as goal

pub returns : goal.returns
returns c = lent_sets _ _ _ c.requires c.copy_from_slice.ensures.after
