-- `encode::locator::put_row` meets its contract.
use Rattle.description.specs.Meaning.{row_loc}
use Rattle.encode.proofs.locator.put_row.Goals as goal

pub returns : goal.returns
unfolding row_loc
returns c = rw (← c.locator_row_at-p.ensures) c.put_locator_row.ensures
