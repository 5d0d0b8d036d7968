-- `encode::pair::put_pair` meets its contract.
use Rattle.rfc8990.specs.Encoding.{encode_pair}
use Rattle.description.specs.Meaning.{row_pair}
use Rattle.encode.proofs.Puts.{then}
use Rattle.encode.proofs.pair.put_pair.Goals as goal

pub returns : goal.returns
unfolding encode_pair row_pair
returns c =
    rw (← c.objective_row_at-o.ensures, ← c.locator_row_at-p.ensures)
    (then (then c.head-a.ensures c.put_objective_row-b.ensures)
    c.put_locator_row_or_empty.ensures)
