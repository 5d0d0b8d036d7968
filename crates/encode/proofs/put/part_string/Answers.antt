-- `encode::put::part_string` meets its contract.
use Rattle.rfc8990.specs.Encoding.{string}
use Rattle.encode.proofs.Puts.{then}
use Rattle.encode.proofs.put.part_string.Goals as goal

pub returns : goal.returns
unfolding string
returns c = rw (← c.covered-n.ensures)
    (then c.head-next.ensures c.part.ensures)
