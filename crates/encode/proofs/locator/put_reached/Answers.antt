-- `encode::locator::put_reached` meets its contract.
use Rattle.rfc8990.specs.Encoding.{reached}
use Rattle.encode.proofs.Puts.{then}
use Rattle.encode.proofs.locator.put_reached.Goals as goal

pub returns : goal.returns
unfolding reached
returns c = then (then c.head-a.ensures
    c.head-b.ensures) c.part_string.ensures
