-- `encode::locator::put_fixed` meets its contract.
use Rattle.rfc8990.specs.Encoding.{fixed}
use Rattle.encode.proofs.Puts.{then}
use Rattle.encode.proofs.locator.put_fixed.Goals as goal

pub returns : goal.returns
unfolding fixed
returns c = then (then c.put_reached-a.ensures
    c.head-b.ensures) c.head.ensures
