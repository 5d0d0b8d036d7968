-- `encode::kinds::put_preamble` meets its contract.
use Rattle.rfc8990.specs.Encoding.{preamble}
use Rattle.encode.proofs.Puts.{then}
use Rattle.encode.proofs.kinds.put_preamble.Goals as goal

pub returns : goal.returns
unfolding preamble
returns c = then (then c.head-a.ensures
    c.head-b.ensures) c.head.ensures
