-- `encode::kinds::put_exchange` meets its contract.
use Rattle.rfc8990.specs.Encoding.{exchange}
use Rattle.encode.proofs.Puts.{then}
use Rattle.encode.proofs.kinds.put_exchange.Goals as goal

pub returns : goal.returns
unfolding exchange
returns c = then c.put_preamble-a.ensures c.put_given.ensures
