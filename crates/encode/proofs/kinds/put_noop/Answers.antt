-- `encode::kinds::put_noop` meets its contract.
use Rattle.rfc8990.specs.Encoding.{encode_msg}
use Rattle.encode.proofs.Puts.{then}
use Rattle.encode.proofs.kinds.put_noop.Goals as goal

pub returns : goal.returns
unfolding encode_msg
returns c = then c.head-a.ensures c.head.ensures
