-- `encode::kinds::put_discovery` meets its contract.
use Rattle.rfc8990.specs.Encoding.{encode_msg}
use Rattle.encode.proofs.Puts.{then}
use Rattle.encode.proofs.kinds.put_discovery.Goals as goal

pub returns : goal.returns
unfolding encode_msg
returns c = then (then c.put_preamble-a.ensures
    c.part_string-b.ensures) c.put_given.ensures
