-- `encode::kinds::put_reason` meets its contract.
use Rattle.rfc8990.specs.Encoding.{encode_outc, encode_msg}
use Rattle.encode.proofs.Puts.{then}
use Rattle.encode.proofs.kinds.put_reason.Goals as goal

pub returns : goal.returns
unfolding encode_msg encode_outc
returns c =
    then c.put_preamble-a.ensures
    (then (then c.head-b.ensures c.head-c.ensures) c.part_string.ensures)
