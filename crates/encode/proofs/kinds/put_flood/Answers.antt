-- `encode::kinds::put_flood` meets its contract.
use Rattle.rfc8990.specs.Encoding.{encode_msg}
use Rattle.encode.proofs.Puts.{then}
use Rattle.description.proofs.Items.{length_pairs}
use Rattle.encode.proofs.kinds.put_flood.Goals as goal

pub returns : goal.returns
unfolding encode_msg
returns c =
    rw (length_pairs) (then (then (then c.put_preamble-a.ensures c.part_string-b.ensures)
    c.head-c.ensures) c.put_pairs.ensures)
