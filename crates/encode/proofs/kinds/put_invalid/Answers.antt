-- `encode::kinds::put_invalid` meets its contract.
use Rattle.options.specs.Text.{held}
use Rattle.rfc8990.specs.Encoding.{encode_msg}
use Rattle.encode.proofs.Puts.{then}
use Rattle.description.proofs.Items.{more_le}
use native.Mathlib.Omega.{arith}
use Rattle.encode.proofs.kinds.put_invalid.Goals as goal

pub overflow_add-more : goal.overflow_add-more
overflow_add-more c = omega (
  arith,
  c.one_more-more.ensures,
  more_le (held c.args.source.now c.args.item),
)

pub returns : goal.returns
unfolding encode_msg
returns c = rw (← c.one_more-more.ensures)
    (then c.put_preamble-a.ensures c.part.ensures)
