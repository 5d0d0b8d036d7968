-- `encode::kinds::put_response` meets its contract.
use Rattle.rfc8990.specs.Encoding.{encode_msg}
use Rattle.encode.proofs.Puts.{then}
use Rattle.encode.proofs.PutRows.{targets_few, extra_few, targets_many, extra_many}
use native.Mathlib.Omega.{arith}
use Rattle.encode.proofs.kinds.put_response.Goals as goal

pub overflow_add-targets : goal.overflow_add-targets
overflow_add-targets c = omega (arith, targets_few _ _ _ _ c.target_items-targets.ensures, extra_few _ _ _ c.how_many-more.ensures)

pub overflow_add-targets-2 : goal.overflow_add-targets-2
overflow_add-targets-2 c = omega (arith, targets_few _ _ _ _ c.target_items-targets.ensures, extra_few _ _ _ c.how_many-more.ensures)

pub returns : goal.returns
unfolding encode_msg
returns c =
    rw (← targets_many, ← extra_many, ← c.target_items-targets.ensures, ← c.how_many-more.ensures)
    (then (then (then (then c.put_preamble-a.ensures c.part_string-b.ensures) c.head-c.ensures)
    c.put_targets-d.ensures) c.put_extra.ensures)
