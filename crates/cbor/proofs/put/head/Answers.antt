-- `cbor::put::head` meets its contract: each answer is a law of `Stores`.
use mathlib.Core.Logic.{inl}
use native.Mathlib.Omega.{arith}
use lib.ListN.{length-set}
use Rattle.base.proofs.Clauses.{value_out}
use Rattle.cbor.proofs.HeadExact.{info_lt}
use Rattle.cbor.proofs.Stores.{sized_len, not_stored, head_over, head_stored}
use Rattle.cbor.proofs.put.head.Goals as goal

pub returns-then-major-gt6 : goal.returns-then-major-gt6
returns-then-major-gt6 c = value_out (not_stored _ _ _ _ (inl c.if-major-gt6.true))

pub returns-then-room-len : goal.returns-then-room-len
returns-then-room-len c = value_out (head_over _ _ _ _ _ c.head_len-len.ensures (omega arith))

pub returns-then-room-len-2 : goal.returns-then-room-len-2
returns-then-room-len-2 c = value_out (head_over _ _ _ _ _ c.head_len-len.ensures (omega arith))

pub info-requires : goal.info-requires
info-requires c = sized_len _ _ c.head_len-len.ensures c.ranges.arg.fits

pub overflow_add-out : goal.overflow_add-out
overflow_add-out c = omega (
  arith,
  info_lt (sized_len _ _ c.head_len-len.ensures c.ranges.arg.fits),
)

pub spell-requires : goal.spell-requires
spell-requires c = simp length-set (omega arith)

pub returns : goal.returns
returns c =
    value_out (head_stored _ _ _ _ _ _ _ c.head_len-len.ensures c.info.ensures c.if-major-gt6.false (omega arith) c.spell.ensures)
