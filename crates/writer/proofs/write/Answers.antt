-- `writer::write` meets its contract.
use Prim.Native.Nat.{ℕ}
use native.Mathlib.Omega.{arith}
use mathlib.Core.Path.{sym}
use lib.ListN.{length-replicate}
use lib.Seq.{length-take-le}
use Rattle.encode.proofs.Puts.{front_step}
use Rattle.writer.specs.Write.{draft_of}
use Rattle.writer.proofs.Answers.{not_described, described, pass_long, passed, few}
use Rattle.base.proofs.Clauses.{value_out}
use Rattle.writer.proofs.write.Goals as goal

pub returns-then-not-ok_described : goal.returns-then-not-ok_described
returns-then-not-ok_described c = value_out (not_described _ _ _ _ _ c.ok_described.ensures (c.if-not-ok_described.true))

pub returns-then-len-gt-MOST_BYTES : goal.returns-then-len-gt-MOST_BYTES
unfolding draft_of
returns-then-len-gt-MOST_BYTES c = value_out (described _ _ _ _ _ c.ok_described.ensures (c.if-not-ok_described.false)
    (pass_long (front_step c.message-len.ensures.value c.message-len.ensures.out_after) (length-replicate {A = ℕ} 2048 0) _ _
    c.if-len-gt-MOST_BYTES.true))

pub slice_bounds-accepts-end : goal.slice_bounds-accepts-end
slice_bounds-accepts-end c = sym (length-take-le _ _ (omega arith))

pub slice_bounds-hand-end : goal.slice_bounds-hand-end
slice_bounds-hand-end c = sym (length-take-le _ _ (omega arith))

pub hand-requires : goal.hand-requires
hand-requires c = few _ _ c.if-len-gt-MOST_BYTES.false

pub returns : goal.returns
unfolding draft_of
returns c =
    value_out (described _ _ _ _ _ c.ok_described.ensures (c.if-not-ok_described.false)
    (passed (front_step c.message-len.ensures.value c.message-len.ensures.out_after)
    (rw (length-replicate {A = ℕ} 2048 0) c.if-len-gt-MOST_BYTES.false) _
    c.accepts-accepted.ensures c.hand.ensures.value c.hand.ensures.out_after))
