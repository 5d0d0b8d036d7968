-- `writer::relay::lower` meets its contract: the tests are those of `lower_answer`, on a length that is known before
-- anything is put.
use Rattle.std.proofs.Common.{◌≡◌, refl, rules, Err}
use native.Mathlib.Nat.{le_trans}
use native.Mathlib.Omega.{arith}
use borrow.Author.Tests.{lt-ltb, le-ltb, eq-eqb, ne_eqb}
use Rattle.base.specs.Pick.{pick}
use Rattle.writer.specs.Write.{ok_lower, lower_answer, lower_out}
use Rattle.writer.proofs.Lengths.{head_few, lowered_length}
use Rattle.writer.proofs.Answers.{pass_not, pass_put, by_length}
use Rattle.base.proofs.Clauses.{value_out}
use Rattle.writer.proofs.relay.lower.Goals as goal

pub returns-then-count-eq0 : goal.returns-then-count-eq0
unfolding lower_answer lower_out ok_lower pick
returns-then-count-eq0 c = rw (eq-eqb _ _ c.if-count-eq0.true) record { value = refl; out_after = refl }

pub returns-then-end-at : goal.returns-then-end-at
unfolding lower_answer lower_out ok_lower pick
returns-then-end-at c = rw (ne_eqb _ _ c.if-count-eq0.false, lt-ltb _ _ c.if-end-at.true) record { value = refl; out_after = refl }

pub returns-then-message-end : goal.returns-then-message-end
unfolding lower_answer lower_out ok_lower pick
returns-then-message-end c = rw (ne_eqb _ _ c.if-count-eq0.false, le-ltb _ _ c.if-end-at.false, lt-ltb _ _ c.if-message-end.true) record
    { value = refl; out_after = refl }

pub overflow_add-len : goal.overflow_add-len
overflow_add-len c = omega (arith, head_few _ _ c.head_len.ensures)

pub returns-in_err-fitting : goal.returns-in_err-fitting
unfolding lower_answer lower_out ok_lower pick
returns-in_err-fitting c =
    let same : c.from_residual.result ≡ Err c.in_err-fitting.field-0.0 = search rules in
    rw (ne_eqb _ _ c.if-count-eq0.false, le-ltb _ _ c.if-end-at.false, le-ltb _ _ c.if-message-end.false)
    (let e = (lowered_length _ _ _ _ _ (le_trans c.if-end-at.false c.if-message-end.false) c.head_len.ensures) in
    value_out (pass_not _ _ _ (by_length _ _ refl e) e c.fitting.ensures c.in_err-fitting.was same))

pub returns : goal.returns
unfolding lower_answer lower_out ok_lower pick
returns c =
    rw (ne_eqb _ _ c.if-count-eq0.false, le-ltb _ _ c.if-end-at.false, le-ltb _ _ c.if-message-end.false)
    (let e =
    (lowered_length _ _ _ _ _ (le_trans c.if-end-at.false c.if-message-end.false) c.head_len.ensures) in
    value_out (pass_put _ _ _ (by_length _ _ refl e) e c.fitting.ensures c.in_ok-fitting.was
    c.put_lowered.ensures))
