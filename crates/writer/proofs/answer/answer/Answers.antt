-- `writer::answer::answer` meets its contract: its length is known before anything is put.
use mathlib.Core.Path.{sym, ◌∙◌}
use Rattle.std.proofs.Common.{◌≡◌, rules, Err}
use Rattle.writer.specs.Write.{answer_answer, answer_out}
use Rattle.writer.proofs.Answers.{pass_not, pass_put, by_length, not_passed}
use Rattle.base.proofs.Clauses.{value_out}
use Rattle.writer.proofs.answer.answer.Goals as goal

pub returns-then-not-ok_initiator : goal.returns-then-not-ok_initiator
unfolding answer_answer answer_out
returns-then-not-ok_initiator c = value_out (not_passed _ _ (sym c.ok_initiator.ensures ∙ c.if-not-ok_initiator.true))

pub returns-in_err-fitting : goal.returns-in_err-fitting
unfolding answer_answer answer_out
returns-in_err-fitting c =
    let same : c.from_residual.result ≡ Err c.in_err-fitting.field-0.0 = search rules in
    value_out (pass_not _ _ _ (by_length _ _ (sym c.ok_initiator.ensures ∙ c.if-not-ok_initiator.false) c.answer_len-len.ensures)
    c.answer_len-len.ensures c.fitting.ensures c.in_err-fitting.was same)

pub returns : goal.returns
unfolding answer_answer answer_out
returns c =
    value_out (pass_put _ _ _ (by_length _ _ (sym c.ok_initiator.ensures ∙ c.if-not-ok_initiator.false) c.answer_len-len.ensures)
    c.answer_len-len.ensures c.fitting.ensures c.in_ok-fitting.was
    c.put_answer.ensures)
