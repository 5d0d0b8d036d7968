-- `writer::hand` meets its contract.
use Rattle.std.proofs.Common.{◌≡◌, refl, rules, Err}
use Rattle.encode.proofs.Puts.{all_in}
use Rattle.writer.proofs.Answers.{pass_not, pass_put, in_length}
use Rattle.base.proofs.Clauses.{value_out}
use Rattle.writer.proofs.hand.Goals as goal

pub returns-in_err-fitting : goal.returns-in_err-fitting
returns-in_err-fitting c =
    let same : c.from_residual.result ≡ Err c.in_err-fitting.field-0.0 = search rules in
    value_out (pass_not _ _ _ (in_length _ _ c.requires) refl c.fitting.ensures c.in_err-fitting.was same)

pub returns : goal.returns
returns c = value_out (pass_put _ _ _ (in_length _ _ c.requires) refl
    c.fitting.ensures c.in_ok-fitting.was
    (all_in c.all.ensures.value c.all.ensures.out_after))
