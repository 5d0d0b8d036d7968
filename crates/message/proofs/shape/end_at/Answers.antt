-- `message::shape::end_at` meets its contract.
use native.Mathlib.Omega.{arith}
use Rattle.options.proofs.Fits.{outcome_within}
use Rattle.message.proofs.shape.end_at.Goals as goal

pub overflow_add-result : goal.overflow_add-result
overflow_add-result c =
    omega (arith, c.well_formed, outcome_within c.args.s.now _ c.in_ok-session.second _ _ c.read_at.ensures c.in_ok-o.was)
