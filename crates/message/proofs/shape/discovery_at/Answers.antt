-- `message::shape::discovery_at` meets its contract.
use native.Mathlib.Omega.{arith}
use Rattle.options.proofs.Fits.{objective_within}
use Rattle.message.proofs.shape.discovery_at.Goals as goal

pub overflow_add-result : goal.overflow_add-result
overflow_add-result c =
    omega (arith, c.well_formed, objective_within 2 c.args.s.now _ c.in_ok-initiator.third _ _ c.read_at.ensures c.in_ok-o.was)
