-- `message::flood::flooded_at` meets its contract.
use native.Mathlib.Omega.{arith}
use Rattle.options.proofs.Fits.{pair_within}
use Rattle.message.proofs.flood.flooded_at.Goals as goal

pub overflow_add-at : goal.overflow_add-at
overflow_add-at c =
    omega (arith, c.well_formed, pair_within c.args.s.now _ c.args.at _ _ c.read_at.ensures c.in_ok-first.was)
