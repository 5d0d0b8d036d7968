-- `message::response::targets_at` meets its contract.
use native.Mathlib.Omega.{arith}
use lib.ListN.{length-drop}
use Rattle.options.proofs.Series.{divert_within}
use Rattle.message.proofs.response.targets_at.Goals as goal

pub overflow_add-at : goal.overflow_add-at
overflow_add-at c =
    omega (
      arith,
      c.well_formed,
      length-drop c.args.at c.args.s.now,
      rw c.in-Some.is at (divert_within c.args.s.now c.args.at _ _ c.read_at.ensures c.in_ok-d.was),
    )
