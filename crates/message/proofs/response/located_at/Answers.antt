-- `message::response::located_at` meets its contract.
use native.Mathlib.Omega.{arith}
use lib.ListN.{length-drop}
use Rattle.options.proofs.Series.{locators_within}
use Rattle.message.proofs.response.located_at.Goals as goal

pub overflow_sub-targets : goal.overflow_sub-targets
overflow_sub-targets c =
    omega (arith, c.requires, locators_within c.args.s.now c.args.at _ _ _ c.read_at.ensures c.in_ok-l.was)

pub overflow_add-at : goal.overflow_add-at
overflow_add-at c =
    omega (
      arith,
      c.well_formed,
      length-drop c.args.at c.args.s.now,
      locators_within c.args.s.now c.args.at _ _ _ c.read_at.ensures c.in_ok-l.was,
    )
