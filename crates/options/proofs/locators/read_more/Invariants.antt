-- `options::locators::read_more` meets its contract: what is left of the loop is the whole.
use Prim.Native.Nat.{◌-◌, ◌≤◌}
use lib.ListN.{length}
use Rattle.options.proofs.Series.{Turns}
use Rattle.options.proofs.locators.read_more.Given as goal

abbrev pub invariant-loop-i : goal.invariant-loop-i
invariant-loop-i l = (l.at ≤ length l.s) × Turns l.base l.s l.first l.n l.from l.fn.first_bad (l.n - l.i) l.at l.bad
