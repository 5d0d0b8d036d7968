-- `description::judge::ok_each` meets its contract. The loop's invariant: the rows from here on decide what all do.
use mathlib.Core.Path.{◌≡◌}
use mathlib.Core.Bool.{Bool}
use Prim.Native.Nat.{ℕ, ◌-◌, ◌/◌}
use lib.ListN.{length}
use Rattle.description.specs.Judge.{all_from, ok_each}
use Rattle.description.proofs.judge.ok_each.Given as goal

abbrev pub invariant-loop-i : goal.invariant-loop-i
invariant-loop-i g l =
    (p : ℕ → Bool) → ((i : ℕ) (r : Bool) → goal.F-post g l.ok i r → r ≡ p i)
    → all_from p (length l.list / l.size - l.i) l.i ≡ ok_each l.size p l.list
