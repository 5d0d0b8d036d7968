-- The digits of a number at the end of a line.
-- Assumes nothing.
use Prim.Native.Nat.{ℕ}
use mathlib.Core.List.{List, [], ◌∷◌, ◌++◌}
use mathlib.Core.Bool.{Bool, true, false}
use lib.Dec.{ltb}
use Rattle.base.specs.Pick.{pick}
use Rattle.text.specs.Line.{decimal, numbered}

-- what holds of one, two and three digits with a line feed holds of a number and a line feed
pub by_digits : (P : List ℕ → Type 0) → ((a : ℕ) → P (a ∷ 10 ∷ [])) → ((a b : ℕ) → P (a ∷ b ∷ 10 ∷ [])) → ((a b c : ℕ) → P (a ∷ b ∷ c ∷ 10 ∷ []))
    → (n : ℕ) → P (numbered n)
unfolding numbered decimal pick
by_digits P one two three n = by (ltb n 10) (ltb n 100) _ _ _ _ _ _
  where
    by : (t u : Bool) (a b c d e f : ℕ) → P (pick t (a ∷ []) (pick u (b ∷ c ∷ []) (d ∷ e ∷ f ∷ [])) ++ (10 ∷ []))
    by true u a b c d e f = one a
    by false true a b c d e f = two b c
    by false false a b c d e f = three d e f
