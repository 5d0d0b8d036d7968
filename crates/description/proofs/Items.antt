-- How many items the parts of a description are.
-- Assumes nothing.
use Prim.Native.Nat.{ℕ, zero, suc, ◌+◌, ◌/◌, ◌≤◌}
use mathlib.Core.Path.{◌≡◌, refl, ap, ◌∙◌}
use mathlib.Core.List.{List, [], ◌∷◌}
use native.Mathlib.Omega.{arith}
use lib.ListN.{length, length-append}
use Rattle.rfc8990.specs.Encoding.{one_more}
use Rattle.description.specs.Meaning.{locator_row, pair_row, list_of, locs_of, pairs_of}

length_up : {A : Type 0} (f : ℕ → A) (n : ℕ) → length (list_of f n) ≡ n
unfolding list_of
length_up f zero = refl
length_up f (suc n) = length-append (list_of f n) (f n ∷ []) ∙ ap (λ (k : ℕ). k + 1) (length_up f n) ∙ omega arith

pub length_locs : (source list : List ℕ) → length (locs_of source list) ≡ length list / locator_row
unfolding locs_of
length_locs source list = length_up _ _

pub length_pairs : (source list : List ℕ) → length (pairs_of source list) ≡ length list / pair_row
unfolding pairs_of
length_pairs source list = length_up _ _

pub more_none : (bs : List ℕ) (n : ℕ) → n ≡ length bs → n ≡ 0 → 0 ≡ one_more bs
unfolding one_more
more_none [] n e h = refl
more_none (x ∷ bs) n e h = absurd (omega (arith, e, h))

pub more_one : (bs : List ℕ) (n : ℕ) → n ≡ length bs → (n ≡ 0 → ⊥) → 1 ≡ one_more bs
unfolding one_more
more_one [] n e h = absurd (h e)
more_one (x ∷ bs) n e h = refl

-- one at most
pub more_le : (bs : List ℕ) → one_more bs ≤ 1
unfolding one_more
more_le [] = omega arith
more_le (x ∷ bs) = omega arith
