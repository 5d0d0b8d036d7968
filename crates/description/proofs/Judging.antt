-- The judge's loops and choices.
-- Assumes nothing.
use Prim.Native.Nat.{ℕ, zero, suc, ◌+◌, ◌*◌, ◌-◌, ◌/◌, ◌%◌, ◌≤◌, ◌<◌}
use mathlib.Core.Path.{◌≡◌, refl, ap, ◌∙◌}
use mathlib.Core.Bool.{Bool, true, false, ◌&&◌}
use mathlib.Core.List.{List}
use native.Mathlib.Numerals.{add-one}
use native.Mathlib.Nat.{mul-add, mul-le-mul_left, mul-div-le, sub-zero, add-sub_cancel_left}
use native.Mathlib.Decide.{dec_lt}
use native.Mathlib.Omega.{arith}
use lib.ListN.{length, take, drop}
use borrow.Author.Tests.{eq-eqb, ne_eqb}
use Rattle.std.specs.List.{list_all, range_with_len}
use Rattle.options.specs.Text.{held}
use Rattle.base.specs.Pick.{pick}
use Rattle.base.proofs.Parts.{rest_is}
use Rattle.options.specs.declared.Span.{Span}
use Rattle.description.specs.Judge.{ok_value, all_from, ok_each}
use Rattle.description.proofs.Held.{held_none, held_rest}

module _ (p : ℕ → Bool) (n i : ℕ) where
  left : i < n → n - i ≡ suc (n - (i + 1))
  left h = omega arith

  pub all_step : p i ≡ true → all_from p (n - i) i ≡ all_from p (n - (i + 1)) (i + 1)
  unfolding all_from pick
  all_step e =
      elim (dec_lt i n) [
        | yes h ↦ rw (left h, e, add-one i)
        | no h ↦ let none : n - i ≡ 0 = omega arith in let none' : n - (i + 1) ≡ 0 = omega arith in rw (none, none')
      ]

  pub all_stop : i < n → p i ≡ false → all_from p (n - i) i ≡ false
  unfolding all_from pick
  all_stop h e = rw (left h, e)

  pub all_end : n ≤ i → all_from p (n - i) i ≡ true
  unfolding all_from
  all_end h = let e : n - i ≡ 0 = omega arith in rw e

-- the same over the numbers as a list
joined : (s t : Bool) → (s && t) ≡ pick s t false
unfolding pick
joined true t = refl
joined false t = refl

pub all_listed : (p : ℕ → Bool) (n i : ℕ) → list_all p (range_with_len i n) ≡ all_from p n i
unfolding all_from
all_listed p zero i = refl
all_listed p (suc n) i =
    ap (λ t. p i && t) (all_listed p n (i + 1) ∙ ap (all_from p n) (add-one i)) ∙ joined (p i) (all_from p n (suc i))

module _ (size : ℕ) (ok : ℕ → Bool) (list : List ℕ) where
  pub each_start : length list % size ≡ 0 → all_from ok (length list / size - 0) 0 ≡ ok_each size ok list
  unfolding ok_each pick
  each_start h = rw (eq-eqb (length list % size) 0 h, sub-zero)

  pub each_bad : (length list % size ≡ 0 → ⊥) → false ≡ ok_each size ok list
  unfolding ok_each pick
  each_bad h = rw (ne_eqb (length list % size) 0 h)

-- a row lies in the list
pub row_within : (size i n : ℕ) → 0 < size → i < n / size → size * i + size ≤ n
row_within size i n some h =
    let more : i + 1 ≤ n / size = omega arith in
    omega (arith, mul-le-mul_left size more, mul-add size i 1, mul-div-le n size)

module _ (source : List ℕ) (s : Span) where
  pub value_none : length source < s.at → true ≡ ok_value (held source s)
  unfolding ok_value pick
  value_none h = rw (held_none source s h)

  pub value_rest : (r : Bool) → length source - s.at < s.len → r ≡ ok_value (take (length source - s.at) (drop s.at source)) → r ≡ ok_value (held source s)
  value_rest r h e = rw (held_rest source s h, ← rest_is s.at source) e

  pub value_in : (r : Bool) → r ≡ ok_value (take (s.at + s.len - s.at) (drop s.at source)) → r ≡ ok_value (held source s)
  value_in r e = rw (add-sub_cancel_left s.at s.len) at e
