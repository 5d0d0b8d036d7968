-- The loops over own names.
-- Assumes nothing.
use mathlib.Core.Path.{◌≡◌, refl, ap, ◌∙◌}
use mathlib.Core.Bool.{true, false}
use mathlib.Core.List.{List}
use Prim.Native.Nat.{ℕ, zero, suc, ◌+◌, ◌-◌, ◌<◌}
use native.Mathlib.Omega.{arith}
use Rattle.options.specs.Text.{content_in}
use Rattle.cbor.specs.declared.token.Token.{Token}
use Rattle.cbor.specs.Token.{token_at}
use Rattle.names.specs.Names.{good_name, good_names, named_from}
use Rattle.base.specs.Bytes.{same_bytes}

-- of n names, the one after k others stands at `at`
module _ (s : List ℕ) (at n k : ℕ) (t : Token) (is : t ≡ token_at s at) where
  less : n - k - 1 ≡ n - (k + 1)
  less = omega arith

  pub good_stop : k < n → good_name s t ≡ false → good_names s (n - k) at ≡ false
  unfolding good_names
  good_stop more bad = go (n - k) (omega arith)
    where
      go : (m : ℕ) → 0 < m → good_names s m at ≡ false
      go zero h = absurd (omega arith)
      go (suc m) h = rw (← is, bad) refl

  pub good_next : good_name s t ≡ true → good_names s (n - k) at ≡ good_names s (n - (k + 1)) t.next
  unfolding good_names
  good_next good = go (n - k) ∙ ap (λ m. good_names s m t.next) less
    where
      go : (m : ℕ) → good_names s m at ≡ good_names s (m - 1) t.next
      go zero = refl
      go (suc m) = let one : suc m - 1 ≡ m = omega arith in rw (← is, good, one) refl

  pub named_here : k < n → (name : List ℕ) → same_bytes (content_in s t) name ≡ true → named_from s name (n - k) at ≡ true
  unfolding named_from
  named_here more name here = go (n - k) (omega arith)
    where
      go : (m : ℕ) → 0 < m → named_from s name m at ≡ true
      go zero h = absurd (omega arith)
      go (suc m) h = rw (← is, here) refl

  pub named_next : (name : List ℕ) → same_bytes (content_in s t) name ≡ false → named_from s name (n - k) at ≡ named_from s name (n - (k + 1)) t.next
  unfolding named_from
  named_next name other = go (n - k) ∙ ap (λ m. named_from s name m t.next) less
    where
      go : (m : ℕ) → named_from s name m at ≡ named_from s name (m - 1) t.next
      go zero = refl
      go (suc m) = let one : suc m - 1 ≡ m = omega arith in rw (← is, other, one) refl
