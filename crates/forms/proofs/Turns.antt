-- The turns of the loop that fills rows, and numbers put in a list.
-- Assumes nothing.
use mathlib.Core.Path.{◌≡◌}
use mathlib.Core.List.{List}
use Prim.Native.Nat.{ℕ, suc, ◌+◌, ◌-◌, ◌≤◌, ◌<◌}
use native.Mathlib.Nat.{sub-zero}
use native.Mathlib.Omega.{arith}
use Rattle.base.proofs.Parts.{}
use Rattle.forms.specs.Rows.{rows_from}

-- what is left of the rows, filled in the list as it is, is the whole
abbrev pub Filling : (ℕ → ℕ) → (ℕ → ℕ → List ℕ → List ℕ) → (n at₀ : ℕ) (list₀ : List ℕ) (i at : ℕ) (list : List ℕ) → Type 0
Filling next row n at₀ list₀ i at list = rows_from next row (n - i) i at list ≡ rows_from next row n 0 at₀ list₀

module _ (next : ℕ → ℕ) (row : ℕ → ℕ → List ℕ → List ℕ) (n at₀ : ℕ) (list₀ : List ℕ) where
  pub begun : Filling next row n at₀ list₀ 0 at₀ list₀
  begun = rw sub-zero

  pub turn : (i at : ℕ) (list : List ℕ) (at' : ℕ) (list' : List ℕ) → Filling next row n at₀ list₀ i at list → i < n → (at' ≡ next at) × (list' ≡ row at i list)
      → Filling next row n at₀ list₀ (i + 1) at' list'
  unfolding rows_from
  turn i at list at' list' f h (e, g) = let s : n - i ≡ suc (n - (i + 1)) = omega arith in rw (e, g) (rw s at f)

  pub filled : (i at : ℕ) {list : List ℕ} → Filling next row n at₀ list₀ i at list → n ≤ i → list ≡ rows_from next row n 0 at₀ list₀
  unfolding rows_from
  filled i at f h = let e : n - i ≡ 0 = omega arith in rw e at f
