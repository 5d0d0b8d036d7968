-- The numbers of a row, in a list that may end before it.
-- Assumes nothing.
use Prim.Native.Nat.{ℕ, ◌+◌, ◌≤◌}
use mathlib.Core.Path.{◌≡◌}
use mathlib.Core.List.{List}
use native.Mathlib.Omega.{arith}
use lib.ListN.{length, get_or, get_or-eq_default}
use Rattle.description.specs.Meaning.{locator_row_at, objective_row_at}

-- past the end all are 0
none_at : (l : List ℕ) (k j : ℕ) → length l ≤ k → get_or l (k + j) 0 ≡ 0
none_at l k j h = get_or-eq_default l 0 {n = k + j} (omega arith)

module _ (l : List ℕ) (k : ℕ) (h : length l ≤ k) where
  pub no_locator_row : record { kind = 0; content = record { at = 0; len = 0 }; protocol = 0; port = 0 } ≡ locator_row_at l k
  unfolding locator_row_at
  no_locator_row = rw (get_or-eq_default l 0 {n = k} h, none_at l k 1 h, none_at l k 2 h, none_at l k 3 h, none_at l k 4 h)

  pub no_entry : record { name = record { at = 0; len = 0 }; flags = 0; count = 0; value = record { at = 0; len = 0 } } ≡ objective_row_at l k
  unfolding objective_row_at
  no_entry =
      rw (get_or-eq_default l 0 {n = k} h, none_at l k 1 h, none_at l k 2 h, none_at l k 3 h, none_at l k 5 h, none_at l k 6 h)

-- and those that were found make the row
module _ (l : List ℕ) (k : ℕ) where
  pub locator_row_is : {a b c d e : ℕ} → a ≡ get_or l k 0 → b ≡ get_or l (k + 1) 0 → c ≡ get_or l (k + 2) 0 → d ≡ get_or l (k + 3) 0 → e ≡ get_or l (k + 4) 0
      → record { kind = a; content = record { at = b; len = c }; protocol = d; port = e } ≡ locator_row_at l k
  unfolding locator_row_at
  locator_row_is p q r s t = rw (p, q, r, s, t)

  pub objective_row_is : {a b c d e f : ℕ} → a ≡ get_or l k 0 → b ≡ get_or l (k + 1) 0 → c ≡ get_or l (k + 2) 0 → d ≡ get_or l (k + 3) 0 → e
      ≡ get_or l (k + 5) 0
      → f ≡ get_or l (k + 6) 0
      → record { name = record { at = a; len = b }; flags = c; count = d; value = record { at = e; len = f } } ≡ objective_row_at l k
  unfolding objective_row_at
  objective_row_is p q r s t u = rw (p, q, r, s, t, u)
