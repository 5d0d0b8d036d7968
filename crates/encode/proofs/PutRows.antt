-- Locators and pairs, row by row.
-- Assumes nothing.
use Prim.Native.Nat.{ℕ, zero, suc, ◌+◌, ◌≤◌}
use mathlib.Core.Path.{◌≡◌, refl, sym, ap, ◌∙◌}
use mathlib.Core.Bool.{Bool, true, false}
use mathlib.Core.List.{List, [], ◌∷◌, ◌++◌, flat_map, append_assoc, append-nil}
use native.Mathlib.Numerals.{add-one}
use native.Mathlib.Nat.{le_antisymm}
use native.Mathlib.Omega.{arith}
use lib.ListN.{length}
use Rattle.encode.specs.Put.{Wrote}
use Rattle.rfc8990.specs.Encoding.{target_items, how_many}
use Rattle.std.specs.Prelude.{Option, Some, None}
use Rattle.description.specs.declared.GivenObjective.{GivenObjective}
use Rattle.description.specs.Meaning.{list_of, targets_of, extra_of}
use Rattle.description.proofs.Items.{length_locs}
use Rattle.encode.proofs.Puts.{then, still}

-- one more
flat_more : {A : Type 0} (encode : A → List ℕ) (xs : List A) (x : A) → flat_map encode (xs ++ (x ∷ [])) ≡ flat_map encode xs ++ encode x
unfolding flat_map
flat_more encode [] x = append-nil (encode x)
flat_more encode (y ∷ xs) x = ap (λ (t : List ℕ). encode y ++ t) (flat_more encode xs x) ∙ sym (append_assoc (encode y) (flat_map encode xs) (encode x))

-- rows put one after the other, by what a row says and how that is encoded
module _ {A : Type 0} (encode : A → List ℕ) (row : ℕ → A) where
  -- the first i
  unfoldable pub first_rows : ℕ → List ℕ
  first_rows i = flat_map encode (list_of row i)

  pub rows_none : (l : List ℕ) (at : ℕ) → Wrote l l at (first_rows 0) at
  unfolding first_rows list_of flat_map
  rows_none l at = still l at

  pub rows_turn : {l l' l'' : List ℕ} {at m r : ℕ} (i : ℕ) → Wrote l l' at (first_rows i) m → Wrote l' l'' m (encode (row i)) r
      → Wrote l l'' at (first_rows (i + 1)) r
  unfolding first_rows list_of
  rows_turn i v w = rw (add-one i, flat_more) (then v w)

  pub rows_done : {l l' : List ℕ} {at r : ℕ} (i n : ℕ) → i ≤ n → n ≤ i → Wrote l l' at (first_rows i) r → Wrote l l' at (flat_map encode (list_of row n)) r
  unfolding first_rows
  rows_done i n p q v = rw (le_antisymm p q) at v

  -- the same by the bytes of each
  pub rows_bytes : (n : ℕ) → flat_map (λ i. encode (row i)) (list_of (λ i. i) n) ≡ flat_map encode (list_of row n)
  unfolding list_of flat_map
  rows_bytes zero = refl
  rows_bytes (suc n) =
      flat_more (λ i. encode (row i)) (list_of (λ i. i) n) n
      ∙ ap (λ (t : List ℕ). t ++ encode (row n)) (rows_bytes n)
      ∙ sym (flat_more encode (list_of row n) (row n))

-- how many items a Response's parts are, over no bytes as over any source
pub targets_many : (source list : List ℕ) (d : Bool) → target_items (targets_of [] list d) ≡ target_items (targets_of source list d)
unfolding target_items targets_of
targets_many source list true = refl
targets_many source list false = length_locs [] list ∙ sym (length_locs source list)

pub extra_many : (source : List ℕ) (m : Option GivenObjective) → how_many (extra_of [] m) ≡ how_many (extra_of source m)
unfolding how_many extra_of
extra_many source None = refl
extra_many source (Some o) = refl

-- and that they are few
pub targets_few : (source list : List ℕ) (d : Bool) (t : ℕ) → t ≡ target_items (targets_of source list d) → t ≤ 1 + length list
unfolding target_items targets_of
targets_few source list true t e = omega arith
targets_few source list false t e = omega (arith, length_locs source list)

pub extra_few : (source : List ℕ) (m : Option GivenObjective) (t : ℕ) → t ≡ how_many (extra_of source m) → t ≤ 1
unfolding how_many extra_of
extra_few source None t e = omega arith
extra_few source (Some o) t e = omega arith
