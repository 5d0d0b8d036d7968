-- The relay table's rows: what a filled row holds, what freeing leaves, the lowest row that passes a test.
-- Assumes nothing.
use Rattle.std.specs.Option.{is_some}
use Rattle.std.proofs.lemmas.Option.{none-some, same_Some}
use mathlib.Core.Path.{◌≡◌, refl, sym, ap, ◌∙◌}
use mathlib.Core.Logic.{◌≢◌, ◌⊎◌, inl, inr}
use mathlib.Core.Bool.{Bool, true, false, cond, not, ◌&&◌, ◌||◌}
use mathlib.Core.List.{List, [], ◌∷◌}
use Prim.Native.Nat.{ℕ, zero, suc, ◌+◌, ◌-◌, ◌*◌, ◌/◌, ◌≤◌, ◌<◌, zero-le}
use native.Mathlib.Nat.{le_refl, le_trans, add-zero, zero-add}
use native.Mathlib.Numerals.{add-one}
use native.Mathlib.Decide.{ℕ_discrete, dec_lt}
use native.Mathlib.Omega.{arith}
use lib.Dec.{ltb, leb, eqb}
use lib.ListN.{length, get_or, set, length-set, get_or-eq_default}
use lib.Seq.{set_out, get_or-set_same, get_or-set_other}
use borrow.Author.Tests.{ltb-true, ltb-false, leb-true, eqb-true, lt-ltb, le-ltb, le-leb, lt-leb, eq-eqb, ne_eqb, not-false}
use Rattle.std.specs.Prelude.{Option, Some, None}
use Rattle.std.specs.Option.{unwrap_or}
use Rattle.std.specs.List.{list_any, position_or_len, range_with_len}
use Rattle.base.specs.Pick.{pick}
use Rattle.base.proofs.Picks.{pick-case, both}
use Rattle.base.proofs.Bools.{true_or_false, and_left, and_right, and_true, or_left, or_right, or_true, not_both}
use Rattle.node_state.specs.declared.key.Key.{Key}
use Rattle.node_state.specs.Table.{row_told, where_sized, cell, put_row, row_free, row_keyed, row_used, row_bad, first_from, some_row, table_bad}
use Rattle.node_state.specs.Table.{row_life, row_dead, free_rows, freed, lowest_free, filled, row_matches, is_known}
use Rattle.node_state.specs.Key.{no_key}

-- ---- the table's length

module _ {A : Type 0} (t : List ℕ) (x y : A) where
  pub of_sized : length t ≡ 256 → where_sized t x y ≡ x
  unfolding where_sized pick
  of_sized e = rw (eq-eqb (length t) 256 e) refl

  pub of_other : (length t ≡ 256 → ⊥) → where_sized t x y ≡ y
  unfolding where_sized pick
  of_other ne = rw (ne_eqb (length t) 256 ne) refl

-- ---- a filled row

pub length_put : (t : List ℕ) (i : ℕ) (k : Key) (clock : ℕ) → length (put_row t i k clock) ≡ length t
unfolding put_row
length_put t i k clock = simp length-set

-- the numbers of other rows are as they were
put_apart : (t : List ℕ) (i : ℕ) (k : Key) (clock n : ℕ) → n / 4 ≢ i → get_or (put_row t i k clock) n 0 ≡ get_or t n 0
unfolding put_row
put_apart t i k clock n ne =
    get_or-set_other (set (set (set t (4 * i) k.first) (4 * i + 1) k.second) (4 * i + 2) k.third) (4 * i + 3) n clock 0 (λ e. ne (omega arith))
    ∙ get_or-set_other (set (set t (4 * i) k.first) (4 * i + 1) k.second) (4 * i + 2) n k.third 0 (λ e. ne (omega arith))
    ∙ get_or-set_other (set t (4 * i) k.first) (4 * i + 1) n k.second 0 (λ e. ne (omega arith))
    ∙ get_or-set_other t (4 * i) n k.first 0 (λ e. ne (omega arith))

pub put_other : (t : List ℕ) (i : ℕ) (k : Key) (clock n j : ℕ) → n ≢ i → j < 4 → cell (put_row t i k clock) n j ≡ cell t n j
unfolding cell
put_other t i k clock n j ne h = put_apart t i k clock (4 * n + j) (λ e. ne (omega arith))

-- past the end nothing is filled
put_out : (t : List ℕ) (i : ℕ) (k : Key) (clock : ℕ) → length t ≤ 4 * i → put_row t i k clock ≡ t
unfolding put_row
put_out t i k clock h =
    rw (
      set_out t (4 * i) k.first h,
      set_out t (4 * i + 1) k.second (omega arith),
      set_out t (4 * i + 2) k.third (omega arith),
      set_out t (4 * i + 3) clock (omega arith),
    ) refl

-- row i has the key k and was admitted at d
pub record Holds (t : List ℕ) (i : ℕ) (k : Key) (d : ℕ) : Type 0 where
  pub first : cell t i 0 ≡ k.first
  pub second : cell t i 1 ≡ k.second
  pub third : cell t i 2 ≡ k.third
  pub clock : cell t i 3 ≡ d

-- a row that is put reads as it was put, where each of its numbers does
put_reads : (t : List ℕ) (i : ℕ) (k : Key) (d : ℕ) (P : ℕ → Type 0)
    → ((l : List ℕ) (j v : ℕ) → length l ≡ length t → j < 4 → P v → get_or (set l (4 * i + j) v) (4 * i + j) 0 ≡ v)
    → P k.first → P k.second → P k.third → P d → Holds (put_row t i k d) i k d
unfolding put_row cell
put_reads t i k d P reads p₀ p₁ p₂ p₃ =
    let t₁ = set t (4 * i) k.first in
    let t₂ = set t₁ (4 * i + 1) k.second in
    let t₃ = set t₂ (4 * i + 2) k.third in
    let l₁ : length t₁ ≡ length t = length-set t (4 * i) k.first in
    let l₂ : length t₂ ≡ length t = length-set t₁ (4 * i + 1) k.second ∙ l₁ in
    let l₃ : length t₃ ≡ length t = length-set t₂ (4 * i + 2) k.third ∙ l₂ in
    record {
      first =
          get_or-set_other t₃ (4 * i + 3) (4 * i + 0) d 0 (omega arith) ∙ get_or-set_other t₂ (4 * i + 2) (4 * i + 0) k.third 0 (omega arith)
          ∙ get_or-set_other t₁ (4 * i + 1) (4 * i + 0) k.second 0 (omega arith) ∙ ap (λ (n : ℕ). get_or t₁ n 0) (add-zero (4 * i))
          ∙ rw add-zero at (reads t 0 k.first refl (omega arith) p₀);
      second =
          get_or-set_other t₃ (4 * i + 3) (4 * i + 1) d 0 (omega arith) ∙ get_or-set_other t₂ (4 * i + 2) (4 * i + 1) k.third 0 (omega arith)
          ∙ reads t₁ 1 k.second l₁ (omega arith) p₁;
      third = get_or-set_other t₃ (4 * i + 3) (4 * i + 2) d 0 (omega arith) ∙ reads t₂ 2 k.third l₂ (omega arith) p₂;
      clock = reads t₃ 3 d l₃ (omega arith) p₃;
    }

-- one of the table's rows
pub put_holds : (t : List ℕ) (i : ℕ) (k : Key) (d : ℕ) → length t ≡ 256 → i < 64 → Holds (put_row t i k d) i k d
put_holds t i k d len h = put_reads t i k d (λ _. Unit {0}) (λ l j v e low _. get_or-set_same l (4 * i + j) v 0 (omega arith)) tt tt tt tt

-- four zeros, anywhere
put_clears : (t : List ℕ) (i : ℕ) → Holds (put_row t i no_key 0) i no_key 0
put_clears t i = put_reads t i no_key 0 (λ v. v ≡ 0) (λ l j v e low zero. rw zero (set_zero l (4 * i + j))) refl refl refl refl
  where
    set_zero : (l : List ℕ) (j : ℕ) → get_or (set l j 0) j 0 ≡ 0
    set_zero [] j = refl
    set_zero (x ∷ l) zero = refl
    set_zero (x ∷ l) (suc j) = set_zero l j

-- a row past the last is four zeros
pub past_zeros : (t : List ℕ) (i : ℕ) → length t ≡ 256 → 64 ≤ i → Holds t i no_key 0
unfolding cell
past_zeros t i len h =
    let zero_at : (j : ℕ) → get_or t (4 * i + j) 0 ≡ 0 = λ j. get_or-eq_default t 0 {n = 4 * i + j} (omega arith) in
    record { first = zero_at 0; second = zero_at 1; third = zero_at 2; clock = zero_at 3 }

-- a row that is as another table has it
pub same_holds : (t u : List ℕ) (i : ℕ) {k : Key} {d : ℕ} → ((j : ℕ) → j < 4 → cell u i j ≡ cell t i j) → Holds t i k d → Holds u i k d
same_holds t u i same h =
    record {
      first = same 0 (omega arith) ∙ h.first;
      second = same 1 (omega arith) ∙ h.second;
      third = same 2 (omega arith) ∙ h.third;
      clock = same 3 (omega arith) ∙ h.clock;
    }

-- ---- freeing dead rows

pub length_free : (now : ℕ) (t : List ℕ) (n : ℕ) → length (free_rows now t n) ≡ length t
unfolding free_rows
length_free now t zero = refl
length_free now t (suc n) =
    let rest = length_free now t n in both (λ (l : List ℕ). length l ≡ length t) _ (length_put (free_rows now t n) n no_key 0 ∙ rest) rest

-- the rows that are still to come are as they were
free_ahead : (now : ℕ) (t : List ℕ) (n i j : ℕ) → n ≤ i → cell (free_rows now t n) i j ≡ cell t i j
unfolding free_rows cell
free_ahead now t zero i j h = refl
free_ahead now t (suc n) i j h =
    let rest = free_ahead now t n i j (omega arith) in
    both (λ (f : List ℕ). get_or f (4 * i + j) 0 ≡ get_or t (4 * i + j) 0) _
    (put_apart (free_rows now t n) n no_key 0 (4 * i + j) (λ e. omega arith) ∙ rest) rest

-- so a row is judged as it was
free_judged : (now : ℕ) (t : List ℕ) (n : ℕ) → row_dead now (free_rows now t n) n ≡ row_dead now t n
unfolding row_dead
free_judged now t n = rw (free_ahead now t n n 0 (le_refl n), free_ahead now t n n 3 (le_refl n)) refl

-- a row that isn't dead is as it was
pub free_live : (now : ℕ) (t : List ℕ) (n i j : ℕ) → row_dead now t i ≡ false → j < 4 → cell (free_rows now t n) i j ≡ cell t i j
unfolding free_rows
free_live now t zero i j live l = refl
free_live now t (suc n) i j live l =
    let rest = free_live now t n i j live l in
    pick-case (λ f. cell f i j ≡ cell t i j) _
    (λ e. elim (ℕ_discrete i n) [
      | yes at ↦ absurd (not_both (row_dead now t i) (ap (row_dead now t) at ∙ sym (free_judged now t n) ∙ e) live)
      | no ne ↦ put_other (free_rows now t n) n no_key 0 i j ne l ∙ rest
    ])
    (λ e. rest)

-- a dead row is four zeros
pub free_dead : (now : ℕ) (t : List ℕ) (n i : ℕ) → i < n → row_dead now t i ≡ true → Holds (free_rows now t n) i no_key 0
unfolding free_rows
free_dead now t zero i h dead = absurd (omega arith)
free_dead now t (suc n) i h dead = elim (ℕ_discrete i n) [
  | yes at ↦
      pick-case (λ f. Holds f i no_key 0) _ (λ e. rw at (put_clears (free_rows now t n) n))
      (λ e. absurd (not_both (row_dead now t n) (ap (row_dead now t) (sym at) ∙ dead) (sym (free_judged now t n) ∙ e)))
  | no ne ↦
      let rest = free_dead now t n i (omega arith) dead in
      both (λ f. Holds f i no_key 0) _
      (same_holds (free_rows now t n) (put_row (free_rows now t n) n no_key 0) i (λ j l. put_other (free_rows now t n) n no_key 0 i j ne l) rest) rest
]

-- and no row is admitted later than it was
pub free_admitted : (now : ℕ) (t : List ℕ) (n i d : ℕ) → cell t i 3 ≤ d → cell (free_rows now t n) i 3 ≤ d
unfolding free_rows
free_admitted now t zero i d h = h
free_admitted now t (suc n) i d h =
    let rest = free_admitted now t n i d h in
    both (λ (f : List ℕ). cell f i 3 ≤ d) _
    (elim (ℕ_discrete i n) [
      | yes at ↦ rw (at, (put_clears (free_rows now t n) n).clock) zero-le
      | no ne ↦ rw (put_other (free_rows now t n) n no_key 0 i 3 ne (omega arith)) rest
    ])
    rest

-- no row lives for less than 60,000 ms
pub life_least : (first : ℕ) → 60000 ≤ row_life first
unfolding row_life
life_least first = both (λ (n : ℕ). 60000 ≤ n) _ (omega arith) (omega arith)

pub free_keeps : (now : ℕ) (t : List ℕ) (i : ℕ) (k : Key) (d : ℕ) → Holds t i k d → now - d < row_life k.first → Holds (freed now t) i k d
unfolding row_dead freed
free_keeps now t i k d h live =
    let alive : row_dead now t i ≡ false = rw (h.first, h.clock) (lt-leb (row_life k.first) (now - d) live) in
    same_holds t (free_rows now t 64) i (λ j l. free_live now t 64 i j alive l) h

-- ---- the lowest row that passes a test

pub first_hit : (p : ℕ → Bool) (n i : ℕ) → first_from p n i < i + n → p (first_from p n i) ≡ true
unfolding first_from
first_hit p zero i = λ h. absurd (omega arith)
first_hit p (suc n) i = pick-case (λ (r : ℕ). r < i + suc n → p r ≡ true) (p i) (λ e h. e) (λ e h. first_hit p n (suc i) (omega arith))

pub first_miss : (p : ℕ → Bool) (n i k : ℕ) → i ≤ k → k < first_from p n i → p k ≡ false
unfolding first_from
first_miss p zero i k l = λ h. absurd (omega arith)
first_miss p (suc n) i k l =
    pick-case (λ (r : ℕ). k < r → p k ≡ false) (p i) (λ e h. absurd (omega arith))
    (λ e h. elim (ℕ_discrete i k) [ yes same ↦ rw (← same) e | no ne ↦ first_miss p n (suc i) k (omega arith) h ])

-- it is no row past the last
pub first_most : (p : ℕ → Bool) (n i : ℕ) → first_from p n i ≤ i + n
unfolding first_from
first_most p zero i = omega arith
first_most p (suc n) i = both (λ (r : ℕ). r ≤ i + suc n) (p i) (omega arith) (omega (arith, first_most p n (suc i)))

-- where no row passes a test, none does
none_passes : (p : ℕ → Bool) (k : ℕ) → some_row p ≡ false → k < 64 → p k ≡ false
unfolding some_row
none_passes p k e l = first_miss p 64 0 k zero-le (le_trans l (ltb-false (first_from p 64 0) 64 e))

-- and where some row does, there is one
pub some_passes : (p : ℕ → Bool) → some_row p ≡ true → (i : ℕ) × (i < 64) × (p i ≡ true)
unfolding some_row
some_passes p e = let l = ltb-true (first_from p 64 0) 64 e in (first_from p 64 0, l, first_hit p 64 0 l)

pub passes_some : (p : ℕ → Bool) (k : ℕ) → k < 64 → p k ≡ true → some_row p ≡ true
passes_some p k l e = elim (true_or_false (some_row p)) [ inl q ↦ q | inr q ↦ absurd (not_both (p k) e (none_passes p k q l)) ]

-- ---- free rows

pub free_zeros : (t : List ℕ) (i : ℕ) → row_free t i ≡ true → Holds t i no_key 0
unfolding row_free
free_zeros t i e =
    let a = eqb (cell t i 0) 0 in
    let b = eqb (cell t i 1) 0 in
    let c = eqb (cell t i 2) 0 in
    let d = eqb (cell t i 3) 0 in
    let abc = and_left (a && b && c) d e in
    let ab = and_left (a && b) c abc in
    record {
      first = eqb-true (cell t i 0) 0 (and_left a b ab);
      second = eqb-true (cell t i 1) 0 (and_right a b ab);
      third = eqb-true (cell t i 2) 0 (and_right (a && b) c abc);
      clock = eqb-true (cell t i 3) 0 (and_right (a && b && c) d e);
    }

pub zeros_free : (t : List ℕ) (i : ℕ) → Holds t i no_key 0 → row_free t i ≡ true
unfolding row_free
zeros_free t i h = rw (h.first, h.second, h.third, h.clock) refl

-- the lowest free row is free, if there is one
pub lowest_zero : (t : List ℕ) → lowest_free t < 64 → Holds t (lowest_free t) no_key 0
unfolding lowest_free
lowest_zero t h = free_zeros t (lowest_free t) (first_hit (row_free t) 64 0 h)

-- ---- keys

pub holds_matches : (k : Key) (t : List ℕ) (i d : ℕ) → Holds t i k d → row_matches k t i ≡ true
unfolding row_matches
holds_matches k t i d h =
    and_true (eqb (cell t i 0) k.first && eqb (cell t i 1) k.second) (eqb (cell t i 2) k.third)
    (and_true (eqb (cell t i 0) k.first) (eqb (cell t i 1) k.second) (eq-eqb (cell t i 0) k.first h.first)
    (eq-eqb (cell t i 1) k.second h.second))
    (eq-eqb (cell t i 2) k.third h.third)

pub matches_holds : (k : Key) (t : List ℕ) (i : ℕ) → row_matches k t i ≡ true → Holds t i k (cell t i 3)
unfolding row_matches
matches_holds k t i e =
    let a = eqb (cell t i 0) k.first in
    let b = eqb (cell t i 1) k.second in
    let c = eqb (cell t i 2) k.third in
    record {
      first = eqb-true (cell t i 0) k.first (and_left a b (and_left (a && b) c e));
      second = eqb-true (cell t i 1) k.second (and_right a b (and_left (a && b) c e));
      third = eqb-true (cell t i 2) k.third (and_right (a && b) c e);
      clock = refl;
    }

-- a key that isn't known stands in no row
pub unknown : (k : Key) (t : List ℕ) (i d : ℕ) → is_known k t ≡ false → i < 64 → Holds t i k d → ⊥
unfolding is_known
unknown k t i d e l h = not_both (row_matches k t i) (holds_matches k t i d h) (none_passes (row_matches k t) i e l)

-- ---- a table that isn't refused

pub table_sized : (now : ℕ) (t : List ℕ) → table_bad now t ≡ false → length t ≡ 256
unfolding table_bad
table_sized now t e = eqb-true (length t) 256 (not-false (eqb (length t) 256) (or_left (not (eqb (length t) 256)) (some_row (row_bad now t)) e))

pub row_good : (now : ℕ) (t : List ℕ) (i : ℕ) → table_bad now t ≡ false → (row_free t i ≡ true) ⊎ (row_used now t i ≡ true)
unfolding table_bad row_bad
row_good now t i e = elim (dec_lt i 64) [
  | yes l ↦
      let none = or_right (not (eqb (length t) 256)) (some_row (row_bad now t)) e in
      or_true (row_free t i) (row_used now t i) (not-false (row_free t i || row_used now t i) (none_passes (row_bad now t) i none l))
  | no l ↦ inl (zeros_free t i (past_zeros t i (table_sized now t e) (omega arith)))
]

-- no row was admitted after the call's clock
pub row_admitted : (now : ℕ) (t : List ℕ) (i : ℕ) → table_bad now t ≡ false → cell t i 3 ≤ now
unfolding row_used
row_admitted now t i e = elim (row_good now t i e) [
  | inl f ↦ omega (arith, (free_zeros t i f).clock)
  | inr u ↦ leb-true (cell t i 3) now (and_right (row_keyed t i) (leb (cell t i 3) now) u)
]

-- ---- for the loops

-- a search by the library, over the numbers as a list
pub any_listed : (p : ℕ → Bool) (n i : ℕ) → list_any p (range_with_len i n) ≡ ltb (first_from p n i) (i + n)
unfolding first_from pick
any_listed p zero i = sym (le-ltb i (i + 0) (omega arith))
any_listed p (suc n) i = elim (true_or_false (p i)) [
  | inl e ↦ rw e (sym (lt-ltb i (i + suc n) (omega arith)))
  | inr e ↦
      let m : i + 1 + n ≡ i + suc n = omega arith in
      rw e (any_listed p n (i + 1) ∙ ap (λ k. ltb (first_from p n (i + 1)) k) m ∙ ap (λ k. ltb (first_from p n k) (i + suc n)) (add-one i))
]

pub some_listed : (p : ℕ → Bool) → list_any p (range_with_len 0 64) ≡ some_row p
unfolding some_row
some_listed p = any_listed p 64 0

place_listed : (p : ℕ → Bool) (n i : ℕ) → i + position_or_len p (range_with_len i n) ≡ first_from p n i
unfolding first_from pick
place_listed p zero i = add-zero i
place_listed p (suc n) i = elim (true_or_false (p i)) [
  | inl e ↦ rw e (add-zero i)
  | inr e ↦
      let m : i + (1 + position_or_len p (range_with_len (i + 1) n)) ≡ i + 1 + position_or_len p (range_with_len (i + 1) n) = omega arith in
      rw e (m ∙ place_listed p n (i + 1) ∙ ap (first_from p n) (add-one i))
]

length_listed : (n i : ℕ) → length (range_with_len i n) ≡ n
length_listed zero i = refl
length_listed (suc n) i = ap suc (length_listed n (i + 1))

-- the place that is found among the rows
pub found_listed : (p : ℕ → Bool) {r : Option ℕ}
    → r ≡ cond (ltb (position_or_len p (range_with_len 0 64)) (length (range_with_len 0 64))) (Some (position_or_len p (range_with_len 0 64))) None
    → r ≡ row_told (first_from p 64 0)
unfolding row_told pick
found_listed p e =
    let k = position_or_len p (range_with_len 0 64) in
    let is : k ≡ first_from p 64 0 = sym (zero-add k) ∙ place_listed p 64 0 in
    rw (e, length_listed 64 0, ← is) (elim (dec_lt k 64) [
      | yes l ↦ rw (lt-ltb k 64 l) refl
      | no l ↦ rw (le-ltb k 64 (omega arith)) refl
    ])

-- a pass over the rows, at its place i
pub pass_dead : (now : ℕ) (t u v : List ℕ) (i : ℕ) → u ≡ free_rows now t i → row_dead now u i ≡ true → v ≡ put_row u i no_key 0 → v ≡ free_rows now t (i + 1)
unfolding pick free_rows
pass_dead now t u v i e d h =
    let dead : row_dead now (free_rows now t i) i ≡ true = rw e at d in
    rw (add-one, dead) (rw e at h)

pub pass_live : (now : ℕ) (t u : List ℕ) (i : ℕ) → u ≡ free_rows now t i → row_dead now u i ≡ false → u ≡ free_rows now t (i + 1)
unfolding pick free_rows
pass_live now t u i e d =
    let live : row_dead now (free_rows now t i) i ≡ false = rw e at d in
    rw (add-one, live) e

-- a row that was admitted after the clock lives
pub later_lives : (first now d : ℕ) → now < d → false ≡ leb (row_life first) (now - d)
later_lives first now d l = sym (lt-leb (row_life first) (now - d) (omega (arith, life_least first)))

-- which row is told, and where none is
pub row_some : (i : ℕ) {row : ℕ} → row_told i ≡ Some row → (row ≡ i) × (i < 64)
unfolding row_told pick
row_some i e = elim (dec_lt i 64) [
  | yes l ↦ (sym (same_Some _ _ (rw (lt-ltb i 64 l) at e)), l)
  | no l ↦ absurd (none-some _ (rw (le-ltb i 64 (omega arith)) at e))
]

pub row_none : (i : ℕ) → row_told i ≡ None → 64 ≤ i
unfolding row_told pick
row_none i e = elim (dec_lt i 64) [
  | yes l ↦ absurd (none-some _ (sym (rw (lt-ltb i 64 l) at e)))
  | no l ↦ omega arith
]

-- by the test for one
pub row_gone : (i : ℕ) (r : Option ℕ) → r ≡ row_told i → is_some r ≡ false → 64 ≤ i
row_gone i None e _ = row_none i (sym e)
row_gone i (Some row) e h = absurd (let z : true ≡ false = h in cc)

pub row_there : (i : ℕ) (r : Option ℕ) → r ≡ row_told i → is_some r ≡ true → i < 64
row_there i None e h = absurd (let z : false ≡ true = h in cc)
row_there i (Some row) e _ = (row_some i (sym e)).1

-- the lowest free row filled, and where none is free
module _ (t : List ℕ) (k : Key) (clock : ℕ) (sized : length t ≡ 256) where
  pub fills_none : row_told (lowest_free t) ≡ None → (None ≡ row_told (where_sized t (lowest_free t) 64)) × (t ≡ where_sized t (filled t k clock) t)
  unfolding filled pick
  fills_none e = (
    rw (of_sized t (lowest_free t) 64 sized) (sym e),
    rw (of_sized t (filled t k clock) t sized, le-ltb (lowest_free t) 64 (row_none (lowest_free t) e)) refl,
  )

  pub fills_row : {row : ℕ} {t' : List ℕ} → row_told (lowest_free t) ≡ Some row → t' ≡ put_row t row k clock
      → (Some row ≡ row_told (where_sized t (lowest_free t) 64)) × (t' ≡ where_sized t (filled t k clock) t)
  unfolding filled pick
  fills_row e h =
      let (same, l) = row_some (lowest_free t) e in (
        rw (of_sized t (lowest_free t) 64 sized) (sym e),
        rw (of_sized t (filled t k clock) t sized, lt-ltb (lowest_free t) 64 l, ← same) h,
      )

-- the code's index of a row's first number
pub cell_first : (t : List ℕ) (i : ℕ) → cell t i 0 ≡ get_or t (4 * i) 0
unfolding cell
cell_first t i = ap (λ (k : ℕ). get_or t k 0) (add-zero (4 * i))

-- a row that was admitted after the clock
pub later_bad : (now d : ℕ) → ltb now d ≡ not (leb d now)
later_bad now d = elim (dec_lt now d) [
  | yes l ↦ rw (lt-ltb now d l, lt-leb d now l) refl
  | no l ↦ rw (le-ltb now d (omega arith), le-leb d now (omega arith)) refl
]
