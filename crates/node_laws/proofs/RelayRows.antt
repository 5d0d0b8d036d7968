-- The rows of the relay table: which tables are refused, what freeing leaves, which row is found free, which key is
-- known, what a relay fills.
-- Assumes nothing.
use mathlib.Core.Path.{◌≡◌, refl, sym, ◌∙◌, subst}
use mathlib.Core.Logic.{◌≢◌, ◌⊎◌, inl, inr, ◌↔◌}
use mathlib.Core.Bool.{true, false}
use mathlib.Core.List.{List}
use Prim.Native.Nat.{ℕ, zero, suc, ◌≤◌, ◌<◌, zero-le}
use native.Mathlib.Decide.{dec_lt}
use native.Mathlib.Omega.{arith}
use lib.ListN.{length}
use borrow.Author.Tests.{eq-eqb}
use Rattle.base.proofs.Bools.{true_or_false, not_both}
use Rattle.node_state.specs.declared.key.Key.{Key}
use Rattle.node_state.specs.Table.{cell, put_row, row_free, row_bad, some_row, table_bad, freed, lowest_free, row_matches, is_known}
use Rattle.node_state.proofs.TableRows.{put_other, put_holds, length_put, length_free, first_hit, first_miss, first_most}
use Rattle.node_state.proofs.TableRows.{some_passes, passes_some, holds_matches, matches_holds, table_sized}
use Rattle.node_laws.specs.RelayRows.{Free, Used, Live, Dead, HasKey, SameRow}
use Rattle.node_laws.specs.Bars.{GoodTable}
use Rattle.node_laws.specs.Due.{Known, Full}
use Rattle.node_laws.proofs.Lives.{fails, free_is, row_passes, live_stays, live_used, row_whole, row_is, clears}

-- free rows have the same numbers
free_same : {t u : List ℕ} {i : ℕ} → Free u i → Free t i → SameRow u t i
free_same f g zero l = f.first ∙ sym g.first
free_same f g (suc zero) l = f.second ∙ sym g.second
free_same f g (suc (suc zero)) l = f.third ∙ sym g.third
free_same f g (suc (suc (suc zero))) l = f.fourth ∙ sym g.fourth
free_same f g (suc (suc (suc (suc j)))) l = absurd (omega arith)

-- the row that is found is free, and none below it is
found_free : (t : List ℕ) → lowest_free t < 64 → Free t (lowest_free t)
unfolding lowest_free
found_free t l = (free_is t (lowest_free t)).0 (first_hit (row_free t) 64 0 l)

below_used : (t : List ℕ) (k : ℕ) → k < lowest_free t → Free t k → ⊥
unfolding lowest_free
below_used t k l = fails (free_is t k) (first_miss (row_free t) 64 0 k zero-le l)

-- for readers

-- A table isn't refused exactly if it has 256 numbers and each row is free or used.
pub table_good : (now : ℕ) (t : List ℕ) → table_bad now t ≡ false ↔ GoodTable t now
unfolding table_bad row_bad
table_good now t = (λ e. (table_sized now t e, λ i l. row_whole now t e i), λ h. rw (eq-eqb (length t) 256 h.0, none h.1) refl)
  where
    none : ((i : ℕ) → i < 64 → Free t i ⊎ Used now t i) → some_row (row_bad now t) ≡ false
    none h = elim (true_or_false (some_row (row_bad now t))) [
      | inl e ↦ let (i, l, bad) = some_passes (row_bad now t) e in absurd (not_both (row_bad now t i) bad (row_passes now t i (h i l)))
      | inr e ↦ e
    ]

-- After freeing, a row is four zeros exactly if it was free or dead.
pub freed_zeros : (now : ℕ) (t : List ℕ) → table_bad now t ≡ false → (i : ℕ) → Free (freed now t) i ↔ (Free t i ⊎ Dead now t i)
freed_zeros now t good i = (λ f. elim (row_is now t good i) [ inl live ↦ absurd (live_used now t i live f) | inr h ↦ h ], clears now t good i)

-- If it wasn't dead, each of its four numbers is as it was.
pub freed_same : (now : ℕ) (t : List ℕ) → table_bad now t ≡ false → (i : ℕ) → (Dead now t i → ⊥) → SameRow (freed now t) t i
freed_same now t good i other = elim (row_is now t good i) [
  | inl live ↦ live_stays now t i live
  | inr (inl z) ↦ free_same (clears now t good i (inl z)) z
  | inr (inr d) ↦ absurd (other d)
]

-- Freeing leaves the table's length.
pub freed_length : (now : ℕ) (t : List ℕ) → length (freed now t) ≡ length t
unfolding freed
freed_length now t = length_free now t 64

-- The row that is found is the one that is free and has no free row below it.
pub lowest_is : (t : List ℕ) (i : ℕ) → i < 64 → lowest_free t ≡ i ↔ (Free t i × ((k : ℕ) → k < i → Free t k → ⊥))
lowest_is t i l = (
  λ e. (subst (Free t) e (found_free t (omega arith)), λ k h. below_used t k (omega arith)),
  λ (f, none). elim (dec_lt (lowest_free t) i) [
    | yes h ↦ absurd (none (lowest_free t) h (found_free t (omega arith)))
    | no h ↦ elim (dec_lt i (lowest_free t)) [ yes d ↦ absurd (below_used t i d f) | no d ↦ omega arith ]
  ],
)

-- It is no number above 64.
pub lowest_most : (t : List ℕ) → lowest_free t ≤ 64
unfolding lowest_free
lowest_most t = first_most (row_free t) 64 0

-- 64 stands for none: it is found exactly if no row is free.
pub lowest_none : (t : List ℕ) → lowest_free t ≡ 64 ↔ ((i : ℕ) → i < 64 → Free t i → ⊥)
lowest_none t = (
  λ e i l. below_used t i (omega arith),
  λ none. elim (dec_lt (lowest_free t) 64) [ yes h ↦ absurd (none (lowest_free t) h (found_free t h)) | no h ↦ omega (arith, lowest_most t) ],
)

-- A key is known exactly if some row has its three numbers.
pub known_is : (k : Key) (t : List ℕ) → is_known k t ≡ true ↔ ((i : ℕ) × (i < 64) × HasKey t i k)
unfolding is_known
known_is k t = (there, λ h. passes_some (row_matches k t) h.0 h.1 (back h.0 h.2))
  where
    there : some_row (row_matches k t) ≡ true → (i : ℕ) × (i < 64) × HasKey t i k
    there e =
        let (i, l, hit) = some_passes (row_matches k t) e in
        let h = matches_holds k t i hit in
        (i, l, record { first = h.first; second = h.second; third = h.third })

    back : (i : ℕ) → HasKey t i k → row_matches k t i ≡ true
    back i h = holds_matches k t i (cell t i 3) (record { first = h.first; second = h.second; third = h.third; clock = refl })

-- After freeing, a key is known exactly if a live row had its three numbers; a key's first number isn't 0.
pub known_live : (now : ℕ) (t : List ℕ) → table_bad now t ≡ false → (k : Key) → 0 < k.first → is_known k (freed now t) ≡ true ↔ Known t now k
known_live now t good k some = (λ e. let (i, l, h) = (known_is k (freed now t)).0 e in go i l h (row_is now t good i), back)
  where
    go : (i : ℕ) → i < 64 → HasKey (freed now t) i k → Live now t i ⊎ (Free t i ⊎ Dead now t i) → Known t now k
    go i l h (inr z) = absurd (omega (arith, (clears now t good i z).first, h.first))
    go i l h (inl live) =
        let same = live_stays now t i live in (
          i,
          l,
          live,
          record {
            first = sym (same 0 (omega arith)) ∙ h.first;
            second = sym (same 1 (omega arith)) ∙ h.second;
            third = sym (same 2 (omega arith)) ∙ h.third;
          },
        )

    back : Known t now k → is_known k (freed now t) ≡ true
    back (i, l, live, h) =
        let same = live_stays now t i live in
        (known_is k (freed now t)).1
        (i, l, record { first = same 0 (omega arith) ∙ h.first; second = same 1 (omega arith) ∙ h.second; third = same 2 (omega arith) ∙ h.third })

-- A filled row has the key and the clock, and every other row is as it was.
pub filled_row : (t : List ℕ) (i : ℕ) (k : Key) (clock : ℕ) → length t ≡ 256 → i < 64
    → HasKey (put_row t i k clock) i k × (cell (put_row t i k clock) i 3 ≡ clock) × ((n : ℕ) → n ≢ i → SameRow (put_row t i k clock) t n)
    × (length (put_row t i k clock) ≡ 256)
filled_row t i k clock len l =
    let h = put_holds t i k clock len l in (
      record { first = h.first; second = h.second; third = h.third },
      h.clock,
      λ n other j m. put_other t i k clock n j other m,
      length_put t i k clock ∙ len,
    )

-- After freeing, no row is free exactly if every row lived.
pub full_exactly : (now : ℕ) (t : List ℕ) → table_bad now t ≡ false → lowest_free (freed now t) ≡ 64 ↔ Full t now
full_exactly now t good = (
  λ e i l. elim (row_is now t good i) [ inl live ↦ live | inr h ↦ absurd ((lowest_none (freed now t)).0 e i l (clears now t good i h)) ],
  λ h. (lowest_none (freed now t)).1 (λ i l. live_used now t i (h i l)),
)
