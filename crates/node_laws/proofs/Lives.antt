-- The tests on rows, held against what rules 7.3 to 7.6 call free, used, live and dead.
-- Assumes nothing.
use mathlib.Core.Path.{◌≡◌, refl, sym, ap, ◌∙◌}
use mathlib.Core.Logic.{◌⊎◌, inl, inr, ◌↔◌}
use mathlib.Core.Bool.{Bool, true, false, not, ◌&&◌}
use mathlib.Core.Bool as B
use mathlib.Core.List.{List}
use Prim.Native.Nat.{ℕ, zero, suc, ◌+◌, ◌-◌, ◌*◌, ◌/◌, ◌%◌, ◌^◌, ◌≤◌, ◌<◌}
use native.Mathlib.Nat.{mod-lt}
use native.Mathlib.Decide.{dec_lt}
use native.Mathlib.Omega.{arith}
use lib.Dec.{ltb, leb, eqb}
use lib.Pow.{split, pow_pos}
use borrow.Author.Tests.{ltb-true, leb-true, eqb-true, lt-ltb, le-leb, lt-leb, eq-eqb}
use Rattle.base.specs.Pick.{pick}
use Rattle.base.proofs.Bools.{true_or_false, and_left, and_right, and_true, not_both}
use Rattle.node_state.specs.Table.{cell, row_free, tag_in, initiator_fits, row_keyed, row_used, row_bad, table_bad, row_life, row_dead, freed}
use Rattle.node_state.specs.Key.{no_key}
use Rattle.node_state.proofs.Keys.{tag_read}
use Rattle.node_state.proofs.TableRows.{Holds, past_zeros, same_holds, length_free, free_live, free_dead, free_zeros, zeros_free, table_sized, row_good}
use Rattle.node_laws.specs.RelayRows.{Free, Tag, discovery_4, discovery_16, flood_4, flood_16, Used, Live, Dead, SameRow}

-- ---- tests that decide a condition

-- one that fails, and one whose condition does
pub fails : {test : Bool} {P : Type 0} → test ≡ true ↔ P → test ≡ false → P → ⊥
fails {test} e f p = not_both test (e.1 p) f

pub failing : {test : Bool} {P : Type 0} → test ≡ true ↔ P → (P → ⊥) → test ≡ false
failing {test = true} e none = absurd (none (e.0 refl))
failing {test = false} e none = refl

-- ---- free rows

pub free_is : (t : List ℕ) (i : ℕ) → row_free t i ≡ true ↔ Free t i
free_is t i = (
  λ e. let h = free_zeros t i e in record { first = h.first; second = h.second; third = h.third; fourth = h.clock },
  λ h. zeros_free t i (record { first = h.first; second = h.second; third = h.third; clock = h.fourth }),
)

-- ---- used rows

tag_from : (g : ℕ) → 1 ≤ g → g ≤ 4 → (bytes : ℕ) × (life : ℕ) × Tag g bytes life
tag_from zero l m = absurd (omega arith)
tag_from (suc zero) l m = (4, 60000, discovery_4)
tag_from (suc (suc zero)) l m = (16, 60000, discovery_16)
tag_from (suc (suc (suc zero))) l m = (4, 120000, flood_4)
tag_from (suc (suc (suc (suc zero)))) l m = (16, 120000, flood_16)
tag_from (suc (suc (suc (suc (suc g))))) l m = absurd (omega arith)

tag_range : {g bytes life : ℕ} → Tag g bytes life → (1 ≤ g) × (g ≤ 4)
tag_range discovery_4 = (omega arith, omega arith)
tag_range discovery_16 = (omega arith, omega arith)
tag_range flood_4 = (omega arith, omega arith)
tag_range flood_16 = (omega arith, omega arith)

tag_life : {g bytes life : ℕ} → Tag g bytes life → pick (ltb g 3) 60000 120000 ≡ life
unfolding pick
tag_life discovery_4 = refl
tag_life discovery_16 = refl
tag_life flood_4 = refl
tag_life flood_16 = refl

fits_four : (second third : ℕ) → (ltb second (2 ^ 32) && eqb third 0) ≡ true ↔ (◌≡◌ {A = ℕ} 4 4 → (second < 2 ^ 32) × (third ≡ 0))
fits_four second third = (
  λ e f. (ltb-true second (2 ^ 32) (and_left (ltb second (2 ^ 32)) (eqb third 0) e), eqb-true third 0 (and_right (ltb second (2 ^ 32)) (eqb third 0) e)),
  λ f. let h = f refl in and_true (ltb second (2 ^ 32)) (eqb third 0) (lt-ltb second (2 ^ 32) h.0) (eq-eqb third 0 h.1),
)

-- the tags with an initiator of 4 bytes are odd
tag_odd : {g bytes life : ℕ} → Tag g bytes life → (second third : ℕ) → initiator_fits g second third ≡ true ↔ (bytes ≡ 4 → (second < 2 ^ 32) × (third ≡ 0))
unfolding initiator_fits pick
tag_odd discovery_4 second third = fits_four second third
tag_odd discovery_16 second third = (λ e f. absurd (omega arith), λ f. refl)
tag_odd flood_4 second third = fits_four second third
tag_odd flood_16 second third = (λ e f. absurd (omega arith), λ f. refl)

used_is : (now : ℕ) (t : List ℕ) (i : ℕ) → row_used now t i ≡ true ↔ Used now t i
unfolding row_used row_keyed tag_in
used_is now t i = (there, back)
  where
    g : ℕ
    g = tag_in (cell t i 0)

    there : (leb 1 g && leb g 4 && initiator_fits g (cell t i 1) (cell t i 2) && leb (cell t i 3) now) ≡ true → Used now t i
    there e =
        let fit = initiator_fits g (cell t i 1) (cell t i 2) in
        let keyed = and_left (leb 1 g && leb g 4 && fit) (leb (cell t i 3) now) e in
        let range = and_left (leb 1 g && leb g 4) fit keyed in
        let (bytes, life, tagged) = tag_from g (leb-true 1 g (and_left (leb 1 g) (leb g 4) range)) (leb-true g 4 (and_right (leb 1 g) (leb g 4) range)) in
        let parts : cell t i 0 / 2 ^ 32 * 2 ^ 32 + cell t i 0 % 2 ^ 32 ≡ cell t i 0 = split (cell t i 0) 32 in
        record {
          session = cell t i 0 % 2 ^ 32;
          tag = g;
          bytes = bytes;
          life = life;
          tagged = tagged;
          small = mod-lt (cell t i 0) (pow_pos 32);
          first = omega arith;
          short = (tag_odd tagged (cell t i 1) (cell t i 2)).0 (and_right (leb 1 g && leb g 4) fit keyed);
          admitted = leb-true (cell t i 3) now (and_right (leb 1 g && leb g 4 && fit) (leb (cell t i 3) now) e);
        }

    back : Used now t i → (leb 1 g && leb g 4 && initiator_fits g (cell t i 1) (cell t i 2) && leb (cell t i 3) now) ≡ true
    back u =
        let is : g ≡ u.tag = ap tag_in u.first ∙ tag_read u.session u.tag u.small in
        let range = tag_range u.tagged in
        rw (
          is,
          le-leb 1 u.tag range.0,
          le-leb u.tag 4 range.1,
          (tag_odd u.tagged (cell t i 1) (cell t i 2)).1 u.short,
          le-leb (cell t i 3) now u.admitted,
        ) refl

-- a row that is free or used isn't bad
pub row_passes : (now : ℕ) (t : List ℕ) (i : ℕ) → Free t i ⊎ Used now t i → row_bad now t i ≡ false
unfolding row_bad
row_passes now t i (inl f) = rw ((free_is t i).1 f) refl
row_passes now t i (inr u) = rw ((used_is now t i).1 u) (ap not (B.or-true (row_free t i)))

-- ---- what freeing leaves

module _ (now : ℕ) (t : List ℕ) where
  -- a used row is dead by the life of its tag
  dead_by : (i : ℕ) (u : Used now t i) → row_dead now t i ≡ leb u.life (now - cell t i 3)
  unfolding row_dead row_life
  dead_by i u =
      let tag : tag_in (cell t i 0) ≡ u.tag = ap tag_in u.first ∙ tag_read u.session u.tag u.small in
      ap (λ (g : ℕ). leb (pick (ltb g 3) 60000 120000) (now - cell t i 3)) tag ∙ ap (λ (l : ℕ). leb l (now - cell t i 3)) (tag_life u.tagged)

  dead_test : (i : ℕ) → Dead now t i → row_dead now t i ≡ true
  dead_test i d = dead_by i d.used ∙ le-leb d.used.life (now - cell t i 3) d.old

  live_test : (i : ℕ) → Live now t i → row_dead now t i ≡ false
  live_test i l = dead_by i l.used ∙ lt-leb l.used.life (now - cell t i 3) l.young

  pub live_stays : (i : ℕ) → Live now t i → SameRow (freed now t) t i
  unfolding freed
  live_stays i l j = free_live now t 64 i j (live_test i l)

  pub live_used : (i : ℕ) → Live now t i → Free (freed now t) i → ⊥
  live_used i l f =
      let z : cell t i 0 ≡ 0 = sym (live_stays i l 0 (omega arith)) ∙ f.first in
      let e = l.used.first in
      let g = tag_range l.used.tagged in
      omega arith

  module _ (good : table_bad now t ≡ false) (i : ℕ) where
    pub row_whole : Free t i ⊎ Used now t i
    row_whole = elim (row_good now t i good) [ inl f ↦ inl ((free_is t i).0 f) | inr u ↦ inr ((used_is now t i).0 u) ]

    pub row_is : Live now t i ⊎ (Free t i ⊎ Dead now t i)
    row_is = go row_whole
      where
        go : Free t i ⊎ Used now t i → Live now t i ⊎ (Free t i ⊎ Dead now t i)
        go (inl f) = inr (inl f)
        go (inr u) =
            elim (dec_lt (now - cell t i 3)
            u.life) [ yes l ↦ inl (record { used = u; young = l }) | no l ↦ inr (inr (record { used = u; old = omega arith })) ]

    -- a row that is free or dead is left as four zeros
    pub clears : Free t i ⊎ Dead now t i → Free (freed now t) i
    unfolding freed
    clears h = (free_is (freed now t) i).0 (zeros_free (freed now t) i (go h (true_or_false (row_dead now t i))))
      where
        cleared : row_dead now t i ≡ true → Holds (freed now t) i no_key 0
        cleared dead =
            elim (dec_lt i
            64) [ yes l ↦ free_dead now t 64 i l dead | no l ↦ past_zeros (freed now t) i (length_free now t 64 ∙ table_sized now t good) (omega arith) ]

        go : Free t i ⊎ Dead now t i → (row_dead now t i ≡ true) ⊎ (row_dead now t i ≡ false) → Holds (freed now t) i no_key 0
        go (inr d) e = cleared (dead_test i d)
        go (inl f) (inl dead) = cleared dead
        go (inl f) (inr live) = same_holds t (freed now t) i (λ j. free_live now t 64 i j live) (free_zeros t i ((free_is t i).1 f))
