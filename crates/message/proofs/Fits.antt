-- Pairs, one after the other, lie within the message; and the turns of the loop over them.
-- Assumes nothing.
use mathlib.Core.Path.{◌≡◌, refl, sym, ap, ◌∙◌}
use mathlib.Core.List.{List}
use Prim.Native.Nat.{ℕ, zero, suc, ◌+◌, ◌-◌, ◌*◌, ◌≤◌}
use native.Mathlib.Omega.{arith}
use lib.ListN.{length}
use Rattle.options.specs.Text.{Noted}
use Rattle.std.specs.Prelude.{Ok, Err}
use Rattle.options.specs.declared.Departure.{Departure}
use Rattle.options.specs.declared.Part.{Part}
use Rattle.options.specs.declared.pair.Pair.{Pair}
use Rattle.options.specs.Text.{first_of}
use Rattle.options.specs.Part.{Read}
use Rattle.options.specs.Pair.{pair_at}
use Rattle.options.proofs.Fits.{PairOk, pair_within}
use Rattle.options.proofs.Same.{read_same}
use Rattle.message.specs.declared.sequence.Pairs.{Pairs}
use Rattle.message.specs.declared.Message.{Message}
use Rattle.message.specs.declared.Examined.{Examined}
use Rattle.message.specs.Examined.{accepted_to}
use Rattle.message.specs.Sequence.{PairsRead, pairs_ended, pair_then, pairs_from}

-- ---- each has six bytes at least, and they end within the message
module _ (s : List ℕ) where
  abbrev pub PairsRan : ℕ → ℕ → PairsRead → Type 0
  PairsRan n at (Err e) = Unit {0}
  PairsRan n at (Ok r) = (at + 6 * n ≤ r.end) × (r.end ≤ length s)

  pairs_more : (n at size : ℕ) (r : PairsRead) → 6 ≤ size → PairsRan n (at + size) r → PairsRan (suc n) at r
  pairs_more n at size (Err e) six h = tt
  pairs_more n at size (Ok r) six h = (omega arith, h.1)

  pub pairs_ran : (n at : ℕ) (bad long : Noted) → at ≤ length s → PairsRan n at (pairs_from s n at bad long)
  unfolding pairs_from pair_then
  pairs_ran zero at bad long low = (omega arith, low)
  pairs_ran (suc n) at bad long low = next (pairs_ran n) (pair_at s at) (pair_within s at at _ _ refl refl)
    where
      next : ((at' : ℕ) (bad' long' : Noted) → at' ≤ length s → PairsRan n at' (pairs_from s n at' bad' long')) → (x : Read Pair) → PairOk at (length s - at) x
          → PairsRan (suc n) at (pair_then (pairs_from s n) at bad long x)
      next go (Err e) h = tt
      next go (Ok p) h =
          pairs_more n at p.size (pairs_from s n (at + p.size) (first_of bad p.bad) (first_of long p.long)) h.1
          (go (at + p.size) (first_of bad p.bad) (first_of long p.long) (omega arith))

-- ---- the turns of the loop
module _ (s : List ℕ) (n from : ℕ) (bad₀ long₀ : Noted) where
  -- what is left of it is the whole
  abbrev pub Paired : ℕ → ℕ → Noted → Noted → Type 0
  Paired left at bad long = pairs_from s left at bad long ≡ pairs_from s n from bad₀ long₀

  pub paired_end : (left at : ℕ) (bad long : Noted) → left ≡ 0 → Paired left at bad long → pairs_ended at bad long ≡ pairs_from s n from bad₀ long₀
  unfolding pairs_from
  paired_end left at bad long e i = rw e at i

  after : (left rest at : ℕ) (bad long : Noted) (r x : Read Pair) → left ≡ suc rest → r ≡ pair_at s at → r ≡ x → Paired left at bad long
      → pair_then (pairs_from s rest) at bad long x ≡ pairs_from s n from bad₀ long₀
  unfolding pairs_from
  after left rest at bad long r x one g q i = rw (sym g ∙ q) at (rw one at i)

  pub paired_bad : (left rest at : ℕ) (bad long : Noted) (e : Departure) (r : Read Pair) → left ≡ suc rest → r ≡ pair_at s at → r ≡ Err e
      → Paired left at bad long → Err e ≡ pairs_from s n from bad₀ long₀
  unfolding pair_then
  paired_bad left rest at bad long e r = after left rest at bad long r (Err e)

  pub paired_next : (left rest at : ℕ) (bad long : Noted) (p : Part Pair) (new newer : Noted) (r : Read Pair) → left ≡ suc rest
      → r ≡ pair_at s at → r ≡ Ok p → new ≡ first_of bad p.bad → newer ≡ first_of long p.long
      → Paired left at bad long → Paired rest (at + p.size) new newer
  unfolding pair_then
  paired_next left rest at bad long p new newer r one g q k l i = rw (k, l) (after left rest at bad long r (Ok p) one g q i)

-- ---- what two answers that are one have: where they end, their bad text and their long name
pub ran_same : {end end' : ℕ} {bad bad' long long' : Noted} → pairs_ended end bad long ≡ pairs_ended end' bad' long'
    → (end ≡ end') × (bad ≡ bad') × (long ≡ long')
ran_same e =
    let same = read_same e in
    (ap (λ (r : Pairs). r.end) same, ap (λ (r : Pairs). r.bad) same, ap (λ (r : Pairs). r.long) same)

-- the message, and where its parts end
pub accepted_same : {m m' : Message} {end end' : ℕ} → accepted_to m end ≡ accepted_to m' end' → (m ≡ m') × (end ≡ end')
accepted_same {m} {m'} {end} {end'} e =
    let whole : Examined = record { message = m; end = end } in
    let whole' : Examined = record { message = m'; end = end' } in
    let same : whole ≡ whole' = cc in
    (ap (λ (x : Examined). x.message) same, ap (λ (x : Examined). x.end) same)
