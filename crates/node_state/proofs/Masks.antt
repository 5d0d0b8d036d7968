-- The interfaces in a mask: what is up is below a bound and part of the mask, and the mask without the arriving link,
-- which has fewer ones.
-- Assumes nothing.
use mathlib.Core.Path.{◌≡◌, refl, ap, ◌∙◌}
use mathlib.Core.Bool.{true, false, ◌||◌}
use Prim.Native.Nat.{ℕ, zero, suc, ◌+◌, ◌-◌, ◌*◌, ◌/◌, ◌%◌, ◌^◌, ◌≤◌, ◌<◌}
use native.Mathlib.Nat.{le_trans, mod-lt, div-eq_of_lt, one-mul, pow-suc}
use native.Mathlib.Decide.{dec_lt}
use native.Mathlib.Omega.{arith}
use lib.Dec.{ltb, leb, eqb, lit<}
use lib.Count.{ones, ones_step, ones-le}
use lib.Pow.{shl_exact, pow_pos, pow_mono, split, high}
use borrow.Author.Tests.{ltb-false, leb-false, eqb-true, eqb-false, ne_eqb, le-ltb}
use Rattle.base.specs.Bits.{has_bit}
use Rattle.base.proofs.Bools.{or_left, or_right}
use Rattle.node_state.specs.declared.Record.{Record}
use Rattle.node_state.specs.Record.{links_bad, record_bad, others}

-- the count and mask of links that aren't bad
pub record Fit (interfaces mask : ℕ) : Type 0 where
  pub some : 0 < interfaces
  pub most : interfaces ≤ 8
  pub small : mask < 2 ^ interfaces

pub links_fit : (n mask : ℕ) → links_bad n mask ≡ false → Fit n mask
unfolding links_bad
links_fit n mask e =
    let low = or_left (eqb n 0 || ltb 8 n) (leb (2 ^ n) mask) e in
    let some : (n ≡ 0 → ⊥) = eqb-false n 0 (or_left (eqb n 0) (ltb 8 n) low) in
    record {
      some = omega arith;
      most = ltb-false 8 n (or_right (eqb n 0) (ltb 8 n) low);
      small = leb-false (2 ^ n) mask (or_right (eqb n 0 || ltb 8 n) (leb (2 ^ n) mask) e);
    }

-- a mask of eight bits at most
pub fit_small : (n mask : ℕ) → Fit n mask → mask < 2 ^ 8
fit_small n mask f = le_trans f.small (pow_mono f.most)

pub record_links : (r : Record) → record_bad r ≡ false → Fit r.interfaces r.links
unfolding record_bad
record_links r e = links_fit r.interfaces r.links (or_left (links_bad r.interfaces r.links) (ltb (2 ^ 63) r.tally) e)

pub record_tally : (r : Record) → record_bad r ≡ false → r.tally ≤ 2 ^ 63
unfolding record_bad
record_tally r e = ltb-false (2 ^ 63) r.tally (or_right (links_bad r.interfaces r.links) (ltb (2 ^ 63) r.tally) e)

-- under a good count, links are bad by their mask alone
pub links_wide : (n mask : ℕ) → 0 < n → n ≤ 8 → links_bad n mask ≡ leb (2 ^ n) mask
unfolding links_bad
links_wide n mask some most = rw (ne_eqb n 0 (λ e. omega arith), le-ltb 8 n most) refl

-- one bit of a word
pub one_bit : (w i : ℕ) → i < w → 1 * 2 ^ i % 2 ^ w ≡ 2 ^ i
one_bit w i h = shl_exact {a = 1} 1 i w (lit< tt) (omega arith) ∙ one-mul (2 ^ i)

-- what is up in a mask is part of it
pub up_le : (mask i : ℕ) → has_bit mask i ≡ true → 2 ^ i ≤ mask
unfolding has_bit
up_le mask i e = elim (dec_lt mask (2 ^ i)) [
  | no p ↦ omega arith
  | yes p ↦
      let nil : mask / 2 ^ i ≡ 0 = div-eq_of_lt p in
      let one : mask / 2 ^ i % 2 ≡ 1 = eqb-true (mask / 2 ^ i % 2) 1 e in
      absurd (omega arith)
]

-- what is up in a mask below 2^n is below n
pub up_below : (n mask i : ℕ) → mask < 2 ^ n → has_bit mask i ≡ true → i < n
up_below n mask i h e = elim (dec_lt i n) [ yes p ↦ p | no p ↦ let wide : 2 ^ n ≤ 2 ^ i = pow_mono (omega arith) in absurd (omega (arith, up_le mask i e)) ]

-- from bit i on, the mask without it
pub without_bit : (mask i : ℕ) → mask / 2 ^ i % 2 ≡ 1 → (mask - 2 ^ i) / 2 ^ i ≡ mask / 2 ^ i - 1
without_bit mask i odd =
    let q = mask / 2 ^ i in
    let whole : q - 1 + 1 ≡ q = omega arith in
    let parts : (q - 1 + 1) * 2 ^ i + mask % 2 ^ i ≡ mask = rw whole (split mask i) in
    let less : mask - 2 ^ i ≡ (q - 1) * 2 ^ i + mask % 2 ^ i = omega arith in
    ap (λ (z : ℕ). z / 2 ^ i) less ∙ high (q - 1) i (mod-lt mask (pow_pos i))

-- a link that is taken out is no longer up
pub taken_down : (mask i : ℕ) → has_bit mask i ≡ true → has_bit (mask - 2 ^ i) i ≡ false
unfolding has_bit
taken_down mask i e =
    let odd : mask / 2 ^ i % 2 ≡ 1 = eqb-true (mask / 2 ^ i % 2) 1 e in
    let even : (mask / 2 ^ i - 1) % 2 ≡ 0 = omega arith in
    rw (without_bit mask i odd, even) refl

-- a mask that isn't full has fewer ones than bits
ones_fewer : (n mask : ℕ) → mask + 1 < 2 ^ n → ones mask < n
ones_fewer zero mask h = let one : 2 ^ 0 ≡ 1 = refl in absurd (omega arith)
ones_fewer (suc n) mask h = by (mask % 2) refl (ones_fewer n (mask / 2))
  where
    double : 2 ^ suc n ≡ 2 ^ n * 2
    double = pow-suc 2 n

    by : (b : ℕ) → mask % 2 ≡ b → (mask / 2 + 1 < 2 ^ n → ones (mask / 2) < n) → ones mask < suc n
    by zero e rest = let most = ones-le n (mask / 2) (omega (arith, double)) in omega (arith, ones_step mask)
    by (suc b) e rest = let fewer = rest (omega (arith, double)) in omega (arith, ones_step mask)

-- so the links up, less one, are fewer than the interfaces
pub others_fewer : (r : Record) (i : ℕ) → record_bad r ≡ false → ones (others r i) < r.interfaces
unfolding others
others_fewer r i good =
    let f = record_links r good in
    let two : 2 ^ 1 ≤ 2 ^ r.interfaces = pow_mono f.some in
    let one : 2 ^ 1 ≡ 2 = refl in
    let some : 0 < 2 ^ i = pow_pos i in
    ones_fewer r.interfaces (r.links - 2 ^ i) (omega (arith, f.small))
