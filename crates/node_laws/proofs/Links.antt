-- The mask of links without the arriving one.
-- Assumes nothing.
use mathlib.Core.Path.{◌≡◌, refl, sym, ap, ◌∙◌}
use mathlib.Core.Logic.{◌≢◌, ◌↔◌}
use mathlib.Core.Bool.{true, false}
use Prim.Native.Nat.{ℕ, zero, suc, ◌+◌, ◌-◌, ◌*◌, ◌/◌, ◌%◌, ◌^◌, ◌≤◌, ◌<◌}
use native.Mathlib.Nat.{le_trans, zero-div, mul-add-mod_self_right, pow-suc}
use native.Mathlib.Decide.{ℕ_discrete, dec_lt}
use native.Mathlib.Omega.{arith}
use lib.Dec.{eqb}
use lib.Count.{leading_top}
use lib.Pow.{pow-add, pow_mono, pow_pos, high, shr-shr, field}
use borrow.Author.Tests.{eqb-true}
use Rattle.base.specs.Bits.{has_bit}
use Rattle.base.proofs.Bools.{not_both}
use Rattle.node_state.proofs.Masks.{up_le, without_bit, taken_down}

-- bit j is one of the last j + 1
low_bits : (x y j : ℕ) → x % 2 ^ (1 + j) ≡ y % 2 ^ (1 + j) → has_bit x j ≡ has_bit y j
unfolding has_bit
low_bits x y j e = ap (λ (z : ℕ). eqb z 1) (sym (field x 1 j) ∙ ap (λ (m : ℕ). m / 2 ^ j) e ∙ field y 1 j)

-- a higher bit changes nothing
below_bit : (n rest j : ℕ) → j < n → has_bit (2 ^ n + rest) j ≡ has_bit rest j
below_bit n rest j l =
    let width : n - (1 + j) + (1 + j) ≡ n = omega arith in
    let parts : 2 ^ (n - (1 + j)) * 2 ^ (1 + j) ≡ 2 ^ n = sym (pow-add 2 (n - (1 + j)) (1 + j)) ∙ ap (λ (k : ℕ). 2 ^ k) width in
    low_bits (2 ^ n + rest) rest j
    (ap (λ (z : ℕ). (z + rest) % 2 ^ (1 + j)) (sym parts) ∙ mul-add-mod_self_right (2 ^ (n - (1 + j))) (2 ^ (1 + j)) rest)

-- any mask is of some width
below_power : (n : ℕ) → n < 2 ^ n
below_power zero = pow_pos 0
below_power (suc n) = omega (arith, pow-suc 2 n, below_power n)

-- the highest bit of a mask
pub high_bit : (n mask : ℕ) → 2 ^ n ≤ mask → (j : ℕ) × (n ≤ j) × (has_bit mask j ≡ true)
unfolding has_bit
high_bit n mask l =
    let (j, places, low, most) = leading_top mask mask (le_trans (pow_pos n) l) (below_power mask) in
    let whole : 1 * 2 ^ j + (mask - 2 ^ j) ≡ mask = omega arith in
    let one : mask / 2 ^ j ≡ 1 = ap (λ (z : ℕ). z / 2 ^ j) (sym whole) ∙ high 1 j (omega (arith, pow-suc 2 j)) in
    (j, elim (dec_lt j n) [ yes near ↦ let wider : 2 ^ suc j ≤ 2 ^ n = pow_mono near in absurd (omega arith) | no far ↦ omega arith ], rw one refl)

zero_off : (j : ℕ) → has_bit 0 j ≡ false
unfolding has_bit
zero_off j = rw (zero-div (2 ^ j)) refl

-- bits above i aren't touched by taking bit i away
above_bit : (mask i k : ℕ) → has_bit mask i ≡ true → has_bit (mask - 2 ^ i) (i + 1 + k) ≡ has_bit mask (i + 1 + k)
unfolding has_bit
above_bit mask i k up =
    let odd : mask / 2 ^ i % 2 ≡ 1 = eqb-true (mask / 2 ^ i % 2) 1 up in
    let half : (mask / 2 ^ i - 1) / 2 ≡ mask / 2 ^ i / 2 = omega arith in
    let one : (mask - 2 ^ i) / 2 ^ (i + 1) ≡ mask / 2 ^ (i + 1) =
    sym (shr-shr (mask - 2 ^ i) i 1) ∙ ap (λ (z : ℕ). z / 2) (without_bit mask i odd) ∙ half ∙ shr-shr mask i 1 in
    ap (λ (z : ℕ). eqb (z % 2) 1) (sym (shr-shr (mask - 2 ^ i) (i + 1) k) ∙ ap (λ (z : ℕ). z / 2 ^ k) one ∙ shr-shr mask (i + 1) k)

-- nor any other bit
other_bit : (mask i j : ℕ) → has_bit mask i ≡ true → j ≢ i → has_bit (mask - 2 ^ i) j ≡ has_bit mask j
other_bit mask i j up ne =
    let most : 2 ^ i ≤ mask = up_le mask i up in
    elim (dec_lt j i) [
      | yes l ↦ let whole : 2 ^ i + (mask - 2 ^ i) ≡ mask = omega arith in sym (below_bit i (mask - 2 ^ i) j l) ∙ ap (λ (z : ℕ). has_bit z j) whole
      | no l ↦ let is : i + 1 + (j - (i + 1)) ≡ j = omega arith in rw is at (above_bit mask i (j - (i + 1)) up)
    ]

-- for readers

-- A mask without its bit i has the bits of the mask other than i.
pub others_exactly : (mask i : ℕ) → has_bit mask i ≡ true → (j : ℕ) → has_bit (mask - 2 ^ i) j ≡ true ↔ ((has_bit mask j ≡ true) × (j ≢ i))
others_exactly mask i up j = (
  λ e. let ne : j ≢ i = λ q. not_both (has_bit (mask - 2 ^ i) j) e (ap (has_bit (mask - 2 ^ i)) q ∙ taken_down mask i up) in
      (sym (other_bit mask i j up ne) ∙ e, ne),
  λ h. other_bit mask i j up h.1 ∙ h.0,
)

-- Of a mask that has bit i, nothing is left without it exactly if no other bit is set.
pub alone_exactly : (mask i : ℕ) → has_bit mask i ≡ true → mask - 2 ^ i ≡ 0 ↔ ((j : ℕ) → j ≢ i → has_bit mask j ≡ false)
alone_exactly mask i up = (
  λ e j other. sym (other_bit mask i j up other) ∙ rw e (zero_off j),
  λ off. elim (ℕ_discrete (mask - 2 ^ i) 0) [
    | yes e ↦ e
    | no some ↦
        let (j, l, on) = high_bit 0 (mask - 2 ^ i) (omega arith) in
        let (up', other) = (others_exactly mask i up j).0 on in
        absurd (not_both (has_bit mask j) up' (off j other))
  ],
)
