-- The interfaces in a mask: different, up, as many as the mask has ones.
-- Assumes nothing.
use mathlib.Core.Path.{◌≡◌, sym, ap, ◌∙◌}
use mathlib.Core.Logic.{◌≢◌}
use mathlib.Core.Bool.{true}
use mathlib.Core.List.{List, ◌∷◌}
use Prim.Native.Nat.{ℕ, zero, suc, ◌+◌, ◌/◌, ◌%◌, ◌^◌, ◌<◌}
use native.Mathlib.Nat.{le_refl, le_trans, mod-lt, mod-eq_of_lt, mod-one, le-suc}
use native.Mathlib.Omega.{arith}
use lib.Dec.{lit<}
use lib.ListN.{length}
use lib.Count.{ones, ones_in, ones_cat}
use lib.Pow.{pow_pos, mod-pow-add}
use borrow.Author.Tests.{eqb-true, eqb-false}
use Rattle.base.specs.Pick.{pick}
use Rattle.base.specs.Lists.{Every, Distinct}
use Rattle.base.specs.Bits.{has_bit}
use Rattle.base.proofs.Picks.{pick-case}
use Rattle.base.proofs.Lists.{every_imp}
use Rattle.node_laws.specs.Relays.{interfaces_in}

-- each is below n and up
pub interfaces_up : (n mask : ℕ) → Every (λ i. (i < n) × (has_bit mask i ≡ true)) (interfaces_in n mask)
unfolding interfaces_in
interfaces_up zero mask = tt
interfaces_up (suc n) mask =
    let rest =
    every_imp (λ i. (i < n) × (has_bit mask i ≡ true)) (λ i. (i < suc n) × (has_bit mask i ≡ true)) (λ i k. (le_trans k.0 (le-suc n), k.1))
    (interfaces_in n mask) (interfaces_up n mask)
    in
    pick-case (Every (λ i. (i < suc n) × (has_bit mask i ≡ true))) (has_bit mask n) (λ e. ((le_refl (suc n), e), rest)) (λ e. rest)

pub interfaces_distinct : (n mask : ℕ) → Distinct (interfaces_in n mask)
unfolding interfaces_in
interfaces_distinct zero mask = tt
interfaces_distinct (suc n) mask =
    let rest = interfaces_distinct n mask in
    pick-case Distinct (has_bit mask n)
    (λ e. (every_imp (λ i. (i < n) × (has_bit mask i ≡ true)) (λ i. n ≢ i) (λ i k. omega arith) (interfaces_in n mask) (interfaces_up n mask), rest))
    (λ e. rest)

-- one bit more
bit_ones : (mask n : ℕ) (xs : List ℕ) → length (pick (has_bit mask n) (n ∷ xs) xs) ≡ ones (mask / 2 ^ n % 2) + length xs
unfolding has_bit ones ones_in
bit_ones mask n xs =
    pick-case (λ (l : List ℕ). length l ≡ ones (mask / 2 ^ n % 2) + length xs) (has_bit mask n)
    (λ e. let one : mask / 2 ^ n % 2 ≡ 1 = eqb-true (mask / 2 ^ n % 2) 1 e in rw one (omega arith))
    (λ e. let none : mask / 2 ^ n % 2 ≡ 0 = omega (arith, eqb-false (mask / 2 ^ n % 2) 1 e, mod-lt (mask / 2 ^ n) {m = 2} (lit< tt)) in rw none (omega arith))

interfaces_ones : (n mask : ℕ) → length (interfaces_in n mask) ≡ ones (mask % 2 ^ n)
unfolding interfaces_in ones ones_in
interfaces_ones zero mask = sym (ap ones (mod-one mask))
interfaces_ones (suc n) mask =
    let width : 1 + n ≡ suc n = omega arith in
    bit_ones mask n (interfaces_in n mask) ∙ ap (λ (x : ℕ). ones (mask / 2 ^ n % 2) + x) (interfaces_ones n mask)
    ∙ sym (ones_cat n (mask / 2 ^ n % 2) (mask % 2 ^ n) (mod-lt mask (pow_pos n)))
    ∙ ap ones (sym (mod-pow-add mask 1 n) ∙ ap (λ (k : ℕ). mask % 2 ^ k) (omega arith))

pub length_interfaces : (n mask : ℕ) → mask < 2 ^ n → length (interfaces_in n mask) ≡ ones mask
length_interfaces n mask h = interfaces_ones n mask ∙ ap ones (mod-eq_of_lt h)
