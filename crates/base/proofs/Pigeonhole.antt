-- Different numbers below n are at most n.
-- Assumes nothing.
use mathlib.Core.Path.{sym, ◌∙◌}
use mathlib.Core.Logic.{◌≢◌}
use mathlib.Core.List.{List, [], ◌∷◌}
use Prim.Native.Nat.{ℕ, zero, suc, ◌≤◌, ◌<◌, zero-le, suc-le-suc}
use native.Mathlib.Nat.{le_refl, le_trans, not-suc-le-zero}
use native.Mathlib.Decide.{ℕ_discrete}
use native.Mathlib.Omega.{arith}
use lib.ListN.{length}
use Rattle.base.specs.Lists.{Every, Distinct}
use Rattle.base.proofs.Lists.{every_and, every_imp}

-- all but at most one of the list, none of which is m
without : (P : ℕ → Type 0) (m : ℕ) (l : List ℕ) → Distinct l → Every P l
    → (rest : List ℕ) × Distinct rest × Every (λ y. P y × (y ≢ m)) rest × (length l ≤ suc (length rest))
without P m [] d h = ([], tt, tt, zero-le)
without P m (x ∷ xs) d h =
    let other : Every (λ y. P y × (x ≢ y)) xs = every_and P (λ y. x ≢ y) xs h.1 d.0 in
    elim (ℕ_discrete x m) [
      | yes e ↦ (xs, d.1, every_imp (λ y. P y × (x ≢ y)) (λ y. P y × (y ≢ m)) (λ y k. (k.0, λ q. k.1 (e ∙ sym q))) xs other, le_refl (suc (length xs)))
      | no n ↦
          let (rest, d', h', le) = without (λ y. P y × (x ≢ y)) m xs d.1 other in
          let each : (Q : ℕ → Type 0) → ((y : ℕ) → (P y × (x ≢ y)) × (y ≢ m) → Q y) → Every Q rest = λ Q f. every_imp _ Q f rest h' in
          (x ∷ rest, (each (λ y. x ≢ y) (λ y k. k.0.1), d'), ((h.0, n), each (λ y. P y × (y ≢ m)) (λ y k. (k.0.0, k.1))), suc-le-suc le)
    ]

pub pigeonhole : (n : ℕ) (l : List ℕ) → Distinct l → Every (λ x. x < n) l → length l ≤ n
pigeonhole zero [] d h = zero-le
pigeonhole zero (x ∷ xs) d h = absurd (not-suc-le-zero h.0)
pigeonhole (suc n) l d h =
    let (rest, d', h', le) = without (λ x. x < suc n) n l d h in
    le_trans le (suc-le-suc (pigeonhole n rest d' (every_imp (λ x. (x < suc n) × (x ≢ n)) (λ x. x < n) (λ x k. omega arith) rest h')))
