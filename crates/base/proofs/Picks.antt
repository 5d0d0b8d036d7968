-- Going by a test's two cases.
-- Assumes nothing.
use mathlib.Core.Path.{◌≡◌, refl}
use mathlib.Core.Bool.{Bool, true, false}
use Rattle.base.specs.Pick.{pick}

-- what holds of both choices, each where its test holds
pub pick-case {ℓ κ} : {A : Type ℓ} (P : A → Type κ) (t : Bool) {x y : A} → (t ≡ true → P x) → (t ≡ false → P y) → P (pick t x y)
unfolding pick
pick-case P true f g = f refl
pick-case P false f g = g refl

-- what holds of both choices
pub both {ℓ κ} : {A : Type ℓ} (P : A → Type κ) (t : Bool) {x y : A} → P x → P y → P (pick t x y)
both P t p q = pick-case P t (λ _. p) (λ _. q)

-- what relates both pairs of choices by one test, each where its test holds
pub one_test_case : {A B : Type 0} (R : A → B → Type 0) (t : Bool) {x y : A} {x' y' : B} → (t ≡ true → R x x') → (t ≡ false → R y y')
    → R (pick t x y) (pick t x' y')
unfolding pick
one_test_case R true f g = f refl
one_test_case R false f g = g refl

-- what relates both pairs of choices by one test
pub one_test : {A B : Type 0} (R : A → B → Type 0) (t : Bool) {x y : A} {x' y' : B} → R x x' → R y y' → R (pick t x y) (pick t x' y')
one_test R t h h' = one_test_case R t (λ _. h) (λ _. h')

-- a choice that isn't the first is the second
pub past : {A : Type 0} (t : Bool) {x y z : A} → pick t x y ≡ z → (x ≡ z → ⊥) → (t ≡ false) × (y ≡ z)
unfolding pick
past true q no-first = absurd (no-first q)
past false q no-first = (refl, q)

-- a test as a choice
pub pick_same : (t : Bool) → pick t true false ≡ t
unfolding pick
pick_same true = refl
pick_same false = refl
