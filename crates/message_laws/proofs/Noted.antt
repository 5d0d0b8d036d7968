-- What is noted of texts and names: joining what holds of one after the other.
-- Assumes nothing.
use mathlib.Core.Path.{◌≡◌, refl}
use mathlib.Core.Logic.{◌↔◌}
use mathlib.Core.List.{List, ◌++◌}
use Prim.Native.Nat.{ℕ}
use Rattle.options.specs.Text.{Noted}
use Rattle.std.specs.Prelude.{None}
use Rattle.base.specs.Lists.{Every}
use Rattle.base.proofs.Lists.{every_append}
use Rattle.options.specs.Text.{first_of}
use Rattle.message_laws.proofs.Texts.{first_zero}

-- nothing is noted where there is nothing to note
pub clean : {A : Type 0} → A → ◌≡◌ {A = Noted} None None ↔ A
clean a = (λ _. a, λ _. refl)

-- one text, or one name
pub single : {A B : Type 0} → A ↔ B → A ↔ B × Unit {0}
single (f, g) = (λ a. (f a, tt), λ b. g b.0)

-- nothing more
pub none_noted : {bad : Noted} → bad ≡ None ↔ (bad ≡ None) × Unit {0}
none_noted = (λ z. (z, tt), λ z. z.0)

module _ {bad bad' : Noted} (P : List ℕ → Type 0) (xs ys : List (List ℕ)) where
  -- the texts xs, and then the texts ys
  pub then_noted : bad ≡ None ↔ Every P xs → bad' ≡ None ↔ (bad ≡ None) × Every P ys → bad' ≡ None ↔ Every P (xs ++ ys)
  then_noted (f, g) (f', g') = (
    λ z. let (first, later) = f' z in (every_append P xs ys).1 (f first, later),
    λ all. let (first, later) = (every_append P xs ys).0 all in g' (g first, later),
  )

  -- the texts xs noted after `before`, and then the texts ys
  pub more_noted : {before : Noted} → bad ≡ None ↔ Every P xs → bad' ≡ None ↔ (first_of before bad ≡ None) × Every P ys
      → bad' ≡ None ↔ (before ≡ None) × Every P (xs ++ ys)
  more_noted {before} (f, g) (f', g') = (
    λ z.
        let (first, later) = f' z in
        let (earlier, now) = (first_zero before bad).0 first in
        (earlier, (every_append P xs ys).1 (f now, later)),
    λ z.
        let (now, later) = (every_append P xs ys).0 z.1 in
        g' ((first_zero before bad).1 (z.0, g now), later),
  )
