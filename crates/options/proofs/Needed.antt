-- A value that has to be there, where it isn't and where it is.
-- Assumes nothing.
use mathlib.Core.Path.{◌≡◌, refl}
use Prim.Native.Nat.{ℕ}
use Rattle.std.specs.Prelude.{Option, Some, None, Result}
use Rattle.options.specs.declared.Departure.{Departure}
use Rattle.options.specs.Part.{departs, needed}

-- what holds of both
pub needed_case : {A B : Type 0} (P : Result B Departure → Type 0) (o : Option A) {place : ℕ} {f : A → Result B Departure}
    → P (departs place) → ((a : A) → o ≡ Some a → P (f a)) → P (needed o place f)
unfolding needed
needed_case P None h g = h
needed_case P (Some a) h g = g a refl

-- what relates both
pub needed_both : {A B : Type 0} (R : Result B Departure → Result B Departure → Type 0) (o : Option A) {place place' : ℕ} {f g : A → Result B Departure}
    → R (departs place) (departs place') → ((a : A) → R (f a) (g a)) → R (needed o place f) (needed o place' g)
unfolding needed
needed_both R None h k = h
needed_both R (Some a) h k = k a
