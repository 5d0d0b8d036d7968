-- What the library says of bytes and texts, in the words of `Utf8`.
-- Assumes nothing.
use mathlib.Core.Path.{◌≡◌, refl, sym, ◌∙◌, ap₂}
use mathlib.Core.Logic.{◌↔◌, inl, inr, ⊎_elim}
use mathlib.Core.Bool.{Bool, true, false, cond}
use mathlib.Core.List.{List, [], ◌∷◌, ◌++◌}
use Prim.Native.Nat.{ℕ}
use native.Mathlib.Omega.{arith}
use borrow.Author.Tests.{lt-ltb, le-leb}
use lib.Dec.{ltb}
use lib.Utf8.{scalar, scalars, scalar_cases, low_scalar, encode, encodes}
use Rattle.std.specs.Prelude.{Result, Ok, Err, MatchResult, is_ok}
use Rattle.std.specs.List.{list_all}
use Rattle.std.specs.Str.{IsUtf8}
use Rattle.base.specs.Pick.{pick}
use Rattle.base.specs.Lists.{Every}
use Rattle.base.proofs.Bools.{and_left, and_right}
use Rattle.utf8.specs.Utf8.{goes_on, is_utf8, Scalar, scalar_bytes, text_bytes, Utf8}
use Rattle.utf8.proofs.Utf8Exact.{utf8_exactly}

-- ASCII bytes are UTF-8
pub ascii_is : (s : List ℕ) → list_all (λ b. ltb b 0x80) s ≡ true → true ≡ is_utf8 s
unfolding is_utf8 goes_on pick
ascii_is [] h = refl
ascii_is (b ∷ s) h =
    let rest = list_all (λ c. ltb c 0x80) s in
    rw (and_left (ltb b 0x80) rest h) (ascii_is s (and_right (ltb b 0x80) rest h))

-- a scalar value, and its octets, as the library has them
choices : (s t u : Bool) (w x y z : List ℕ) → cond s w (cond t x (cond u y z)) ≡ pick s w (pick t x (pick u y z))
unfolding pick
choices true t u w x y z = refl
choices false true u w x y z = refl
choices false false true w x y z = refl
choices false false false w x y z = refl

octets : (c : ℕ) → encode c ≡ scalar_bytes c
unfolding encode scalar_bytes
octets c = choices (ltb c 0x80) (ltb c 0x800) (ltb c 0x10000) _ _ _ _

text : (cs : List ℕ) → encodes cs ≡ text_bytes cs
unfolding text_bytes
text [] = refl
text (c ∷ cs) = ap₂ (λ x y. x ++ y) (octets c) (text cs)

scalars_are : (cs : List ℕ) → scalars cs ≡ true → Every Scalar cs
scalars_are [] h = tt
scalars_are (c ∷ cs) h =
    let is_one : Scalar c = ⊎_elim (λ l. inl l) (λ l. inr (l.0, omega arith)) (scalar_cases c (and_left (scalar c) (scalars cs) h)) in
    (is_one, scalars_are cs (and_right (scalar c) (scalars cs) h))

either : (t : Bool) → cond t true true ≡ true
either true = refl
either false = refl

is_scalar : (c : ℕ) → Scalar c → scalar c ≡ true
is_scalar c h = ⊎_elim (λ l. low_scalar c l) (λ l. rw (le-leb 57344 c l.0, lt-ltb c 1114112 (omega (arith, l.1))) (either (ltb c 55296))) h

are_scalars : (cs : List ℕ) → Every Scalar cs → scalars cs ≡ true
are_scalars [] h = refl
are_scalars (c ∷ cs) h = rw (is_scalar c h.0, are_scalars cs h.1) refl

texts : (s : List ℕ) → IsUtf8 s ↔ Utf8 s
texts s = (λ (cs, (g, e)). (cs, scalars_are cs g, sym (text cs) ∙ e), λ (cs, g, e). (cs, (are_scalars cs g, text cs ∙ e)))

-- the library's answer
pub answer : {A B : Type 0} (P : A → Type 0) (Q : B → Type 0) (s : List ℕ) (r : Result A B)
    → MatchResult r (λ a. P a × IsUtf8 s) (λ e. (IsUtf8 s → ⊥) × Q e) → is_ok r ≡ is_utf8 s
answer P Q s (Ok a) h = sym ((utf8_exactly s).1 ((texts s).0 h.1))
answer P Q s (Err e) h = by (is_utf8 s) refl
  where
    by : (t : Bool) → is_utf8 s ≡ t → false ≡ is_utf8 s
    by true q = absurd (h.0 ((texts s).1 ((utf8_exactly s).0 q)))
    by false q = sym q
