-- The places of bad texts and long names, where none is noted.
-- Assumes nothing.
use mathlib.Core.Path.{◌≡◌, refl, sym, ◌∙◌}
use mathlib.Core.Logic.{◌↔◌}
use mathlib.Core.List.{List}
use mathlib.Core.Bool.{false≢true}
use Prim.Native.Nat.{ℕ}
use native.Mathlib.Omega.{arith}
use lib.ListN.{length}
use lib.Dec.{ltb}
use borrow.Author.Tests.{ltb-true, ltb-false}
use Rattle.std.specs.Prelude.{None}
use Rattle.base.proofs.Picks.{pick-case}
use Rattle.cbor.specs.declared.token.Token.{Token}
use Rattle.utf8.specs.Utf8.{is_utf8}
use Rattle.utf8.proofs.Utf8Exact.{utf8_exactly}
use Rattle.options.specs.Text.{Noted, bad_text, first_of}
use Rattle.rfc8990.specs.Limits.{most_name}
use Rattle.options.specs.Objective.{long_name}
use Rattle.options.proofs.Texts.{none_first}
use Rattle.rfc8990.specs.Limits.{Utf8, Short}

-- a text's place isn't given exactly where the text is UTF-8
pub bad_text_lem : (text : List ℕ) (place : ℕ) → (place ≡ 0 → ⊥) → bad_text text place ≡ None ↔ Utf8 text
unfolding bad_text
bad_text_lem text place some =
    let (there, back) = utf8_exactly text in
    pick-case (λ (n : Noted). n ≡ None ↔ Utf8 text) (is_utf8 text) (λ e. (λ _. there e, λ _. refl))
    (λ e. (λ z. absurd (cc), λ is. absurd (false≢true (sym e ∙ back is))))

-- a name's place isn't given exactly where the name is short
pub long_name_lem : (w : Token) (place : ℕ) (name : List ℕ) → (place ≡ 0 → ⊥) → length name ≡ w.arg → long_name w place ≡ None ↔ Short name
unfolding long_name
long_name_lem w place name some long =
    pick-case (λ (n : Noted). n ≡ None ↔ Short name) (ltb most_name w.arg)
    (λ e. (λ z. absurd (cc), λ short. absurd (omega (arith, ltb-true most_name w.arg e))))
    (λ e. (λ _. omega (arith, ltb-false most_name w.arg e), λ _. refl))

-- two have no place where neither has one
pub first_zero : (a b : Noted) → first_of a b ≡ None ↔ (a ≡ None) × (b ≡ None)
first_zero a b = (none_first a b, λ z. rw (z.0, z.1) refl)
