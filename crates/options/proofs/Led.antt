-- No locator is an array that a text leads.
-- Assumes nothing.
use mathlib.Core.Path.{◌≡◌, refl}
use mathlib.Core.List.{List}
use mathlib.Core.Bool.{Bool, false}
use Prim.Native.Nat.{ℕ}
use native.Mathlib.Omega.{arith}
use lib.Dec.{ltb, eqb}
use borrow.Author.Tests.{ltb-false, ne_eqb}
use Rattle.std.specs.Prelude.{Ok}
use Rattle.base.proofs.Picks.{both, past}
use Rattle.cbor.specs.declared.token.Token.{Token}
use Rattle.cbor.specs.Token.{token_at, items_in, up_to}
use Rattle.cbor.proofs.Tokens.{is_number}
use Rattle.options.specs.declared.Part.{Part}
use Rattle.options.specs.declared.locator.Locator.{Locator}
use Rattle.options.specs.Part.{departs}
use Rattle.options.specs.Locator.{locator_in, locator_reached}
use Rattle.options.specs.Locators.{text_led}

-- a departure is no locator
never : (place : ℕ) (l : Part Locator) → departs place ≡ Ok l → ⊥
never place l e = cc

pub never_led : (base : ℕ) (s : List ℕ) (l : Part Locator) → locator_in base s ≡ Ok l → text_led s ≡ false
unfolding locator_in locator_reached text_led
never_led base s l q =
    let items = past (eqb (items_in a) 0) q (never _ l) in
    let least = past (ltb (up_to 106 k) 103) items.1 (never _ l) in
    let most = past (ltb 106 (up_to 106 k)) least.1 (never _ l) in
    let (number, _) = is_number 106 k (ltb-false 106 (up_to 106 k) most.0) in
    both (λ (b : Bool). b ≡ false) _ refl (ne_eqb k.major 3 (λ e. omega arith))
  where
    a : Token
    a = token_at s 0

    k : Token
    k = token_at s a.next
