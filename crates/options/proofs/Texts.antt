-- The places of bad texts and long names: that none is noted at another place where none is at one.
-- Assumes nothing.
use mathlib.Core.Path.{◌≡◌, refl}
use mathlib.Core.List.{List}
use Prim.Native.Nat.{ℕ}
use lib.Dec.{ltb}
use Rattle.std.specs.Prelude.{Some, None}
use Rattle.base.proofs.Picks.{one_test}
use Rattle.cbor.specs.declared.token.Token.{Token}
use Rattle.utf8.specs.Utf8.{is_utf8}
use Rattle.options.specs.Text.{Noted, bad_text, first_of}
use Rattle.rfc8990.specs.Limits.{most_name}
use Rattle.options.specs.Objective.{long_name}

-- two have no first place only where neither has one
pub none_first : (a b : Noted) → first_of a b ≡ None → (a ≡ None) × (b ≡ None)
none_first None b z = (refl, z)
none_first (Some a) b z = absurd (cc)

-- the second is none where the first is
abbrev pub NoneMoves : Noted → Noted → Type 0
NoneMoves a b = a ≡ None → b ≡ None

-- a text that isn't bad at some place is bad at none
pub bad_text_moves : (text : List ℕ) (place place' : ℕ) → NoneMoves (bad_text text place) (bad_text text place')
unfolding bad_text
bad_text_moves text place place' = one_test NoneMoves (is_utf8 text) (λ _. refl) (λ z. absurd (cc))

-- a name that isn't long at some place is long at none
pub long_name_moves : (t : Token) (place place' : ℕ) → NoneMoves (long_name t place) (long_name t place')
unfolding long_name
long_name_moves t place place' = one_test NoneMoves (ltb most_name t.arg) (λ z. absurd (cc)) (λ _. refl)
