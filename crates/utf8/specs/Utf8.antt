-- UTF-8 (RFC 3629).
use Rattle.std.specs.Prelude.{ℕ, zero, suc, ◌+◌, ◌/◌, ◌%◌, ◌^◌, ◌<◌, ◌≤◌, Bool, false, ◌≡◌, ◌⊎◌, List, [], ◌∷◌, ◌++◌}
use Rattle.std.specs.Prelude.{ltb, eqb}
use Rattle.base.specs.Pick.{pick}
use Rattle.base.specs.Lists.{Every}

-- How many tails follow the lead byte b (RFC 3629, section 4): none where b is no lead byte.
unfoldable pub tails_of : ℕ → ℕ
tails_of b = pick (ltb b 0xC2) 0 (pick (ltb b 0xE0) 1 (pick (ltb b 0xF0) 2 (pick (ltb b 0xF5) 3 0)))

-- The least first tail after the lead byte b (RFC 3629, section 4): a lower one would spell what fewer bytes spell.
unfoldable pub least_tail : ℕ → ℕ
least_tail b = pick (eqb b 0xE0) 0xA0 (pick (eqb b 0xF0) 0x90 0x80)

-- The greatest first tail after the lead byte b (RFC 3629, section 4): a higher one would spell a surrogate, or more
-- than 0x10FFFF.
unfoldable pub greatest_tail : ℕ → ℕ
greatest_tail b = pick (eqb b 0xED) 0x9F (pick (eqb b 0xF4) 0x8F 0xBF)

-- Whether s is the tails that are due, the first of them from low to high, and then UTF-8 (RFC 3629, section 4).
unfoldable pub goes_on : (due low high : ℕ) → List ℕ → Bool
goes_on due low high [] = eqb due 0
goes_on zero low high (b ∷ s) =
    pick (ltb b 0x80) (goes_on 0 low high s)
    (pick (eqb (tails_of b) 0) false (goes_on (tails_of b) (least_tail b) (greatest_tail b) s))
goes_on (suc due) low high (b ∷ s) = pick (ltb b low) false (pick (ltb high b) false (goes_on due 0x80 0xBF s))

-- Whether s is UTF-8, by the bytes that section 4 of RFC 3629 lists; `Utf8Exact.utf8_exactly` holds it against `Utf8`.
unfoldable pub is_utf8 : List ℕ → Bool
is_utf8 s = goes_on 0 0x80 0xBF s

-- A Unicode scalar value (RFC 3629, section 3): 0 to 0x10FFFF without the surrogates 0xD800 to 0xDFFF.
abbrev pub Scalar : ℕ → Type 0
Scalar c = (c < 0xD800) ⊎ ((0xE000 ≤ c) × (c ≤ 0x10FFFF))

-- The octets of a scalar value, by the table of RFC 3629, section 3.
unfoldable pub scalar_bytes : ℕ → List ℕ
scalar_bytes c =
    pick (ltb c 0x80) (c ∷ [])
    (pick (ltb c 0x800) ((0xC0 + c / 2 ^ 6) ∷ (0x80 + c % 2 ^ 6) ∷ [])
    (pick (ltb c 0x10000) ((0xE0 + c / 2 ^ 12) ∷ (0x80 + c / 2 ^ 6 % 2 ^ 6) ∷ (0x80 + c % 2 ^ 6) ∷ [])
    ((0xF0 + c / 2 ^ 18) ∷ (0x80 + c / 2 ^ 12 % 2 ^ 6) ∷ (0x80 + c / 2 ^ 6 % 2 ^ 6) ∷ (0x80 + c % 2 ^ 6) ∷ [])))

-- The octets of a text, a list of scalar values: those of each, in order (RFC 3629, section 3).
unfoldable pub text_bytes : List ℕ → List ℕ
text_bytes [] = []
text_bytes (c ∷ cs) = scalar_bytes c ++ text_bytes cs

-- UTF-8, as RFC 3629 has it: s is the octets of some text.
abbrev pub Utf8 : List ℕ → Type 0
Utf8 s = (cs : List ℕ) × Every Scalar cs × (text_bytes cs ≡ s)
