-- Masks: numbers read bit by bit.
use Rattle.std.specs.Prelude.{ℕ, ◌+◌, ◌/◌, ◌%◌, ◌^◌, Bool, List, [], ◌∷◌, eqb}

-- bit i of a mask is set
unfoldable pub has_bit : ℕ → ℕ → Bool
has_bit mask i = eqb (mask / 2 ^ i % 2) 1

-- the mask whose bits these are, each named once
abbrev pub mask_with : List ℕ → ℕ
mask_with [] = 0
mask_with (i ∷ rest) = 2 ^ i + mask_with rest
