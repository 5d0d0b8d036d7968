-- Numbers spelled in bytes, the most significant first.
use Rattle.std.specs.Prelude.{ℕ, zero, suc, ◌+◌, ◌*◌, ◌/◌, ◌%◌, ◌^◌, ◌<◌, List, [], ◌∷◌, ◌++◌, get_or}

-- each element is a byte
abbrev pub Bytes : List ℕ → Type 0
Bytes s = (i : ℕ) → get_or s i 0 < 2 ^ 8

-- the first n elements are bytes
abbrev pub FirstBytes : ℕ → List ℕ → Type 0
FirstBytes n s = (i : ℕ) → i < n → get_or s i 0 < 2 ^ 8

-- the number that the first n bytes of s spell
unfoldable pub big_endian : List ℕ → ℕ → ℕ
big_endian s zero = 0
big_endian s (suc n) = big_endian s n * 256 + get_or s n 0

-- the n bytes that spell v
unfoldable pub bytes_of : ℕ → ℕ → List ℕ
bytes_of zero v = []
bytes_of (suc n) v = bytes_of n (v / 256) ++ (v % 256 ∷ [])
