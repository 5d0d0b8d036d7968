-- Bytes at the edges (rules 12): the addresses, the name and the messages of the starred cases.
use Rattle.std.specs.Prelude.{ℕ, List, [], ◌∷◌, ◌++◌}

-- 2001:db8::1
abbrev pub home : List ℕ
home = 0x20 ∷ 0x01 ∷ 0x0d ∷ 0xb8 ∷ 0 ∷ 0 ∷ 0 ∷ 0 ∷ 0 ∷ 0 ∷ 0 ∷ 0 ∷ 0 ∷ 0 ∷ 0 ∷ 1 ∷ []

-- 192.0.2.1
abbrev pub initiator : List ℕ
initiator = 0xc0 ∷ 0x00 ∷ 0x02 ∷ 0x01 ∷ []

-- "EX1"
abbrev pub name : List ℕ
name = 0x45 ∷ 0x58 ∷ 0x31 ∷ []

-- the Discovery with these bytes for its count
abbrev pub discovery_bytes : List ℕ → List ℕ
discovery_bytes count =
    (0x84 ∷ 0x01 ∷ 0x07 ∷ 0x44 ∷ 0xc0 ∷ 0x00 ∷ 0x02 ∷ 0x01 ∷ 0x83 ∷ 0x63 ∷ 0x45 ∷ 0x58 ∷ 0x31 ∷ 0x01 ∷ []) ++ count

-- the Flood with this count
abbrev pub flood_bytes : ℕ → List ℕ
flood_bytes count = 0x85 ∷ 0x09 ∷ 0x07 ∷ 0x44 ∷ 0xc0 ∷ 0x00 ∷ 0x02 ∷ 0x01 ∷ 0x19 ∷ 0x03 ∷ 0xe8 ∷ 0x82 ∷ 0x83 ∷ 0x63
    ∷ 0x45 ∷ 0x58 ∷ 0x31 ∷ 0x04 ∷ count ∷ 0x80 ∷ []

-- the End that accepts
abbrev pub end_bytes : List ℕ
end_bytes = 0x83 ∷ 0x06 ∷ 0x07 ∷ 0x81 ∷ 0x18 ∷ 0x65 ∷ []
