-- The relay table for C: its numbers one after the other, eight bytes each, the most significant first.
use Rattle.std.specs.Prelude.{ℕ, zero, suc, ◌*◌, drop}
use mathlib.Core.List.{List, [], ◌∷◌, flat_map}
use Rattle.base.specs.BigEndian.{big_endian, bytes_of}
use Rattle.node_state.specs.Table.{table_numbers}

-- how many bytes a table has
abbrev pub table_bytes : ℕ
table_bytes = 8 * table_numbers

-- the first n numbers that bytes spell
unfoldable pub numbers_in : ℕ → List ℕ → List ℕ
numbers_in zero bytes = []
numbers_in (suc n) bytes = big_endian bytes 8 ∷ numbers_in n (drop 8 bytes)

-- the table that bytes hold
unfoldable pub loaded : List ℕ → List ℕ
loaded bytes = numbers_in table_numbers bytes

-- the bytes that hold a table
unfoldable pub saved : List ℕ → List ℕ
saved table = flat_map (bytes_of 8) table
