-- The relay table (rules 7): 64 rows of four numbers, one after the other.
use Rattle.std.specs.Prelude.{ℕ, zero, suc, ◌+◌, ◌-◌, ◌*◌, ◌/◌, ◌%◌, ◌^◌, Bool, true, not, ◌&&◌, ◌||◌}
use Rattle.std.specs.Prelude.{List, Option, Some, None, length, get_or, set, replicate, ltb, leb, eqb}
use Rattle.base.specs.Pick.{pick}
use Rattle.node_state.specs.declared.key.Key.{Key}
use Rattle.node_state.specs.Key.{no_key}

-- house limit (rules 7.1): how many rows the table has
abbrev pub most_rows : ℕ
most_rows = 64

-- how many numbers the table has, four to a row
abbrev pub table_numbers : ℕ
table_numbers = 4 * most_rows

-- a fresh table: every row is free
unfoldable pub fresh_table : List ℕ
fresh_table = replicate table_numbers 0

-- the first for a table of 256 numbers, the second for a list of another length, which has no rows
unfoldable pub where_sized : {A : Type 0} → List ℕ → A → A → A
where_sized t x y = pick (eqb (length t) table_numbers) x y

-- number j of row i
unfoldable pub cell : List ℕ → ℕ → ℕ → ℕ
cell t i j = get_or t (4 * i + j) 0

-- the table with row i filled
unfoldable pub put_row : List ℕ → ℕ → Key → ℕ → List ℕ
put_row t i k clock =
    set (set (set (set t (4 * i) k.first) (4 * i + 1) k.second) (4 * i + 2) k.third) (4 * i + 3) clock

-- a free row is four zeros
unfoldable pub row_free : List ℕ → ℕ → Bool
row_free t i = eqb (cell t i 0) 0 && eqb (cell t i 1) 0 && eqb (cell t i 2) 0 && eqb (cell t i 3) 0

-- the tag in a row's first number, which is the session + 2^32 times the tag
unfoldable pub tag_in : ℕ → ℕ
tag_in first = first / 2 ^ 32

-- an initiator of 4 bytes, which goes with the tags 1 and 3, is one number below 2^32
unfoldable pub initiator_fits : ℕ → ℕ → ℕ → Bool
initiator_fits tag second third = pick (eqb (tag % 2) 0) true (ltb second (2 ^ 32) && eqb third 0)

-- a tag of 1 to 4 and an initiator that goes with it
unfoldable pub row_keyed : List ℕ → ℕ → Bool
row_keyed t i =
    let tag = tag_in (cell t i 0) in
    leb 1 tag && leb tag 4 && initiator_fits tag (cell t i 1) (cell t i 2)

-- a used row has a key, and was admitted not after the call's clock
unfoldable pub row_used : ℕ → List ℕ → ℕ → Bool
row_used now t i = row_keyed t i && leb (cell t i 3) now

-- neither free nor used
unfoldable pub row_bad : ℕ → List ℕ → ℕ → Bool
row_bad now t i = not (row_free t i || row_used now t i)

-- the lowest place from i on, of n, that passes the test; i + n where none does
unfoldable pub first_from : (ℕ → Bool) → ℕ → ℕ → ℕ
first_from p zero i = i
first_from p (suc n) i = let r = first_from p n (suc i) in pick (p i) i r

-- some row passes the test
unfoldable pub some_row : (ℕ → Bool) → Bool
some_row p = ltb (first_from p most_rows 0) most_rows

-- refusal 15 is due (rules 7.7): not 256 numbers, or a bad row
unfoldable pub table_bad : ℕ → List ℕ → Bool
table_bad now t = not (eqb (length t) table_numbers) || some_row (row_bad now t)

-- house limit (rules 7.5): how long a Discovery's row lives, in ms
abbrev pub discovery_life : ℕ
discovery_life = 60000

-- house limit (rules 7.5): how long a Flood's row lives, in ms
abbrev pub flood_life : ℕ
flood_life = 120000

-- by a row's first number: the tags 1 and 2 are a Discovery's
unfoldable pub row_life : ℕ → ℕ
row_life first = pick (ltb (tag_in first) 3) discovery_life flood_life

-- a row is dead once the clock minus the admission is its life or more
unfoldable pub row_dead : ℕ → List ℕ → ℕ → Bool
row_dead now t i = leb (row_life (cell t i 0)) (now - cell t i 3)

-- the table with the dead ones of its first n rows freed (a free row stays four zeros either way)
unfoldable pub free_rows : ℕ → List ℕ → ℕ → List ℕ
free_rows now t zero = t
free_rows now t (suc n) = let f = free_rows now t n in pick (row_dead now f n) (put_row f n no_key 0) f

-- the table with every dead row freed
unfoldable pub freed : ℕ → List ℕ → List ℕ
freed now t = free_rows now t most_rows

-- the lowest free row, 64 where none is free
unfoldable pub lowest_free : List ℕ → ℕ
lowest_free t = first_from (row_free t) most_rows 0

-- a row of the table, or none
unfoldable pub row_told : ℕ → Option ℕ
row_told i = pick (ltb i most_rows) (Some i) None

-- the table with its lowest free row filled, if there is one
unfoldable pub filled : List ℕ → Key → ℕ → List ℕ
filled t k clock = pick (ltb (lowest_free t) most_rows) (put_row t (lowest_free t) k clock) t

-- row i has this key
unfoldable pub row_matches : Key → List ℕ → ℕ → Bool
row_matches k t i = eqb (cell t i 0) k.first && eqb (cell t i 1) k.second && eqb (cell t i 2) k.third

-- some row has this key
unfoldable pub is_known : Key → List ℕ → Bool
is_known k t = some_row (row_matches k t)
