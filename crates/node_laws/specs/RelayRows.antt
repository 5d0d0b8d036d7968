-- The rows of the relay table, in the words of rules 7.
use Rattle.std.specs.Prelude.{ℕ, ◌+◌, ◌-◌, ◌*◌, ◌^◌, ◌≤◌, ◌<◌, List, ◌≡◌}
use Rattle.node_state.specs.declared.key.Key.{Key}
use Rattle.node_state.specs.Table.{cell}

-- a free row is four zeros (rules 7.3)
pub record Free (t : List ℕ) (i : ℕ) : Type 0 where
  pub first : cell t i 0 ≡ 0
  pub second : cell t i 1 ≡ 0
  pub third : cell t i 2 ≡ 0
  pub fourth : cell t i 3 ≡ 0

-- a tag, how many bytes its initiator has, and for how many ms its row lives (rules 7.5)
pub data Tag : ℕ → ℕ → ℕ → Type 0 where
  discovery_4 : Tag 1 4 60000
  discovery_16 : Tag 2 16 60000
  flood_4 : Tag 3 4 120000
  flood_16 : Tag 4 16 120000

-- a used row (rules 7.4): session + 2^32 times the tag, the initiator, and an admission that isn't after the call's
-- clock
pub record Used (now : ℕ) (t : List ℕ) (i : ℕ) : Type 0 where
  pub session : ℕ
  pub tag : ℕ
  pub bytes : ℕ
  pub life : ℕ
  pub tagged : Tag tag bytes life
  pub small : session < 2 ^ 32
  pub first : cell t i 0 ≡ session + 2 ^ 32 * tag
  pub short : bytes ≡ 4 → (cell t i 1 < 2 ^ 32) × (cell t i 2 ≡ 0)
  pub admitted : cell t i 3 ≤ now

-- a row lives while the clock minus its admission is below its life (rules 7.6)
pub record Live (now : ℕ) (t : List ℕ) (i : ℕ) : Type 0 where
  pub used : Used now t i
  pub young : now - cell t i 3 < used.life

-- a used row that no longer lives
pub record Dead (now : ℕ) (t : List ℕ) (i : ℕ) : Type 0 where
  pub used : Used now t i
  pub old : used.life ≤ now - cell t i 3

-- a row has a key's three numbers
pub record HasKey (t : List ℕ) (i : ℕ) (k : Key) : Type 0 where
  pub first : cell t i 0 ≡ k.first
  pub second : cell t i 1 ≡ k.second
  pub third : cell t i 2 ≡ k.third

-- all four numbers of row i are those of another table
abbrev pub SameRow : List ℕ → List ℕ → ℕ → Type 0
SameRow u t i = (j : ℕ) → j < 4 → cell u i j ≡ cell t i j
