-- The refusals 12 to 17 of a node call, in their order (rules 8.3).
use Rattle.std.specs.Prelude.{ℕ, ◌^◌, ◌≤◌, ◌<◌, true, false, List, ◌⊎◌, ◌≡◌, length}
use Rattle.base.specs.Bits.{has_bit}
use Rattle.node_laws.specs.OwnNames.{OwnNames}
use Rattle.node_state.specs.declared.Record.{Record}
use Rattle.node.specs.Call.{Call}
use Rattle.node_laws.specs.RelayRows.{Free, Used}

-- a bit of the mask is set at or above the count
abbrev pub HighLink : ℕ → ℕ → Type 0
HighLink interfaces mask = (j : ℕ) × (interfaces ≤ j) × (has_bit mask j ≡ true)

-- the interface count isn't 1 to 8, a link bit is set at or above it, or the tally is above 2^63 (rules 6.2)
pub data BadRecord (r : Record) : Type 0 where
  no_interface : r.interfaces ≡ 0 → BadRecord r
  many_interfaces : 8 < r.interfaces → BadRecord r
  high_link : HighLink r.interfaces r.links → BadRecord r
  high_tally : 2 ^ 63 < r.tally → BadRecord r

-- the arriving interface isn't below the count, or isn't in the mask of links: its link is down
abbrev pub BadArrival : Record → Call → Type 0
BadArrival r c = (r.interfaces ≤ c.interface) ⊎ (has_bit r.links c.interface ≡ false)

-- the clock is earlier than the record's
abbrev pub Earlier : Record → Call → Type 0
Earlier r c = c.clock < r.clock

-- the table has 256 numbers, and each row is free or used at this clock (rules 7.7)
abbrev pub GoodTable : List ℕ → ℕ → Type 0
GoodTable t now = (length t ≡ 256) × ((i : ℕ) → i < 64 → Free t i ⊎ Used now t i)

-- the own names aren't an array of names (`OwnNames`)
abbrev pub BadNames : Call → Type 0
BadNames c = OwnNames c.names → ⊥

-- the output is shorter than 2,048 bytes
abbrev pub ShortOutput : Call → Type 0
ShortOutput c = length c.output < 2048

-- the first that applies, 0 for none
pub data Barred (r : Record) (t : List ℕ) (c : Call) : ℕ → Type 0 where
  bad_record : BadRecord r → Barred r t c 12
  bad_arrival : (BadRecord r → ⊥) → BadArrival r c → Barred r t c 13
  bad_clock : (BadRecord r → ⊥) → (BadArrival r c → ⊥) → Earlier r c → Barred r t c 14
  bad_table : (BadRecord r → ⊥) → (BadArrival r c → ⊥) → (Earlier r c → ⊥) → (GoodTable t c.clock → ⊥)
      → Barred r t c 15
  bad_names : (BadRecord r → ⊥) → (BadArrival r c → ⊥) → (Earlier r c → ⊥) → GoodTable t c.clock → BadNames c
      → Barred r t c 16
  short_output : (BadRecord r → ⊥) → (BadArrival r c → ⊥) → (Earlier r c → ⊥) → GoodTable t c.clock
      → OwnNames c.names → ShortOutput c → Barred r t c 17
  nothing : (BadRecord r → ⊥) → (BadArrival r c → ⊥) → (Earlier r c → ⊥) → GoodTable t c.clock → OwnNames c.names
      → (ShortOutput c → ⊥) → Barred r t c 0
