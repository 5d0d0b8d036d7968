-- Asking for a fresh record, and setting links (rules 6.3, 6.5, 6.6), said of the bits of a mask.
use Rattle.std.specs.Prelude.{ℕ, List, Result, Ok, Err}
use Rattle.refusal.specs.declared.Refusal.{Refusal}
use Rattle.refusal.specs.declared.Refusal.TheVariants as R
use Rattle.node_state.specs.declared.Record.{Record}
use Rattle.node_state.specs.Record.{begun, linked}
use Rattle.node_laws.specs.Bars.{HighLink, BadRecord}

-- 12 where the record would be bad; else the record, with clock and tally 0
pub data FreshIs (address : List ℕ) (port ttl interfaces mask : ℕ) : Result Record Refusal → Type 0 where
  refused : BadRecord (begun address port ttl interfaces mask)
      → FreshIs address port ttl interfaces mask (Err R.BadRecord)
  made : (BadRecord (begun address port ttl interfaces mask) → ⊥)
      → FreshIs address port ttl interfaces mask (Ok (begun address port ttl interfaces mask))

-- 12 for a bad record; 13 for a mask with a bit at or above the count; else the mask in the old one's place, and
-- nothing else changed
pub data LinksSet (r : Record) (mask : ℕ) : Result Record Refusal → Type 0 where
  bad_record : BadRecord r → LinksSet r mask (Err R.BadRecord)
  bad_mask : (BadRecord r → ⊥) → HighLink r.interfaces mask → LinksSet r mask (Err R.BadLink)
  set : (BadRecord r → ⊥) → (HighLink r.interfaces mask → ⊥) → LinksSet r mask (Ok (linked r mask))
