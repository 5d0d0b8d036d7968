-- Pairs, one after the other.
use Rattle.std.specs.Prelude.{ℕ, zero, suc, ◌+◌, List, Result, Ok, Err}
use Rattle.options.specs.declared.Departure.{Departure}
use Rattle.options.specs.declared.pair.Pair.{Pair}
use Rattle.options.specs.Text.{Noted, first_of}
use Rattle.options.specs.Part.{Read}
use Rattle.options.specs.Pair.{pair_at}
use Rattle.message.specs.declared.sequence.Pairs.{Pairs}

-- what is read of some pairs
abbrev pub PairsRead : Type 0
PairsRead = Result Pairs Departure

-- pairs that were read: where they end, the first bad text and the first long name
abbrev pub pairs_ended : ℕ → Noted → Noted → PairsRead
pairs_ended end bad long = Ok (record { end = end; bad = bad; long = long })

-- what follows a pair that was read
unfoldable pub pair_then : (ℕ → Noted → Noted → PairsRead) → ℕ → Noted → Noted → Read Pair → PairsRead
pair_then go at bad long (Err e) = Err e
pair_then go at bad long (Ok p) = go (at + p.size) (first_of bad p.bad) (first_of long p.long)

-- n pairs: where they end, the first bad text and the first long name
unfoldable pub pairs_from : List ℕ → ℕ → ℕ → Noted → Noted → PairsRead
pairs_from s zero at bad long = pairs_ended at bad long
pairs_from s (suc n) at bad long = pair_then (pairs_from s n) at bad long (pair_at s at)
