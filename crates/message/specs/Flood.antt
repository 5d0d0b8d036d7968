-- Flood (RFC 8990, section 2.8.11): session, initiator, ttl, then pairs.
use Rattle.std.specs.Prelude.{ℕ, ◌+◌, ◌-◌, List, Ok, Err, ltb}
use Rattle.base.specs.Pick.{pick}
use Rattle.options.specs.declared.pair.Pair.{Pair}
use Rattle.options.specs.Part.{Read, departs, part}
use Rattle.options.specs.Pair.{pair_at}
use Rattle.message.specs.declared.Series.{Series}
use Rattle.message.specs.declared.Message.TheVariants as M
use Rattle.message.specs.declared.opening.Opening.{Opening}
use Rattle.message.specs.declared.Message.{Message}
use Rattle.message.specs.Opening.{WithNext, opening_at}
use Rattle.message.specs.Sequence.{PairsRead, pairs_from}

-- a Flood whose other pairs were read
unfoldable pub flooded_by : Opening → Pair → Series → PairsRead → Read Message
flooded_by o first pairs (Err e) = Err e
flooded_by o first pairs (Ok r) = part (M.Flood o.session o.initiator o.ttl first pairs) r.end r.bad r.long

-- one whose first pair was read; n pairs from `at` on in all
unfoldable pub flooded_of : List ℕ → Opening → ℕ → ℕ → Read Pair → Read Message
flooded_of s opening n at (Err e) = Err e
flooded_of s opening n at (Ok p) =
    flooded_by opening p.value (record { at = at; many = n }) (pairs_from s (n - 1) (at + p.size) p.bad p.long)

-- n pairs from `at` on
unfoldable pub flooded_at : List ℕ → Opening → ℕ → ℕ → Read Message
flooded_at s opening n at = flooded_of s opening n at (pair_at s at)

-- a Flood, by what was read of its opening
unfoldable pub flood_by : List ℕ → ℕ → WithNext Opening → Read Message
flood_by s n (Err e) = Err e
flood_by s n (Ok (opening, next)) = flooded_at s opening (n - 4) next

-- kind 9: a message s of n items in all, its session at `at`
unfoldable pub flood_at : List ℕ → ℕ → ℕ → Read Message
flood_at s n at = pick (ltb n 5) (departs 0) (flood_by s n (opening_at s at))
