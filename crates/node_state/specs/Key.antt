-- The key of a message's row (rules 7.4, 7.5, 7.9).
use Rattle.std.specs.Prelude.{ℕ, ◌+◌, ◌*◌, ◌^◌, Bool, ◌||◌, List, length, drop, eqb}
use Rattle.base.specs.Pick.{pick}
use Rattle.base.specs.BigEndian.{big_endian}
use Rattle.node_state.specs.declared.key.Key.{Key}

-- 1 and 2 for a Discovery whose initiator has 4 and 16 bytes, 3 and 4 for a Flood
unfoldable pub tag_of : Bool → ℕ → ℕ
tag_of flood len = pick flood (pick (eqb len 4) 3 4) (pick (eqb len 4) 1 2)

-- a row's first three numbers: session + 2^32 times the tag; the initiator, where it has 4 bytes in the second alone
unfoldable pub key_of : Bool → ℕ → List ℕ → Key
key_of flood session initiator =
    let first = session + 2 ^ 32 * tag_of flood (length initiator) in
    pick (eqb (length initiator) 4) (record { first = first; second = big_endian initiator 4; third = 0 })
    (record { first = first; second = big_endian initiator 8; third = big_endian (drop 8 initiator) 8 })

-- three zeros, a free row's
abbrev pub no_key : Key
no_key = record { first = 0; second = 0; third = 0 }

-- an initiator of a message has 4 or 16 bytes; another has no key, for which three zeros stand
unfoldable pub key_for : Bool → ℕ → List ℕ → Key
key_for flood session initiator =
    pick (eqb (length initiator) 4 || eqb (length initiator) 16) (key_of flood session initiator) no_key
