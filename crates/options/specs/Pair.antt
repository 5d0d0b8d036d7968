-- The pairs of a Flood (RFC 8990, section 2.8.11): what is read of the bytes s that begin at the own head and stand at
-- `base` of the message.
use Rattle.std.specs.Prelude.{ℕ, ◌+◌, List, [], ◌∷◌, ◌++◌, Bool, ◌&&◌, Ok, Err, drop, get_or}
use Rattle.std.specs.Prelude.{Option, Some, None, replicate, eqb}
use Rattle.base.specs.Pick.{pick, unless}
use Rattle.cbor.specs.declared.token.Token.{Token}
use Rattle.cbor.specs.Token.{token_at, items_in}
use Rattle.options.specs.declared.locator.Locator.{Locator}
use Rattle.options.specs.declared.objective.Objective.{Objective}
use Rattle.options.specs.declared.pair.Pair.{Pair}
use Rattle.options.specs.Text.{Noted, first_of}
use Rattle.options.specs.Part.{Read, departs, part}
use Rattle.options.specs.Locator.{locator_in, locator_numbers}
use Rattle.options.specs.Objective.{objective_in}

-- what a flooded objective is tagged with: a locator, or none where it has an empty array
abbrev pub PairTag : Type 0
PairTag = Option Locator

-- an empty array
unfoldable pub is_empty : Token → Bool
is_empty t = eqb t.major 4 && eqb t.arg 0

-- a pair that was read
abbrev pub paired : Objective → PairTag → ℕ → Noted → Noted → Read Pair
paired objective tag = part (record { objective = objective; tag = tag })

-- a pair whose second item was read as a locator
unfoldable pub pair_tagged : ℕ → Objective → Noted → Noted → Read Locator → Read Pair
pair_tagged at o bad long (Err e) = Err e
pair_tagged at o bad long (Ok l) = paired o (Some l.value) (at + l.size) (first_of bad l.bad) long

-- a pair from its second item on, which stands at `at`
unfoldable pub pair_tail : ℕ → List ℕ → ℕ → Objective → Noted → Noted → Read Pair
pair_tail base s at o bad long =
    let t = token_at s at in
    pick (is_empty t) (paired o None t.next bad long)
    (pair_tagged at o bad long (locator_in (base + at) (drop at s)))

-- a pair of n items, by what was read of its objective at `at`
unfoldable pub pair_led : ℕ → List ℕ → ℕ → ℕ → Read Objective → Read Pair
pair_led base s n at (Err e) = Err e
pair_led base s n at (Ok o) = unless (eqb n 2) (departs base) (pair_tail base s (at + o.size) o.value o.bad o.long)

-- how many levels are open around the value of an objective in a pair: the message's, the pair's and the objective's
-- own
abbrev pub pair_levels : ℕ
pair_levels = 3

-- a pair: an array of an objective, and a locator or an empty array
unfoldable pub pair_in : ℕ → List ℕ → Read Pair
pair_in base s =
    let a = token_at s 0 in
    pick (eqb (items_in a) 0) (departs base)
    (pair_led base s a.arg a.next (objective_in pair_levels (base + a.next) (drop a.next s)))

-- the pair at a place of the message s
abbrev pub pair_at : List ℕ → ℕ → Read Pair
pair_at s at = pair_in at (drop at s)

-- an objective's seven numbers
abbrev pub objective_numbers : Objective → List ℕ
objective_numbers o =
    o.name.at ∷ o.name.len ∷ o.flags ∷ o.count ∷ o.count_at ∷ o.value.at ∷ o.value.len ∷ []

-- a tag's five numbers
unfoldable pub tag_numbers : PairTag → List ℕ
tag_numbers None = replicate 5 0
tag_numbers (Some l) = locator_numbers l

-- the first five numbers of a list
abbrev pub five : List ℕ → List ℕ
five t = get_or t 0 0 ∷ get_or t 1 0 ∷ get_or t 2 0 ∷ get_or t 3 0 ∷ get_or t 4 0 ∷ []

-- a pair's twelve numbers: its objective's, then its tag's
unfoldable pub pair_numbers : Objective → PairTag → List ℕ
pair_numbers o tag = objective_numbers o ++ five (tag_numbers tag)
