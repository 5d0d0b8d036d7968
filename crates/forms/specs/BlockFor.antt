-- The block that describes a message to the writer, as `include/grasp.h` has it: nineteen numbers in fixed places, 0
-- where the message lacks a field. The places of a count's head (10) and of the first locator or pair (14) are the
-- reader's alone, and hold 0.
use Rattle.std.specs.Prelude.{Some, None}
use Rattle.std.specs.Prelude.{ℕ, ◌/◌, ◌^◌, ◌<◌, Bool, true, false, List, [], ◌∷◌, ◌++◌, get_or, set, replicate, eqb}
use Rattle.std.proofs.lemmas.List.Edits.{sets}
use Rattle.base.specs.Pick.{pick}
use Rattle.options.specs.declared.Span.{Span}
use Rattle.options.specs.declared.outcome.Outcome.{Outcome}
use Rattle.options.specs.Text.{span_of}
use Rattle.message.specs.Fields.{Extra}
use Rattle.description.specs.declared.GivenObjective.{GivenObjective}
use Rattle.std.specs.Prelude.{Option, Some, None}
use Rattle.description.specs.declared.Description.{Description}
use Rattle.description.specs.declared.Description.TheVariants as D
use Rattle.forms.specs.declared.rows.Rows.{Rows}

-- ---- the places, from 0 to 18
-- 0 to 4: kind, session, place and length of the initiator, ttl or waiting time
abbrev pub opening_numbers : ℕ → ℕ → Span → ℕ → List ℕ
opening_numbers kind session initiator ttl = kind ∷ session ∷ initiator.at ∷ initiator.len ∷ ttl ∷ []

-- 5 to 12: whether there is an objective, place and length of its name, flags, count, 0, place and length of its value
abbrev pub extra_numbers : Option GivenObjective → List ℕ
extra_numbers None = 0 ∷ 0 ∷ 0 ∷ 0 ∷ 0 ∷ 0 ∷ 0 ∷ 0 ∷ []
extra_numbers (Some o) =
    1 ∷ o.name.at ∷ o.name.len ∷ o.flags ∷ o.count ∷ 0 ∷ o.value.at ∷ o.value.len ∷ []

-- 13 to 15: locators (1), a divert (2), pairs (3) or no list (0); 0; how many rows the list has
abbrev pub rows_numbers : ℕ → ℕ → List ℕ
rows_numbers sort many = sort ∷ 0 ∷ many ∷ []

-- 16 to 18: accept (1), decline (2), decline with a reason (3) or no outcome (0); place and length of a reason or of
-- Invalid's item
abbrev pub item_numbers : ℕ → Span → List ℕ
item_numbers sort span = sort ∷ span.at ∷ span.len ∷ []

-- no bytes anywhere
abbrev pub no_span : Span
no_span = span_of 0 0

-- ---- the kinds
-- those with an objective, and no list
abbrev pub objective_block : ℕ → ℕ → Span → GivenObjective → List ℕ
objective_block kind session initiator o =
    opening_numbers kind session initiator 0 ++ extra_numbers (Some o) ++ rows_numbers 0 0
    ++ item_numbers 0 no_span

-- those with a list and no outcome: so many rows, and an objective or none
abbrev pub list_block : ℕ → ℕ → Span → ℕ → Option GivenObjective → ℕ → ℕ → List ℕ
list_block kind session initiator ttl extra sort many =
    opening_numbers kind session initiator ttl ++ extra_numbers extra ++ rows_numbers sort many ++ item_numbers 0
    no_span

-- those with neither an objective nor a list
abbrev pub item_block : ℕ → ℕ → ℕ → ℕ → Span → List ℕ
item_block kind session time sort span =
    opening_numbers kind session no_span time ++ extra_numbers None ++ rows_numbers 0 0
    ++ item_numbers sort span

-- locators, or a divert of them
abbrev pub targets_sort : Bool → ℕ
targets_sort false = 1
targets_sort true = 2

-- the block of a description beside a list of so many numbers: five to a locator, twelve to a pair
unfoldable pub block_for : Description → ℕ → List ℕ
block_for D.Noop numbers = item_block 0 0 0 0 no_span
block_for (D.Discovery session initiator o) numbers = objective_block 1 session initiator o
block_for (D.Response session initiator ttl divert extra) numbers =
    list_block 2 session initiator ttl extra (targets_sort divert) (numbers / 5)
block_for (D.RequestNegotiation session o) numbers = objective_block 3 session no_span o
block_for (D.RequestSynchronization session o) numbers = objective_block 4 session no_span o
block_for (D.Negotiate session o) numbers = objective_block 5 session no_span o
block_for (D.End session Outcome.Accept) numbers = item_block 6 session 0 1 no_span
block_for (D.End session Outcome.Decline) numbers = item_block 6 session 0 2 no_span
block_for (D.End session (Outcome.Reason reason)) numbers = item_block 6 session 0 3 reason
block_for (D.Wait session time) numbers = item_block 7 session time 0 no_span
block_for (D.Synch session o) numbers = objective_block 8 session no_span o
block_for (D.Flood session initiator ttl) numbers =
    list_block 9 session initiator ttl None 3 (numbers / 12)
block_for (D.Invalid session item) numbers = item_block 99 session 0 0 item

-- ---- the widths of a description's types
-- 8 bits
abbrev pub GivenFits : GivenObjective → Type 0
GivenFits o = (o.flags < 2 ^ 8) × (o.count < 2 ^ 8)

-- of an objective that may be left out
abbrev pub ExtraFits : Option GivenObjective → Type 0
ExtraFits None = Unit {0}
ExtraFits (Some o) = GivenFits o

-- a session, a ttl and a waiting time have 32 bits
abbrev pub DescriptionFits : Description → Type 0
DescriptionFits D.Noop = Unit {0}
DescriptionFits (D.Discovery session initiator o) = (session < 2 ^ 32) × GivenFits o
DescriptionFits (D.Response session initiator ttl divert extra) = (session < 2 ^ 32) × (ttl < 2 ^ 32) × ExtraFits extra
DescriptionFits (D.RequestNegotiation session o) = (session < 2 ^ 32) × GivenFits o
DescriptionFits (D.RequestSynchronization session o) = (session < 2 ^ 32) × GivenFits o
DescriptionFits (D.Negotiate session o) = (session < 2 ^ 32) × GivenFits o
DescriptionFits (D.End session outcome) = session < 2 ^ 32
DescriptionFits (D.Wait session time) = (session < 2 ^ 32) × (time < 2 ^ 32)
DescriptionFits (D.Synch session o) = (session < 2 ^ 32) × GivenFits o
DescriptionFits (D.Flood session initiator ttl) = (session < 2 ^ 32) × (ttl < 2 ^ 32)
DescriptionFits (D.Invalid session item) = session < 2 ^ 32

-- ---- a block that was read
-- without the places that are the reader's: that of a count's head (10) and that of the first locator or pair (14)
abbrev pub unplaced : List ℕ → List ℕ
unplaced f = set (set f 10 0) 14 0

-- and of a Flood (9), whose objectives stand in the rows, without its first objective (5 to 12)
unfoldable pub cleared : List ℕ → List ℕ
cleared f = pick (eqb (get_or f 0 0) 9) (sets (unplaced f) 5 (replicate 8 0)) (unplaced f)

-- 5 to 12, as the reader fills them: the message's objective, with the place of its count's head
abbrev pub objective_read : Extra → List ℕ
objective_read None = 0 ∷ 0 ∷ 0 ∷ 0 ∷ 0 ∷ 0 ∷ 0 ∷ 0 ∷ []
objective_read (Some o) =
    1 ∷ o.name.at ∷ o.name.len ∷ o.flags ∷ o.count ∷ o.count_at ∷ o.value.at ∷ o.value.len ∷ []

-- 14, as the reader fills it: where the first locator or pair stands
abbrev pub first_at : Rows → ℕ
first_at Rows.Nothing = 0
first_at (Rows.Locators series) = series.at
first_at (Rows.Pairs series) = series.at
