-- Which description a message's block says beside a list of rows.
use Rattle.std.specs.Prelude.{ℕ, ◌/◌, Bool, true, false, List, [], ◌∷◌, ◌++◌, get_or, ltb, eqb}
use Rattle.base.specs.Pick.{pick, unless}
use Rattle.base.specs.Bits.{has_bit, mask_with}
use Rattle.options.specs.declared.Span.{Span}
use Rattle.options.specs.Text.{span_of}
use Rattle.message.specs.Opening.{most_number}
use Rattle.description.specs.declared.GivenObjective.{GivenObjective}
use Rattle.std.specs.Prelude.{Option, Some, None}
use Rattle.options.specs.declared.outcome.Outcome.{Outcome}
use Rattle.description.specs.declared.Description.{Description}
use Rattle.description.specs.declared.Description.TheVariants as D
use Rattle.description.specs.Meaning.{locator_row, pair_row}
use Rattle.description.specs.Judge.{all_from}
use Rattle.forms.specs.declared.described.Narrow.{Narrow}
use Rattle.forms.specs.Block.{most_places}

-- ---- the places that a description has; the place of a count's head (10) and that of the first locator or pair (14)
-- are the reader's alone
-- the kind and the session
abbrev pub session_places : List ℕ
session_places = 0 ∷ 1 ∷ []

-- an initiator's place and length
abbrev pub initiator_places : List ℕ
initiator_places = 2 ∷ 3 ∷ []

-- a ttl, or a waiting time
abbrev pub ttl_place : List ℕ
ttl_place = 4 ∷ []

-- whether there is an objective, then its numbers
abbrev pub objective_places : List ℕ
objective_places = 5 ∷ 6 ∷ 7 ∷ 8 ∷ 9 ∷ 11 ∷ 12 ∷ []

-- which sort of rows the list has, and how many
abbrev pub rows_places : List ℕ
rows_places = 13 ∷ 15 ∷ []

-- an End's outcome: accept, decline, or decline with a reason
abbrev pub outcome_place : List ℕ
outcome_place = 16 ∷ []

-- place and length of a reason, or of Invalid's item
abbrev pub item_places : List ℕ
item_places = 17 ∷ 18 ∷ []

-- ---- which of them a kind may fill
-- the places that may hold other numbers than 0, as the bits of a mask, by the kind
unfoldable pub allowed_in : ℕ → ℕ
allowed_in kind =
    pick (eqb kind 0) (mask_with (0 ∷ []))
    (pick (eqb kind 1) (mask_with (session_places ++ initiator_places ++ objective_places))
    (pick (eqb kind 2) (mask_with (session_places ++ initiator_places ++ ttl_place ++ objective_places ++ rows_places))
    (pick (eqb kind 6) (mask_with (session_places ++ outcome_place ++ item_places))
    (pick (eqb kind 7) (mask_with (session_places ++ ttl_place))
    (pick (eqb kind 9) (mask_with (session_places ++ initiator_places ++ ttl_place ++ rows_places))
    (pick (eqb kind 99) (mask_with (session_places ++ item_places))
    (mask_with (session_places ++ objective_places))))))))

-- the number at place i is 0, or the mask has the place
unfoldable pub field_fits : List ℕ → ℕ → ℕ → Bool
field_fits f mask i = pick (eqb (get_or f i 0) 0) true (has_bit mask i)

-- every place of a block fits
unfoldable pub all_fit : List ℕ → ℕ → Bool
all_fit f mask = all_from (field_fits f mask) most_places 0

-- the places of an objective that isn't there, 5 to 12, hold 0
unfoldable pub is_blank : List ℕ → Bool
is_blank f =
    all_fit f (mask_with
    (session_places ++ initiator_places ++ ttl_place ++ 13 ∷ 14 ∷ 15 ∷ outcome_place ++ item_places))

-- the objective of a block
unfoldable pub given_objective : List ℕ → Narrow → GivenObjective
given_objective f n = record {
  name = span_of (get_or f 6 0) (get_or f 7 0);
  flags = n.flags;
  count = n.count;
  value = span_of (get_or f 11 0) (get_or f 12 0);
}

-- kinds 1, 3, 4, 5 and 8
unfoldable pub described_objective : ℕ → Narrow → Span → GivenObjective → Option Description
described_objective kind n initiator o =
    pick (eqb kind 1) (Some (D.Discovery n.session initiator o))
    (pick (eqb kind 3) (Some (D.RequestNegotiation n.session o))
    (pick (eqb kind 4) (Some (D.RequestSynchronization n.session o))
    (pick (eqb kind 5) (Some (D.Negotiate n.session o))
    (pick (eqb kind 8) (Some (D.Synch n.session o)) None))))

-- a Response with locators (1) or a divert (2)
unfoldable pub described_targets : ℕ → Narrow → Span → Option GivenObjective → Option Description
described_targets sort n initiator extra =
    pick (eqb sort 1) (Some (D.Response n.session initiator n.ttl false extra))
    (pick (eqb sort 2) (Some (D.Response n.session initiator n.ttl true extra)) None)

-- a Response, with an objective or without; as many locators are said as the list has rows
unfoldable pub described_response : List ℕ → ℕ → Narrow → Option Description
described_response f numbers n =
    let initiator = span_of (get_or f 2 0) (get_or f 3 0) in
    unless (eqb (get_or f 15 0) (numbers / locator_row)) None
    (pick (eqb (get_or f 5 0) 0)
    (unless (is_blank f) None (described_targets (get_or f 13 0) n initiator None))
    (unless (eqb (get_or f 5 0) 1) None
    (described_targets (get_or f 13 0) n initiator (Some (given_objective f n)))))

-- an End: accept (1), decline (2), decline with a reason (3)
unfoldable pub described_end : List ℕ → Narrow → Option Description
described_end f n =
    pick (eqb (get_or f 16 0) 3) (Some (D.End n.session (Outcome.Reason (span_of (get_or f 17 0) (get_or f 18 0)))))
    (unless (eqb (get_or f 17 0) 0) None
    (unless (eqb (get_or f 18 0) 0) None
    (pick (eqb (get_or f 16 0) 1) (Some (D.End n.session Outcome.Accept))
    (pick (eqb (get_or f 16 0) 2) (Some (D.End n.session Outcome.Decline)) None))))

-- a Flood: pairs (3), as many as the list has rows
unfoldable pub described_flood : List ℕ → ℕ → Narrow → Option Description
described_flood f numbers n =
    unless (eqb (get_or f 13 0) 3) None
    (unless (eqb (get_or f 15 0) (numbers / pair_row)) None
    (Some (D.Flood n.session (span_of (get_or f 2 0) (get_or f 3 0)) n.ttl)))

-- by the kind, once every place fits it
unfoldable pub described_kind : List ℕ → ℕ → Narrow → Option Description
described_kind f numbers n =
    pick (eqb (get_or f 0 0) 0) (Some D.Noop)
    (pick (eqb (get_or f 0 0) 2) (described_response f numbers n)
    (pick (eqb (get_or f 0 0) 6) (described_end f n)
    (pick (eqb (get_or f 0 0) 7) (Some (D.Wait n.session n.ttl))
    (pick (eqb (get_or f 0 0) 9) (described_flood f numbers n)
    (pick (eqb (get_or f 0 0) 99) (Some (D.Invalid n.session (span_of (get_or f 17 0) (get_or f 18 0))))
    (unless (eqb (get_or f 5 0) 1) None
    (described_objective (get_or f 0 0) n (span_of (get_or f 2 0) (get_or f 3 0)) (given_objective f n))))))))

-- what a block says beside a list of so many numbers: nothing where a place that the kind lacks isn't 0, or a number is
-- too wide
unfoldable pub described_by : List ℕ → ℕ → Option Description
described_by f numbers =
    unless (all_fit f (allowed_in (get_or f 0 0))) None
    (pick (ltb most_number (get_or f 1 0)) None
    (pick (ltb most_number (get_or f 4 0)) None
    (pick (ltb 255 (get_or f 8 0)) None
    (pick (ltb 255 (get_or f 9 0)) None
    (described_kind f numbers
    (record { session = get_or f 1 0; ttl = get_or f 4 0; flags = get_or f 8 0; count = get_or f 9 0 }))))))
