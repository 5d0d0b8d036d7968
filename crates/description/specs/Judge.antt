-- Which descriptions speak of a message: every span lies in the source, rows are whole and of known kinds, each value
-- is one item by itself, and a list is given only where the kind has one. All else is for the reader to judge.
use Rattle.cbor.specs.Item.{ItemRead}
use Rattle.std.specs.Prelude.{ℕ, zero, suc, ◌+◌, ◌*◌, ◌/◌, ◌%◌, Bool, true, false, List, length, get_or, ltb, eqb}
use Rattle.options.specs.Text.{held}
use Rattle.base.specs.Pick.{pick}
use Rattle.cbor.specs.Item.{first_item, framed_by}
use Rattle.options.specs.declared.Span.{Span}
use Rattle.description.specs.declared.rows.ObjectiveRow.{ObjectiveRow}
use Rattle.description.specs.declared.rows.LocatorRow.{LocatorRow}
use Rattle.std.specs.Prelude.{Option, Some, None}
use Rattle.description.specs.declared.GivenObjective.{GivenObjective}
use Rattle.options.specs.declared.outcome.Outcome.{Outcome}
use Rattle.options.specs.declared.outcome.Outcome.TheVariants as E
use Rattle.description.specs.declared.Description.{Description}
use Rattle.description.specs.declared.Description.TheVariants as D
use Rattle.description.specs.Meaning.{locator_row, pair_row, objective_row}
use Rattle.description.specs.Meaning.{objective_row_of, locator_row_at, objective_row_at}

-- what was read of n bytes is one item and nothing else
unfoldable pub alone : ℕ → ItemRead → Bool
alone n r = framed_by (λ refusal place. false) true n r

-- the bytes are one item and nothing else
unfoldable pub whole : List ℕ → Bool
whole bs = alone (length bs) (first_item 0 bs)

-- the source has all bytes of the span
unfoldable pub inside : List ℕ → Span → Bool
inside source s = eqb (length (held source s)) s.len

-- no bytes, or one item
unfoldable pub ok_value : List ℕ → Bool
ok_value bs = pick (eqb (length bs) 0) true (whole bs)

-- an objective's value, or Invalid's item
unfoldable pub ok_item : List ℕ → Span → Bool
ok_item source v = pick (inside source v) (ok_value (held source v)) false

-- an objective's name and value
unfoldable pub ok_objective_row : List ℕ → ObjectiveRow → Bool
ok_objective_row source o = pick (inside source o.name) (ok_item source o.value) false

-- one of the four locators, and its address or text
unfoldable pub ok_locator_row : List ℕ → LocatorRow → Bool
ok_locator_row source p = pick (ltb p.kind 103) false (pick (ltb 106 p.kind) false (inside source p.content))

-- the four numbers after a kind of 0 are 0 too
unfoldable pub blank_locator_row : LocatorRow → Bool
blank_locator_row p =
    pick (eqb p.content.at 0)
    (pick (eqb p.content.len 0) (pick (eqb p.protocol 0) (eqb p.port 0) false) false) false

-- five zeros for no locator, or a locator
unfoldable pub ok_none_or : List ℕ → LocatorRow → Bool
ok_none_or source p = pick (eqb p.kind 0) (blank_locator_row p) (ok_locator_row source p)

-- n numbers from i on, each of which passes
unfoldable pub all_from : (ℕ → Bool) → ℕ → ℕ → Bool
all_from p zero i = true
all_from p (suc n) i = pick (p i) (all_from p n (suc i)) false

-- whole rows of so many numbers, each of which passes
unfoldable pub ok_each : ℕ → (ℕ → Bool) → List ℕ → Bool
ok_each size ok list = pick (eqb (length list % size) 0) (all_from ok (length list / size) 0) false

-- row i of a list of locators
unfoldable pub ok_row : List ℕ → List ℕ → ℕ → Bool
ok_row source list i = ok_locator_row source (locator_row_at list (locator_row * i))

-- a list of locators
unfoldable pub ok_rows : List ℕ → List ℕ → Bool
ok_rows source list = ok_each locator_row (ok_row source list) list

-- row i of a list of pairs; the place of the count's head, which only a reader gives, is 0
unfoldable pub ok_pair : List ℕ → List ℕ → ℕ → Bool
ok_pair source list i =
    pick (eqb (get_or list (pair_row * i + 4) 0) 0)
    (pick (ok_objective_row source (objective_row_at list (pair_row * i)))
    (ok_none_or source (locator_row_at list (pair_row * i + objective_row))) false)
    false

-- a list of pairs
unfoldable pub ok_pairs : List ℕ → List ℕ → Bool
ok_pairs source list = ok_each pair_row (ok_pair source list) list

-- an objective that may be left out
unfoldable pub ok_extra : List ℕ → Option GivenObjective → Bool
ok_extra source None = true
ok_extra source (Some o) = ok_objective_row source (objective_row_of o)

-- how a negotiation ends
unfoldable pub ok_outcome : List ℕ → Outcome → Bool
ok_outcome source E.Accept = true
ok_outcome source E.Decline = true
ok_outcome source (E.Reason t) = inside source t

-- a Discovery's initiator and objective
unfoldable pub ok_discovery : List ℕ → Span → ObjectiveRow → Bool
ok_discovery source i o = pick (inside source i) (ok_objective_row source o) false

-- a Response's initiator, rows and objective, which may be left out
unfoldable pub ok_response : List ℕ → List ℕ → Span → Option GivenObjective → Bool
ok_response source list i o = pick (inside source i) (pick (ok_rows source list) (ok_extra source o) false) false

-- a Flood's initiator and rows
unfoldable pub ok_flood : List ℕ → List ℕ → Span → Bool
ok_flood source list i = pick (inside source i) (ok_pairs source list) false

-- what the description holds
unfoldable pub ok_parts : List ℕ → List ℕ → Description → Bool
ok_parts source list D.Noop = true
ok_parts source list (D.Discovery s i o) = ok_discovery source i (objective_row_of o)
ok_parts source list (D.Response s i t d o) = ok_response source list i o
ok_parts source list (D.RequestNegotiation s o) = ok_objective_row source (objective_row_of o)
ok_parts source list (D.RequestSynchronization s o) = ok_objective_row source (objective_row_of o)
ok_parts source list (D.Negotiate s o) = ok_objective_row source (objective_row_of o)
ok_parts source list (D.End s e) = ok_outcome source e
ok_parts source list (D.Wait s t) = true
ok_parts source list (D.Synch s o) = ok_objective_row source (objective_row_of o)
ok_parts source list (D.Flood s i t) = ok_flood source list i
ok_parts source list (D.Invalid s v) = ok_item source v

-- whether the kind has a list
abbrev pub has_list : Description → Bool
has_list D.Noop = false
has_list (D.Discovery s i o) = false
has_list (D.Response s i t d o) = true
has_list (D.RequestNegotiation s o) = false
has_list (D.RequestSynchronization s o) = false
has_list (D.Negotiate s o) = false
has_list (D.End s e) = false
has_list (D.Wait s t) = false
has_list (D.Synch s o) = false
has_list (D.Flood s i t) = true
has_list (D.Invalid s v) = false

-- no list where the kind has none
unfoldable pub ok_list : List ℕ → Description → Bool
ok_list list m = pick (has_list m) true (eqb (length list) 0)

-- the description by itself
unfoldable pub ok_described : List ℕ → List ℕ → Description → Bool
ok_described source list m = pick (ok_list list m) (ok_parts source list m) false
