-- Which message a description over a source and a list of rows speaks of. Total: what lies outside the source is left
-- out; the judge (`specs/Judge.antt`) refuses such descriptions.
use Rattle.std.specs.Prelude.{ℕ, zero, suc, ◌+◌, ◌*◌, ◌/◌, Bool, true, false, List, [], ◌∷◌, ◌++◌, length, get_or, eqb}
use Rattle.std.proofs.Math.Option.{Option, none, some}
use Rattle.base.specs.Pick.{pick}
use Rattle.options.specs.Text.{held}
use Rattle.options.specs.Locator.{null_protocol, null_port}
use Rattle.rfc8990.specs.Message as Syntax
use Rattle.rfc8990.specs.Message.{Loc, or_null, Obj, Pair, Tgts, Msg}
use Rattle.description.specs.declared.GivenObjective.{GivenObjective}
use Rattle.description.specs.declared.rows.ObjectiveRow.{ObjectiveRow}
use Rattle.description.specs.declared.rows.LocatorRow.{LocatorRow}
use Rattle.std.specs.declared.option.Option as S
use Rattle.std.specs.declared.option.Option.TheVariants.{Some, None}
use Rattle.options.specs.declared.outcome.Outcome.{Outcome}
use Rattle.options.specs.declared.outcome.Outcome.TheVariants as E
use Rattle.description.specs.declared.Description.{Description}
use Rattle.description.specs.declared.Description.TheVariants as D

-- how many numbers a locator's row has
abbrev pub locator_row : ℕ
locator_row = 5

-- a pair's row: its objective's numbers, then its locator's
abbrev pub pair_row : ℕ
pair_row = 12

-- an objective's numbers
abbrev pub objective_row : ℕ
objective_row = 7

-- the first n of f 0, f 1, ..
unfoldable pub list_of : {A : Type 0} → (ℕ → A) → ℕ → List A
list_of f zero = []
list_of f (suc n) = list_of f n ++ (f n ∷ [])

-- an objective in the numbers of a row
unfoldable pub objective_row_of : GivenObjective → ObjectiveRow
objective_row_of o = record { name = o.name; flags = o.flags; count = o.count; value = o.value }

-- the objective that it speaks of
unfoldable pub obj_of : List ℕ → ObjectiveRow → Obj (List ℕ)
obj_of source o =
    record { name = held source o.name; flags = o.flags; count = o.count; value = held source o.value }

-- the locator that a row speaks of; protocol 0 and port 65,536 stand for null in a URI
unfoldable pub locator_row_loc : List ℕ → LocatorRow → Loc
locator_row_loc source p =
    pick (eqb p.kind 103) (Loc.v6 (held source p.content) p.protocol p.port)
    (pick (eqb p.kind 104) (Loc.v4 (held source p.content) p.protocol p.port)
    (pick (eqb p.kind 105) (Loc.domain (held source p.content) p.protocol p.port)
    (Loc.uri (held source p.content) (or_null null_protocol p.protocol) (or_null null_port p.port))))

-- a locator in five numbers, from place k on: kind, place and length of its address or text, protocol, port
unfoldable pub locator_row_at : List ℕ → ℕ → LocatorRow
locator_row_at list k =
    record {
      kind = get_or list k 0;
      content = record { at = get_or list (k + 1) 0; len = get_or list (k + 2) 0 };
      protocol = get_or list (k + 3) 0;
      port = get_or list (k + 4) 0;
    }

-- the locator of row i
unfoldable pub row_loc : List ℕ → List ℕ → ℕ → Loc
row_loc source list i = locator_row_loc source (locator_row_at list (locator_row * i))

-- those of all rows
unfoldable pub locs_of : List ℕ → List ℕ → List Loc
locs_of source list = list_of (row_loc source list) (length list / locator_row)

-- a Response's locators, or its divert's
unfoldable pub targets_of : List ℕ → List ℕ → Bool → Tgts
targets_of source list true = Tgts.divert (locs_of source list)
targets_of source list false = Tgts.locators (locs_of source list)

-- a Response's objective, which may be left out
unfoldable pub extra_of : List ℕ → S.Option GivenObjective → Option (Obj (List ℕ))
extra_of source None = none
extra_of source (Some o) = some (obj_of source (objective_row_of o))

-- an objective in seven numbers, from place k on: place and length of its name, flags, count, 0, place and length of
-- its value
unfoldable pub objective_row_at : List ℕ → ℕ → ObjectiveRow
objective_row_at list k =
    record {
      name = record { at = get_or list k 0; len = get_or list (k + 1) 0 };
      flags = get_or list (k + 2) 0;
      count = get_or list (k + 3) 0;
      value = record { at = get_or list (k + 5) 0; len = get_or list (k + 6) 0 };
    }

-- no locator where its kind is 0
unfoldable pub loc_or_none : List ℕ → LocatorRow → Option Loc
loc_or_none source p = pick (eqb p.kind 0) none (some (locator_row_loc source p))

-- the pair of row i
unfoldable pub row_pair : List ℕ → List ℕ → ℕ → Pair (List ℕ)
row_pair source list i = (
  obj_of source (objective_row_at list (pair_row * i)),
  loc_or_none source (locator_row_at list (pair_row * i + objective_row)),
)

-- those of all rows
unfoldable pub pairs_of : List ℕ → List ℕ → List (Pair (List ℕ))
pairs_of source list = list_of (row_pair source list) (length list / pair_row)

-- how a negotiation ends
unfoldable pub end_of : List ℕ → Outcome → Syntax.Outc
end_of source E.Accept = Syntax.Outc.accept
end_of source E.Decline = Syntax.Outc.decline
end_of source (E.Reason t) = Syntax.Outc.reason (held source t)

-- the message that a description speaks of
unfoldable pub msg_of : List ℕ → List ℕ → Description → Msg (List ℕ)
msg_of source list D.Noop = Msg.noop
msg_of source list (D.Discovery s i o) = Msg.discovery s (held source i) (obj_of source (objective_row_of o))
msg_of source list (D.Response s i t d o) = Msg.response s (held source i) t (targets_of source list d)
    (extra_of source o)
msg_of source list (D.RequestNegotiation s o) = Msg.request_negotiation s (obj_of source (objective_row_of o))
msg_of source list (D.RequestSynchronization s o) = Msg.request_synchronization s (obj_of source (objective_row_of o))
msg_of source list (D.Negotiate s o) = Msg.negotiate s (obj_of source (objective_row_of o))
msg_of source list (D.End s e) = Msg.end s (end_of source e)
msg_of source list (D.Wait s t) = Msg.wait s t
msg_of source list (D.Synch s o) = Msg.synch s (obj_of source (objective_row_of o))
msg_of source list (D.Flood s i t) = Msg.flood s (held source i) t (pairs_of source list)
msg_of source list (D.Invalid s v) = Msg.invalid s (held source v)
