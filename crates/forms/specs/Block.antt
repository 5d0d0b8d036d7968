-- What was read, as numbers in fixed places (`include/grasp.h` names them).
use Rattle.std.specs.Prelude.{Some, None}
use Rattle.std.specs.Prelude.{ℕ, ◌-◌, List, [], ◌∷◌, replicate}
use Rattle.std.proofs.lemmas.List.Edits.{sets}
use Rattle.options.specs.declared.Span.{Span}
use Rattle.options.specs.declared.objective.Objective.{Objective}
use Rattle.options.specs.Text.{span_of}
use Rattle.options.specs.Pair.{objective_numbers}
use Rattle.message.specs.declared.Series.{Series}
use Rattle.message.specs.declared.Targets.{Targets}
use Rattle.message.specs.Fields.{Extra}
use Rattle.options.specs.declared.outcome.Outcome.{Outcome}
use Rattle.message.specs.declared.Message.{Message}
use Rattle.message.specs.declared.Message.TheVariants as M

-- how many places a block has
abbrev pub most_places : ℕ
most_places = 19

-- places 0 to 4: kind, session, initiator, ttl or waiting time
unfoldable pub front_block : ℕ → ℕ → Span → ℕ → List ℕ
front_block kind session initiator ttl =
    kind ∷ session ∷ initiator.at ∷ initiator.len ∷ ttl ∷ replicate (most_places - 5) 0

-- places 5 to 12: an objective
unfoldable pub with_objective : List ℕ → Objective → List ℕ
with_objective b o = sets b 5 (1 ∷ objective_numbers o)

-- a Discovery
unfoldable pub discovery_block : ℕ → Span → Objective → List ℕ
discovery_block session initiator o = with_objective (front_block 1 session initiator 0) o

-- a session and an objective alone
unfoldable pub exchange_block : ℕ → ℕ → Objective → List ℕ
exchange_block kind session o = with_objective (front_block kind session (span_of 0 0) 0) o

-- an objective that may be left out
unfoldable pub with_extra : List ℕ → Extra → List ℕ
with_extra b None = b
with_extra b (Some o) = with_objective b o

-- places 13 to 15: locators (1), a divert (2), pairs (3)
unfoldable pub with_series : List ℕ → ℕ → Series → List ℕ
with_series b sort series = sets b 13 (sort ∷ series.at ∷ series.many ∷ [])

-- a Response's locators or its divert
unfoldable pub targets_block : List ℕ → Targets → List ℕ
targets_block b (Targets.Locators first series) = with_series b 1 series
targets_block b (Targets.Divert first series) = with_series b 2 series

-- a Response
unfoldable pub response_block : ℕ → Span → ℕ → Targets → Extra → List ℕ
response_block session initiator ttl targets extra =
    targets_block (with_extra (front_block 2 session initiator ttl) extra) targets

-- places 16 to 18: accept (1), decline (2), decline with a reason (3); the reason, or Invalid's item
unfoldable pub with_span : List ℕ → ℕ → Span → List ℕ
with_span b sort span = sets b 16 (sort ∷ span.at ∷ span.len ∷ [])

-- an End's outcome
unfoldable pub outcome_block : List ℕ → Outcome → List ℕ
outcome_block b Outcome.Accept = with_span b 1 (span_of 0 0)
outcome_block b Outcome.Decline = with_span b 2 (span_of 0 0)
outcome_block b (Outcome.Reason reason) = with_span b 3 reason

-- an End
unfoldable pub end_block : ℕ → Outcome → List ℕ
end_block session outcome = outcome_block (front_block 6 session (span_of 0 0) 0) outcome

-- an Invalid
unfoldable pub invalid_block : ℕ → Span → List ℕ
invalid_block session item = with_span (front_block 99 session (span_of 0 0) 0) 0 item

-- each of the eleven
unfoldable pub block_of : Message → List ℕ
block_of M.Noop = front_block 0 0 (span_of 0 0) 0
block_of (M.Discovery session initiator o) = discovery_block session initiator o
block_of (M.Response session initiator ttl targets extra) = response_block session initiator ttl targets extra
block_of (M.RequestNegotiation session o) = exchange_block 3 session o
block_of (M.RequestSynchronization session o) = exchange_block 4 session o
block_of (M.Negotiate session o) = exchange_block 5 session o
block_of (M.End session outcome) = end_block session outcome
block_of (M.Wait session time) = front_block 7 session (span_of 0 0) time
block_of (M.Synch session o) = exchange_block 8 session o
block_of (M.Flood session initiator ttl first pairs) =
    with_series (with_objective (front_block 9 session initiator ttl) first.objective) 3 pairs
block_of (M.Invalid session item) = invalid_block session item
