-- What a message that was read holds: its kind's number (rules 1.2), its session, initiator and (first) objective.
use Rattle.std.specs.Prelude.{ℕ, Option, Some, None}
use Rattle.options.specs.declared.Span.{Span}
use Rattle.options.specs.Text.{span_of}
use Rattle.message.specs.declared.Message.{Message}
use Rattle.message.specs.declared.Message.TheVariants as M
use Rattle.options.specs.declared.objective.Objective.{Objective}

-- an objective that may be left out
abbrev pub Extra : Type 0
Extra = Option Objective

-- a session, or none
abbrev pub Session : Type 0
Session = Option ℕ

-- the number of a message's kind
abbrev pub kind_of : Message → ℕ
kind_of M.Noop = 0
kind_of (M.Discovery session initiator objective) = 1
kind_of (M.Response session initiator ttl targets extra) = 2
kind_of (M.RequestNegotiation session objective) = 3
kind_of (M.RequestSynchronization session objective) = 4
kind_of (M.Negotiate session objective) = 5
kind_of (M.End session outcome) = 6
kind_of (M.Wait session time) = 7
kind_of (M.Synch session objective) = 8
kind_of (M.Flood session initiator ttl first pairs) = 9
kind_of (M.Invalid session item) = 99

-- its session, which a Noop has not
unfoldable pub session_of : Message → Session
session_of M.Noop = None
session_of (M.Discovery session initiator objective) = Some session
session_of (M.Response session initiator ttl targets extra) = Some session
session_of (M.RequestNegotiation session objective) = Some session
session_of (M.RequestSynchronization session objective) = Some session
session_of (M.Negotiate session objective) = Some session
session_of (M.End session outcome) = Some session
session_of (M.Wait session time) = Some session
session_of (M.Synch session objective) = Some session
session_of (M.Flood session initiator ttl first pairs) = Some session
session_of (M.Invalid session item) = Some session

-- no bytes where the kind has no initiator
unfoldable pub initiator_of : Message → Span
initiator_of M.Noop = span_of 0 0
initiator_of (M.Discovery session initiator objective) = initiator
initiator_of (M.Response session initiator ttl targets extra) = initiator
initiator_of (M.RequestNegotiation session objective) = span_of 0 0
initiator_of (M.RequestSynchronization session objective) = span_of 0 0
initiator_of (M.Negotiate session objective) = span_of 0 0
initiator_of (M.End session outcome) = span_of 0 0
initiator_of (M.Wait session time) = span_of 0 0
initiator_of (M.Synch session objective) = span_of 0 0
initiator_of (M.Flood session initiator ttl first pairs) = initiator
initiator_of (M.Invalid session item) = span_of 0 0

-- its objective, of a Flood's the first; a Response may have one
unfoldable pub objective_of : Message → Extra
objective_of M.Noop = None
objective_of (M.Discovery session initiator objective) = Some objective
objective_of (M.Response session initiator ttl targets extra) = extra
objective_of (M.RequestNegotiation session objective) = Some objective
objective_of (M.RequestSynchronization session objective) = Some objective
objective_of (M.Negotiate session objective) = Some objective
objective_of (M.End session outcome) = None
objective_of (M.Wait session time) = None
objective_of (M.Synch session objective) = Some objective
objective_of (M.Flood session initiator ttl first pairs) = Some first.objective
objective_of (M.Invalid session item) = None

-- an objective's count, 0 where there is none
unfoldable pub count_in : Extra → ℕ
count_in None = 0
count_in (Some o) = o.count
