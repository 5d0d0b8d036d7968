-- The description of a message that was read: the same numbers, and spans of its bytes.
use Rattle.std.specs.Prelude.{Bool, true, false, Option, Some, None}
use Rattle.options.specs.declared.objective.Objective.{Objective}
use Rattle.message.specs.declared.Targets.{Targets}
use Rattle.message.specs.declared.Message.{Message}
use Rattle.message.specs.declared.Message.TheVariants as M
use Rattle.description.specs.declared.GivenObjective.{GivenObjective}
use Rattle.description.specs.declared.Description.{Description}
use Rattle.description.specs.declared.Description.TheVariants as D

-- an objective, without the place of its count's head
unfoldable pub given_of : Objective → GivenObjective
given_of o = record { name = o.name; flags = o.flags; count = o.count; value = o.value }

-- a Response's objective, which may be left out
unfoldable pub given_extra : Option Objective → Option GivenObjective
given_extra None = None
given_extra (Some o) = Some (given_of o)

-- locators, or a divert of them
unfoldable pub is_divert : Targets → Bool
is_divert (Targets.Locators first series) = false
is_divert (Targets.Divert first series) = true

-- the description, kind by kind; locators and pairs stand in rows of their own (`Rows`)
unfoldable pub description_of : Message → Description
description_of M.Noop = D.Noop
description_of (M.Discovery session initiator o) = D.Discovery session initiator (given_of o)
description_of (M.Response session initiator ttl targets extra) =
    D.Response session initiator ttl (is_divert targets) (given_extra extra)
description_of (M.RequestNegotiation session o) = D.RequestNegotiation session (given_of o)
description_of (M.RequestSynchronization session o) = D.RequestSynchronization session (given_of o)
description_of (M.Negotiate session o) = D.Negotiate session (given_of o)
description_of (M.End session outcome) = D.End session outcome
description_of (M.Wait session time) = D.Wait session time
description_of (M.Synch session o) = D.Synch session (given_of o)
description_of (M.Flood session initiator ttl first pairs) = D.Flood session initiator ttl
description_of (M.Invalid session item) = D.Invalid session item
