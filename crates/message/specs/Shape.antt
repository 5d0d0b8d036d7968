-- The shapes of the kinds but Response and Flood (RFC 8990, section 2.8 and its CDDL): a message s of n items in all,
-- the first after the kind at `at`. Its size is the place where its parts end. A departure has the message's own place,
-- 0, where the number of items is wrong.
use Rattle.std.specs.Prelude.{ℕ, ◌+◌, List, Ok, Err, None, ltb, eqb}
use Rattle.base.specs.Pick.{pick, unless}
use Rattle.cbor.specs.Token.{token_at, size_at, up_to}
use Rattle.options.specs.declared.Span.{Span}
use Rattle.options.specs.declared.objective.Objective.{Objective}
use Rattle.options.specs.Text.{span_of, content_of}
use Rattle.options.specs.Part.{Read, departs, part}
use Rattle.options.specs.Objective.{objective_at}
use Rattle.options.specs.declared.outcome.Outcome.{Outcome}
use Rattle.options.specs.Outcome.{outcome_at}
use Rattle.message.specs.declared.Message.{Message}
use Rattle.message.specs.declared.Message.TheVariants as M
use Rattle.message.specs.Opening.{most_number, objective_levels, is_initiator}

-- kind 0: nothing
unfoldable pub noop_at : ℕ → ℕ → Read Message
noop_at n at = unless (eqb n 1) (departs 0) (part M.Noop at None None)

-- a Discovery whose objective was read at `at`
unfoldable pub discovered : ℕ → Span → ℕ → Read Objective → Read Message
discovered session initiator at (Err e) = Err e
discovered session initiator at (Ok o) = part (M.Discovery session initiator o.value) (at + o.size) o.bad o.long

-- kind 1: session, initiator, objective
unfoldable pub discovery_at : List ℕ → ℕ → ℕ → Read Message
discovery_at s n at =
    let i = token_at s at in
    let j = token_at s i.next in
    unless (eqb n 4) (departs 0)
    (pick (ltb most_number (up_to most_number i)) (departs i.at)
    (unless (is_initiator j) (departs j.at)
    (discovered (up_to most_number i) (content_of j) j.next (objective_at objective_levels s j.next))))

-- the message of the kind 3, 4, 5 or 8
unfoldable pub exchange_of : ℕ → ℕ → Objective → Message
exchange_of kind session o =
    pick (eqb kind 3) (M.RequestNegotiation session o)
    (pick (eqb kind 4) (M.RequestSynchronization session o)
    (pick (eqb kind 5) (M.Negotiate session o)
    (M.Synch session o)))

-- such a message whose objective was read at `at`
unfoldable pub exchanged : ℕ → ℕ → ℕ → Read Objective → Read Message
exchanged kind session at (Err e) = Err e
exchanged kind session at (Ok o) = part (exchange_of kind session o.value) (at + o.size) o.bad o.long

-- kinds 3, 4, 5 and 8: session, objective
unfoldable pub exchange_at : List ℕ → ℕ → ℕ → ℕ → Read Message
exchange_at s kind n at =
    let i = token_at s at in
    unless (eqb n 3) (departs 0)
    (pick (ltb most_number (up_to most_number i)) (departs i.at)
    (exchanged kind (up_to most_number i) i.next (objective_at objective_levels s i.next)))

-- kind 7: session, waiting time
unfoldable pub wait_at : List ℕ → ℕ → ℕ → Read Message
wait_at s n at =
    let i = token_at s at in
    let t = token_at s i.next in
    unless (eqb n 3) (departs 0)
    (pick (ltb most_number (up_to most_number i)) (departs i.at)
    (pick (ltb most_number (up_to most_number t)) (departs t.at)
    (part (M.Wait (up_to most_number i) (up_to most_number t)) t.next None None)))

-- how many levels are open around Invalid's item: the message's own
abbrev pub item_levels : ℕ
item_levels = 1

-- kind 99: session, an optional item of any sort
unfoldable pub invalid_at : List ℕ → ℕ → ℕ → Read Message
invalid_at s n at =
    let i = token_at s at in
    let len = size_at item_levels s i.next in
    pick (ltb n 2) (departs 0)
    (pick (ltb 3 n) (departs 0)
    (pick (ltb most_number (up_to most_number i)) (departs i.at)
    (pick (eqb n 2) (part (M.Invalid (up_to most_number i) (span_of i.next 0)) i.next None None)
    (pick (eqb len 0) (departs i.next)
    (part (M.Invalid (up_to most_number i) (span_of i.next len)) (i.next + len) None None)))))

-- an End whose accept or decline was read at `at`
unfoldable pub ended : ℕ → ℕ → Read Outcome → Read Message
ended session at (Err e) = Err e
ended session at (Ok o) = part (M.End session o.value) (at + o.size) o.bad None

-- kind 6: session, accept or decline
unfoldable pub end_at : List ℕ → ℕ → ℕ → Read Message
end_at s n at =
    let i = token_at s at in
    unless (eqb n 3) (departs 0)
    (pick (ltb most_number (up_to most_number i)) (departs i.at)
    (ended (up_to most_number i) i.next (outcome_at s i.next)))
