-- What `step` answers (rules 10; the messages of RFC 8990, sections 2.8.6 to 2.8.9): 1 to 11 by the message's reading,
-- then 20.
use Rattle.reader.specs.Read.{Reading}
use Rattle.std.specs.Prelude.{ℕ, ◌+◌, List, Bool, true, false, eqb, Result, Ok, Err}
use Rattle.base.specs.Pick.{pick, unless}
use Rattle.refusal.specs.declared.Refusal.{Refusal}
use Rattle.refusal.specs.declared.Refusal.TheVariants.{NotAllowed}
use Rattle.message.specs.declared.Message.{Message}
use Rattle.message.specs.declared.Message.TheVariants as M
use Rattle.reader.specs.Read.{read_of}
use Rattle.negotiation.specs.declared.Side.{Side}
use Rattle.negotiation.specs.declared.Side.TheVariants.{Us, Them}
use Rattle.negotiation.specs.declared.State.{State}
use Rattle.negotiation.specs.declared.State.TheVariants.{Fresh, Open, Closed}
use Rattle.negotiation.specs.declared.Move.{Move}
use Rattle.negotiation.specs.declared.Move.TheVariants.{Request, Negotiate, Wait, End, Other}

-- what the step looks at in a message: the session of kinds 3, 5, 6 and 7, and the count of 3 and 5
unfoldable pub move_of : Message → Move
move_of M.Noop = Other
move_of (M.Discovery session initiator objective) = Other
move_of (M.Response session initiator ttl targets extra) = Other
move_of (M.RequestNegotiation session objective) = Request session objective.count
move_of (M.RequestSynchronization session objective) = Other
move_of (M.Negotiate session objective) = Negotiate session objective.count
move_of (M.End session outcome) = End session
move_of (M.Wait session time) = Wait session
move_of (M.Synch session objective) = Other
move_of (M.Flood session initiator ttl first pairs) = Other
move_of (M.Invalid session item) = Other

-- the other side
abbrev pub other_side : Side → Side
other_side Us = Them
other_side Them = Us

-- whether two sides are one
abbrev pub same_side : Side → Side → Bool
same_side Us Us = true
same_side Us Them = false
same_side Them Us = false
same_side Them Them = true

-- what a step answers: the state that it leads to, or the refusal, which leaves the state as it is
abbrev pub Stepped : Type 0
Stepped = Result State Refusal

-- the message is read, and isn't allowed (20)
abbrev pub not_allowed : Stepped
not_allowed = Err NotAllowed

-- a fresh state: a Request with a count of at least 1 opens it, and the other side has the turn
unfoldable pub fresh_step : Move → Side → Stepped
fresh_step (Request session count) sender =
    pick (eqb count 0) not_allowed (Ok (Open session count (other_side sender)))
fresh_step (Negotiate session count) sender = not_allowed
fresh_step (Wait session) sender = not_allowed
fresh_step (End session) sender = not_allowed
fresh_step Other sender = not_allowed

-- a Negotiate with a count exactly one lower and at least 1: the turn passes
unfoldable pub lower_step : ℕ → ℕ → Side → ℕ → Stepped
lower_step session count turn lower =
    pick (eqb lower 0) not_allowed
    (unless (eqb (lower + 1) count) not_allowed (Ok (Open session lower (other_side turn))))

-- an open state, for the side with the turn: with that session, a Negotiate, Wait (nothing changes) or End (closed)
unfoldable pub turn_step : ℕ → ℕ → Side → Move → Stepped
turn_step session count turn (Request named lower) = not_allowed
turn_step session count turn (Negotiate named lower) =
    unless (eqb named session) not_allowed (lower_step session count turn lower)
turn_step session count turn (Wait named) = unless (eqb named session) not_allowed (Ok (Open session count turn))
turn_step session count turn (End named) = unless (eqb named session) not_allowed (Ok Closed)
turn_step session count turn Other = not_allowed

-- any state: an open one with a count of 0 is 20, and so is a closed one
unfoldable pub state_step : State → Move → Side → Stepped
state_step Fresh move sender = fresh_step move sender
state_step (Open session count turn) move sender =
    pick (eqb count 0) not_allowed (pick (same_side sender turn) (turn_step session count turn move) not_allowed)
state_step Closed move sender = not_allowed

-- a refused reading's refusal, else what the message that was read does to the state
unfoldable pub reading_step : State → Reading → Side → Stepped
reading_step state (Err refusal) sender = Err refusal
reading_step state (Ok m) sender = state_step state (move_of m) sender

-- the answer to a message's bytes from this sender
unfoldable pub step : State → List ℕ → Side → Stepped
step state message sender = reading_step state (read_of message) sender
