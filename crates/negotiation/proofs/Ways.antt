-- What a step leads to is allowed (`state_judged`), and what is allowed is led to (`allowed_moves`).
-- Assumes nothing.
use mathlib.Core.Path.{◌≡◌, refl, ap, ◌∙◌, subst}
use mathlib.Core.Bool.{true, false≢true}
use Prim.Native.Nat.{ℕ, ◌+◌, ◌≤◌}
use native.Mathlib.Omega.{arith}
use lib.Dec.{eqb}
use borrow.Author.Tests.{eq-eqb, ne_eqb, eqb-true, eqb-false}
use Rattle.std.specs.Prelude.{Some, None}
use Rattle.base.specs.Pick.{pick}
use Rattle.base.proofs.Picks.{pick-case}
use Rattle.options.specs.declared.objective.Objective.{Objective}
use Rattle.message.specs.declared.Message.{Message}
use Rattle.message.specs.declared.Message.TheVariants as M
use Rattle.message.specs.Fields.{Extra}
use Rattle.message.specs.Fields.{Session}
use Rattle.message.specs.Fields.{kind_of, session_of, objective_of}
use Rattle.negotiation.specs.declared.Side.{Side}
use Rattle.negotiation.specs.declared.Side.TheVariants.{Us, Them}
use Rattle.negotiation.specs.declared.State.{State}
use Rattle.negotiation.specs.declared.State.TheVariants.{Fresh, Open, Closed}
use Rattle.std.specs.Prelude.{Ok, Err}
use Rattle.refusal.specs.declared.Refusal.TheVariants as R
use Rattle.negotiation.specs.declared.Move.{Move}
use Rattle.negotiation.specs.declared.Move.TheVariants.{Request, Negotiate, Wait, End, Other}
use Rattle.negotiation.specs.Step.{Stepped, not_allowed, move_of, same_side, fresh_step, lower_step, turn_step, state_step}
use Rattle.negotiation.specs.Allowed.{KindAndSession, HasCount, Allowed}

-- an answer to a message that was read: not allowed, or a state that is allowed
abbrev pub Judged : Side → Message → State → Stepped → Type 0
Judged sender m state (Err refusal) = refusal ≡ R.NotAllowed
Judged sender m state (Ok next) = Allowed sender m state next

-- ---- what a step leads to is allowed
fresh_judged : (sender : Side) (m : Message) → Judged sender m Fresh (fresh_step (move_of m) sender)
unfolding move_of fresh_step session_of objective_of
fresh_judged sender M.Noop = refl
fresh_judged sender (M.Discovery session initiator objective) = refl
fresh_judged sender (M.Response session initiator ttl targets extra) = refl
fresh_judged sender (M.RequestNegotiation session objective) =
    pick-case (Judged sender (M.RequestNegotiation session objective) Fresh) (eqb objective.count 0) (λ _. refl)
    (λ e.
    let some = eqb-false objective.count 0 e in
    Allowed.request (record { of_kind = refl; of_session = refl }) (record { objective = objective; has = refl; is = refl }) (omega arith))
fresh_judged sender (M.RequestSynchronization session objective) = refl
fresh_judged sender (M.Negotiate session objective) = refl
fresh_judged sender (M.End session outcome) = refl
fresh_judged sender (M.Wait session time) = refl
fresh_judged sender (M.Synch session objective) = refl
fresh_judged sender (M.Flood session initiator ttl first pairs) = refl
fresh_judged sender (M.Invalid session item) = refl

-- a move of this session
in_session : (P : Stepped → Type 0) (session named : ℕ) {x : Stepped} → P not_allowed → (named ≡ session → P x) → P (pick (eqb named session) x not_allowed)
in_session P session named refused f = pick-case P (eqb named session) (λ e. f (eqb-true named session e)) (λ _. refused)

lower_judged : (turn : Side) (session count named : ℕ) (objective : Objective) → named ≡ session
    → Judged turn (M.Negotiate named objective) (Open session count turn) (lower_step session count turn objective.count)
unfolding lower_step session_of objective_of
lower_judged turn session count named objective same =
    pick-case J (eqb objective.count 0) (λ _. refl)
    (λ e.
    let least = eqb-false objective.count 0 e in
    pick-case J _
    (λ lower.
    Allowed.negotiate (record { of_kind = refl; of_session = ap Some same }) (record { objective = objective; has = refl; is = refl })
    (omega arith) (eqb-true _ _ lower))
    (λ _. refl))
  where
    J : Stepped → Type 0
    J = Judged turn (M.Negotiate named objective) (Open session count turn)

-- the side with the turn
module _ (turn : Side) (session count : ℕ) (some : 1 ≤ count) where
  turn_judged : (m : Message) → Judged turn m (Open session count turn) (turn_step session count turn (move_of m))
  unfolding move_of turn_step session_of objective_of
  turn_judged M.Noop = refl
  turn_judged (M.Discovery named initiator objective) = refl
  turn_judged (M.Response named initiator ttl targets extra) = refl
  turn_judged (M.RequestNegotiation named objective) = refl
  turn_judged (M.RequestSynchronization named objective) = refl
  turn_judged (M.Negotiate named objective) =
      in_session (Judged turn (M.Negotiate named objective) (Open session count turn)) session named refl
      (λ same. lower_judged turn session count named objective same)
  turn_judged (M.End named outcome) =
      in_session (Judged turn (M.End named outcome) (Open session count turn)) session named refl
      (λ same. Allowed.end (record { of_kind = refl; of_session = ap Some same }) some)
  turn_judged (M.Wait named time) =
      in_session (Judged turn (M.Wait named time) (Open session count turn)) session named refl
      (λ same. Allowed.wait (record { of_kind = refl; of_session = ap Some same }) some)
  turn_judged (M.Synch named objective) = refl
  turn_judged (M.Flood named initiator ttl first pairs) = refl
  turn_judged (M.Invalid named item) = refl

same_side_lem : (a b : Side) → same_side a b ≡ true → b ≡ a
same_side_lem Us Us e = refl
same_side_lem Us Them e = absurd (false≢true e)
same_side_lem Them Us e = absurd (false≢true e)
same_side_lem Them Them e = refl

pub state_judged : (sender : Side) (m : Message) (state : State) → Judged sender m state (state_step state (move_of m) sender)
unfolding state_step
state_judged sender m Fresh = fresh_judged sender m
state_judged sender m (Open session count turn) =
    pick-case J (eqb count 0) (λ _. refl)
    (λ e.
    let some = eqb-false count 0 e in
    pick-case J _
    (λ same.
    subst (λ (side : Side). Judged side m (Open session count turn) (turn_step session count turn (move_of m))) (same_side_lem sender turn same)
    (turn_judged turn session count (omega arith) m))
    (λ _. refl))
  where
    J : Stepped → Type 0
    J = Judged sender m (Open session count turn)
state_judged sender m Closed = refl

-- ---- what is allowed is led to
-- with a session and a count
counted : (ℕ → ℕ → Move) → Session → Extra → Move
counted f None extra = Other
counted f (Some session) None = Other
counted f (Some session) (Some objective) = f session objective.count

-- with a session
held : (ℕ → Move) → Session → Move
held f None = Other
held f (Some session) = f session

-- the move by what the message holds
move_by : ℕ → Session → Extra → Move
move_by kind session extra =
    pick (eqb kind 3) (counted Request session extra)
    (pick (eqb kind 5) (counted Negotiate session extra)
    (pick (eqb kind 6) (held End session)
    (pick (eqb kind 7) (held Wait session)
    Other)))

move_by_lem : (m : Message) → move_of m ≡ move_by (kind_of m) (session_of m) (objective_of m)
unfolding move_of move_by counted held session_of objective_of pick
move_by_lem M.Noop = refl
move_by_lem (M.Discovery session initiator objective) = refl
move_by_lem (M.Response session initiator ttl targets extra) = refl
move_by_lem (M.RequestNegotiation session objective) = refl
move_by_lem (M.RequestSynchronization session objective) = refl
move_by_lem (M.Negotiate session objective) = refl
move_by_lem (M.End session outcome) = refl
move_by_lem (M.Wait session time) = refl
move_by_lem (M.Synch session objective) = refl
move_by_lem (M.Flood session initiator ttl first pairs) = refl
move_by_lem (M.Invalid session item) = refl

module _ {m : Message} {session : ℕ} where
  request_move : {count : ℕ} → KindAndSession m 3 session → HasCount m count → move_of m ≡ Request session count
  unfolding move_by counted pick
  request_move n c = move_by_lem m ∙ rw (n.of_kind, n.of_session, c.has, c.is)

  negotiate_move : {count : ℕ} → KindAndSession m 5 session → HasCount m count → move_of m ≡ Negotiate session count
  unfolding move_by counted pick
  negotiate_move n c = move_by_lem m ∙ rw (n.of_kind, n.of_session, c.has, c.is)

  wait_move : KindAndSession m 7 session → move_of m ≡ Wait session
  unfolding move_by held pick
  wait_move n = move_by_lem m ∙ rw (n.of_kind, n.of_session)

  end_move : KindAndSession m 6 session → move_of m ≡ End session
  unfolding move_by held pick
  end_move n = move_by_lem m ∙ rw (n.of_kind, n.of_session)

side_same : (side : Side) → same_side side side ≡ true
side_same Us = refl
side_same Them = refl

-- the side with the turn moves
on_turn : (session count : ℕ) (turn : Side) (move : Move) → 1 ≤ count → state_step (Open session count turn) move turn ≡ turn_step session count turn move
unfolding state_step pick
on_turn session count turn move some = rw (ne_eqb count 0 (λ e. omega arith), side_same turn)

pub allowed_moves : {sender : Side} {m : Message} {state next : State} → Allowed sender m state next → state_step state (move_of m) sender ≡ Ok next
unfolding state_step fresh_step turn_step lower_step pick
allowed_moves (Allowed.request {session} {count} n c least) = rw (request_move n c, ne_eqb count 0 (λ e. omega arith))
allowed_moves {sender} {m} (Allowed.negotiate {session} {count} {lower} n c least one) =
    on_turn session count sender (move_of m) (omega arith)
    ∙ rw (negotiate_move n c, eq-eqb session session refl, ne_eqb lower 0 (λ e. omega arith), eq-eqb (lower + 1) count one)
allowed_moves {sender} {m} (Allowed.wait {session} {count} n some) =
    on_turn session count sender (move_of m) some ∙ rw (wait_move n, eq-eqb session session refl)
allowed_moves {sender} {m} (Allowed.end {session} {count} n some) = on_turn session count sender (move_of m) some ∙ rw (end_move n, eq-eqb session session refl)
