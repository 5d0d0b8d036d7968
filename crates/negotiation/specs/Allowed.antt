-- The ways in which a step is accepted (rules 10.3), said of what the message holds: its kind, its session, its
-- objective's count.
use Rattle.std.specs.Prelude.{Some}
use Rattle.std.specs.Prelude.{◌≡◌, ℕ, ◌+◌, ◌≤◌}
use Rattle.options.specs.declared.objective.Objective.{Objective}
use Rattle.message.specs.declared.Message.{Message}
use Rattle.message.specs.Fields.{kind_of, session_of, objective_of}
use Rattle.negotiation.specs.declared.Side.{Side}
use Rattle.negotiation.specs.declared.State.{State}
use Rattle.negotiation.specs.declared.State.TheVariants.{Fresh, Open, Closed}
use Rattle.negotiation.specs.Step.{other_side}

-- a message of this kind and session
pub record KindAndSession (m : Message) (kind session : ℕ) : Type 0 where
  pub of_kind : kind_of m ≡ kind
  pub of_session : session_of m ≡ Some session

-- a message with this count in its objective
pub record HasCount (m : Message) (count : ℕ) : Type 0 where
  pub objective : Objective
  pub has : objective_of m ≡ Some objective
  pub is : objective.count ≡ count

-- from which state to which state a message of this sender leads
pub data Allowed (sender : Side) (m : Message) : State → State → Type 0 where
  request : {session count : ℕ} → KindAndSession m 3 session → HasCount m count → 1 ≤ count
      → Allowed sender m Fresh (Open session count (other_side sender))
  negotiate : {session count lower : ℕ} → KindAndSession m 5 session → HasCount m lower → 1 ≤ lower → lower + 1 ≡ count
      → Allowed sender m (Open session count sender) (Open session lower (other_side sender))
  wait : {session count : ℕ} → KindAndSession m 7 session → 1 ≤ count
      → Allowed sender m (Open session count sender) (Open session count sender)
  end : {session count : ℕ} → KindAndSession m 6 session → 1 ≤ count
      → Allowed sender m (Open session count sender) Closed
