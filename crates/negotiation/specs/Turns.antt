-- A list of steps on one negotiation state (rules 13.9), and the last sentence of demand 3 about it (rules 13.3.5).
use Rattle.reader.specs.Read.{Reading}
use Rattle.std.specs.Prelude.{◌≡◌, List, [], ◌∷◌, Bool, true, false, ℕ, suc, ◌+◌, ◌≤◌, eqb, Ok, Err}
use Rattle.base.specs.Pick.{pick}
use Rattle.base.specs.Lists.{Every, EachPair}
use Rattle.message.specs.declared.Message.{Message}
use Rattle.reader.specs.Read.{read_of}
use Rattle.message.specs.Fields.{kind_of}
use Rattle.negotiation.specs.declared.Side.{Side}
use Rattle.negotiation.specs.declared.State.{State}
use Rattle.negotiation.specs.declared.State.TheVariants.{Fresh}
use Rattle.negotiation.specs.Step.{Stepped, step}
use Rattle.negotiation.specs.Allowed.{HasCount}

-- the bytes of a message and the side that sent it
pub record Sent : Type 0 where
  pub sender : Side
  pub bytes : List ℕ

-- a step of a list: the bytes that it was given, and what it answered
pub record StepTaken : Type 0 where
  pub bytes : List ℕ
  pub answer : Stepped

-- the state after a step: the one that it returned, or as it was
unfoldable pub after : State → Stepped → State
after state (Err refusal) = state
after state (Ok next) = next

-- the steps of a list, each given the state that the step before it returned or left
unfoldable pub steps_of : State → List Sent → List StepTaken
steps_of state [] = []
steps_of state (m ∷ ms) =
    let answer = step state m.bytes m.sender in
    record { bytes = m.bytes; answer = answer } ∷ steps_of (after state answer) ms

-- whether a step is accepted
unfoldable pub is_moved : Stepped → Bool
is_moved (Err refusal) = false
is_moved (Ok next) = true

-- the messages that are accepted, in their order
unfoldable pub accepted_of : List StepTaken → List (List ℕ)
accepted_of [] = []
accepted_of (x ∷ xs) = pick (is_moved x.answer) (x.bytes ∷ accepted_of xs) (accepted_of xs)

-- whether a message was read, and of this kind
unfoldable pub is_kind : ℕ → Reading → Bool
is_kind kind (Err refusal) = false
is_kind kind (Ok m) = eqb (kind_of m) kind

-- how many of these messages are Negotiates (kind 5)
unfoldable pub negotiated : List (List ℕ) → ℕ
negotiated [] = 0
negotiated (bytes ∷ rest) = pick (is_kind 5 (read_of bytes)) (suc (negotiated rest)) (negotiated rest)

-- an accepted message opened the state at a count: it is a Request (kind 3) with that count
pub record Opens (bytes : List ℕ) (count : ℕ) : Type 0 where
  pub m : Message
  pub read : read_of bytes ≡ Ok m
  pub request : kind_of m ≡ 3
  pub counts : HasCount m count

-- of the messages that one state accepts: at most one opened it; where one did at count c, at most c - 1 are
-- Negotiates; where none did, none is
pub record BoundedIn (accepted : List (List ℕ)) : Type 0 where
  pub once : EachPair (λ x y. (c d : ℕ) → Opens x c → Opens y d → ⊥) accepted
  pub opened : Every (λ bytes. (c : ℕ) → Opens bytes c → negotiated accepted + 1 ≤ c) accepted
  pub unopened : Every (λ bytes. (c : ℕ) → Opens bytes c → ⊥) accepted → negotiated accepted ≡ 0

-- Demand 3 for one negotiation state, fresh at first: its last sentence.
abbrev pub Bounded : List Sent → Type 0
Bounded messages = BoundedIn (accepted_of (steps_of Fresh messages))
