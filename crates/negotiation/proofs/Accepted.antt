-- When a step is accepted, and when it is refused. For readers: each statement stands alone.
-- Assumes nothing.
use Rattle.reader.specs.Read.{Reading}
use mathlib.Core.Path.{◌≡◌, refl, sym, ap, ◌∙◌, subst}
use mathlib.Core.Logic.{◌↔◌}
use mathlib.Core.List.{List, [], ◌∷◌}
use Prim.Native.Nat.{ℕ, ◌≤◌}
use native.Mathlib.Omega.{arith}
use Rattle.std.specs.Prelude.{Some}
use Rattle.refusal.specs.Refusal.{number_of, RefusedAs}
use Rattle.refusal.proofs.Refusals.{same_number}
use Rattle.base.specs.Lists.{Every}
use Rattle.base.proofs.Picks.{both}
use Rattle.message.specs.declared.Message.{Message}
use Rattle.reader.specs.Read.{read_of}
use Rattle.message.specs.Opening.{most_number}
use Rattle.message.proofs.Parts.{SmallCount}
use Rattle.reader.proofs.ReadParts.{read_number}
use Rattle.message.specs.Fields.{session_of}
use Rattle.negotiation.specs.declared.Side.{Side}
use Rattle.negotiation.specs.declared.State.{State}
use Rattle.negotiation.specs.declared.State.TheVariants.{Closed}
use Rattle.std.specs.Prelude.{Ok, Err}
use Rattle.refusal.specs.declared.Refusal.{Refusal}
use Rattle.refusal.specs.declared.Refusal.TheVariants as R
use Rattle.negotiation.specs.Step.{Stepped, not_allowed, move_of, state_step, reading_step, step}
use Rattle.negotiation.specs.Allowed.{HasCount, Allowed}
use Rattle.negotiation.specs.Turns.{Sent, after, steps_of}
use Rattle.negotiation.proofs.Ways.{Judged, state_judged, allowed_moves}
use Rattle.negotiation.proofs.Readings.{SmallSession, reading_small}

-- an answer is a refusal or a state
refused_or_moved : {refusal : Refusal} {next : State} {x : Stepped} → x ≡ Err refusal → x ≡ Ok next → ⊥
refused_or_moved e f = cc

-- a step's refusal
refusal_in : Stepped → Refusal
refusal_in (Err refusal) = refusal
refusal_in (Ok next) = R.NotAllowed

-- no reading is refused as not allowed
reading_known : (s : List ℕ) {refusal : Refusal} → read_of s ≡ Err refusal → refusal ≡ R.NotAllowed → ⊥
reading_known s {refusal} e f =
    let few : number_of refusal ≤ 11 = read_number s e in
    let many : number_of refusal ≡ 20 = ap number_of f in
    omega arith

module _ (state : State) (message : List ℕ) (sender : Side) where
  -- the step on a message that was read
  read_step : {m : Message} → read_of message ≡ Ok m → step state message sender ≡ state_step state (move_of m) sender
  unfolding step reading_step
  read_step e = ap (λ (r : Reading). reading_step state r sender) e

  -- the step on one that was refused
  unread_step : {refusal : Refusal} → read_of message ≡ Err refusal → step state message sender ≡ Err refusal
  unfolding step reading_step
  unread_step e = ap (λ (r : Reading). reading_step state r sender) e

  -- an answer's reasons
  judged : {m : Message} {x : Stepped} → read_of message ≡ Ok m → step state message sender ≡ x → Judged sender m state x
  judged {m} e q = subst (Judged sender m state) (sym (read_step e) ∙ q) (state_judged sender m state)

-- for readers

-- A step is accepted exactly if its message is read and allowed.
pub moved_exactly : (state : State) (message : List ℕ) (sender : Side) (next : State)
    → step state message sender ≡ Ok next ↔ ((m : Message) × (read_of message ≡ Ok m) × Allowed sender m state next)
moved_exactly state message sender next = (by (read_of message) refl, λ h. read_step state message sender h.1 ∙ allowed_moves h.2)
  where
    by : (r : Reading) → read_of message ≡ r → step state message sender ≡ Ok next
        → (m : Message) × (read_of message ≡ Ok m) × Allowed sender m state next
    by (Err refusal) e q = absurd (refused_or_moved (unread_step state message sender e) q)
    by (Ok m) e q = (m, e, judged state message sender e q)

-- A step isn't allowed exactly if its message is read and leads to no state.
pub not_allowed_exactly : (state : State) (message : List ℕ) (sender : Side)
    → step state message sender ≡ not_allowed ↔ ((m : Message) × (read_of message ≡ Ok m) × ((next : State) → Allowed sender m state next → ⊥))
not_allowed_exactly state message sender = (by (read_of message) refl, λ h. back h.1 h.2 (step state message sender) refl)
  where
    by : (r : Reading) → read_of message ≡ r → step state message sender ≡ not_allowed
        → (m : Message) × (read_of message ≡ Ok m) × ((next : State) → Allowed sender m state next → ⊥)
    by (Err refusal) e q =
        let f = unread_step state message sender e in
        let same : refusal ≡ R.NotAllowed = cc in
        absurd (reading_known message e same)
    by (Ok m) e q = (m, e, λ next a. refused_or_moved q (read_step state message sender e ∙ allowed_moves a))

    back : {m : Message} → read_of message ≡ Ok m → ((next : State) → Allowed sender m state next → ⊥) → (x : Stepped) → step state message sender ≡ x
        → step state message sender ≡ not_allowed
    back e none (Err refusal) q = q ∙ ap Err (judged state message sender e q)
    back e none (Ok next) q = absurd (none next (judged state message sender e q))

-- That is refusal 20.
pub refused_20_exactly : (state : State) (message : List ℕ) (sender : Side)
    → RefusedAs (step state message sender) 20
    ↔ ((m : Message) × (read_of message ≡ Ok m) × ((next : State) → Allowed sender m state next → ⊥))
refused_20_exactly state message sender = (
  λ (refusal, e, is). (not_allowed_exactly state message sender).0 (e ∙ ap Err (same_number is)),
  λ h. (R.NotAllowed, (not_allowed_exactly state message sender).1 h, refl),
)

-- A step is refused in any other way exactly if its message is refused so.
pub refused_so : (state : State) (message : List ℕ) (sender : Side) (refusal : Refusal) → (refusal ≡ R.NotAllowed → ⊥)
    → step state message sender ≡ Err refusal ↔ read_of message ≡ Err refusal
unfolding refusal_in
refused_so state message sender refusal other = (by (read_of message) refl, unread_step state message sender)
  where
    by : (r : Reading) → read_of message ≡ r → step state message sender ≡ Err refusal → read_of message ≡ Err refusal
    by (Err given) e q =
        let same : given ≡ refusal = ap refusal_in (sym (unread_step state message sender e) ∙ q) in
        e ∙ ap Err same
    by (Ok m) e q = absurd (other (judged state message sender e q))

-- So it is refused with any other number exactly if its message is refused with that number.
pub refused_exactly : (state : State) (message : List ℕ) (sender : Side) (n : ℕ) → (n ≡ 20 → ⊥)
    → RefusedAs (step state message sender) n ↔ RefusedAs (read_of message) n
refused_exactly state message sender n other = (
  λ (refusal, e, is). (refusal, (refused_so state message sender refusal (λ f. other (sym is ∙ ap number_of f))).0 e, is),
  λ (refusal, e, is). (refusal, unread_step state message sender e, is),
)

-- A message that is read has a session of 32 bits.
pub session_most : (message : List ℕ) (m : Message) (session : ℕ) → read_of message ≡ Ok m → session_of m ≡ Some session
    → session ≤ most_number
session_most message m session read is = subst SmallSession is (reading_small message read).0

-- A message that is read has a count of at most 255, so that a Request opens a state with a count from 1 to 255.
pub count_most : (message : List ℕ) (m : Message) (count : ℕ) → read_of message ≡ Ok m → HasCount m count → count ≤ 255
count_most message m count read c = let few = subst SmallCount c.has (reading_small message read).1 in omega (arith, c.is)

-- Closed is for good: every later step is refused.
pub closed_for_good : (messages : List Sent) → Every (λ x. (next : State) → x.answer ≡ Ok next → ⊥) (steps_of Closed messages)
unfolding steps_of after
closed_for_good [] = tt
closed_for_good (m ∷ ms) = by (step Closed m.bytes m.sender) refl (closed_for_good ms)
  where
    by : (x : Stepped) → step Closed m.bytes m.sender ≡ x → Every (λ x. (next : State) → x.answer ≡ Ok next → ⊥) (steps_of Closed ms)
        → Every (λ x. (next : State) → x.answer ≡ Ok next → ⊥) (record { bytes = m.bytes; answer = x } ∷ steps_of (after Closed x) ms)
    by (Err refusal) q rest = (λ next e. refused_or_moved refl e, rest)
    by (Ok next) q rest = absurd (none ((moved_exactly Closed m.bytes m.sender next).0 q).2)
      where
        none : {sender : Side} {m : Message} {next : State} → Allowed sender m Closed next → ⊥
        none = elim [ ]
