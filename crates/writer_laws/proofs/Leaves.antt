-- Writing that is refused leaves the output as it was: of `write`, of `lower` and of `answer`. For readers: each
-- statement at the end stands alone.
-- Assumes nothing.
use mathlib.Core.Path.{◌≡◌, refl}
use mathlib.Core.Bool.{Bool, true, false}
use mathlib.Core.List.{List}
use Prim.Native.Nat.{ℕ}
use lib.Dec.{ltb}
use lib.ListN.{length}
use Rattle.base.specs.Pick.{pick}
use Rattle.cbor.specs.Put.{written}
use Rattle.description.specs.declared.Description.{Description}
use Rattle.description.specs.Judge.{ok_described}
use Rattle.std.specs.Prelude.{Result, Ok, Err}
use Rattle.refusal.specs.declared.Refusal.{Refusal}
use Rattle.refusal.specs.declared.Refusal.TheVariants.{NoSuchMessage, WriteOutput}
use Rattle.writer.specs.Write.{hand_answer, hand_out, pass_answer, pass_out, accepts, draft_of, write_answer, write_out}
use Rattle.writer.specs.Write.{lowered, ok_lower, lower_answer, lower_out, ok_initiator, answer_of, answer_answer, answer_out}
use Rattle.writer.proofs.HandedOver.{pass_case}

module _ (out : List ℕ) (refusal : Refusal) where
  -- what is answered, and the output that is left
  abbrev Leaves : Result ℕ Refusal → List ℕ → Type 0
  Leaves w left = w ≡ Err refusal → left ≡ out

  hand_leaves : (bs : List ℕ) → Leaves (hand_answer bs out) (hand_out bs out)
  unfolding hand_answer hand_out pick
  hand_leaves bs = by (ltb (length out) (length bs))
    where
      by : (t : Bool) → Leaves (pick t (Err WriteOutput) (Ok (length bs))) (pick t out (written bs out))
      by true e = refl
      by false e = absurd cc

  pass_leaves : (test : Bool) (bs : List ℕ) → Leaves (pass_answer test bs out) (pass_out test bs out)
  pass_leaves test bs = pass_case test bs out Leaves (λ _ _. hand_leaves bs) (λ _ _. refl)

  -- bytes that a test asks for before they may pass
  asked_leaves : (asked test : Bool) (bs : List ℕ) → Leaves (pick asked (pass_answer test bs out) (Err NoSuchMessage)) (pick asked (pass_out test bs out) out)
  unfolding pick
  asked_leaves true test bs = pass_leaves test bs
  asked_leaves false test bs = λ _. refl

-- for readers

-- A refused `write` leaves the output.
pub write_leaves : (source list : List ℕ) (d : Description) (out : List ℕ) {refusal : Refusal} → write_answer source list d out ≡ Err refusal
    → write_out source list d out ≡ out
unfolding write_answer write_out
write_leaves source list d out = asked_leaves out _ (ok_described source list d) (accepts (draft_of source list d)) (draft_of source list d)

-- A refused `lower` leaves the output.
pub lower_leaves : (message : List ℕ) (at end count : ℕ) (out : List ℕ) {refusal : Refusal} → lower_answer message at end count out ≡ Err refusal
    → lower_out message at end count out ≡ out
unfolding lower_answer lower_out
lower_leaves message at end count out = asked_leaves out _ (ok_lower message at end count) true (lowered message at end count)

-- A refused `answer` leaves the output.
pub answer_leaves : (session : ℕ) (initiator : List ℕ) (ttl : ℕ) (address : List ℕ) (port : ℕ) (out : List ℕ) {refusal : Refusal}
    → answer_answer session initiator ttl address port out ≡ Err refusal → answer_out session initiator ttl address port out ≡ out
unfolding answer_answer answer_out
answer_leaves session initiator ttl address port out = pass_leaves out _ (ok_initiator initiator) (answer_of session initiator ttl address port)
