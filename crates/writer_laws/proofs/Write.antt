-- Writing held against reading: what is written is read back as the message that was described, what was read is
-- written as it was, and 18 is answered exactly where there is no message that the description says. For readers: each
-- statement at the end stands alone.
-- Assumes nothing.
use Rattle.reader.specs.Read.{Reading}
use mathlib.Core.Path.{◌≡◌, refl, sym, ◌∙◌, subst}
use mathlib.Core.Logic.{◌↔◌}
use mathlib.Core.Bool.{Bool, true, false, false≢true}
use mathlib.Core.List.{List, ◌++◌}
use Prim.Native.Nat.{ℕ, ◌≤◌, ◌<◌}
use lib.ListN.{length, take, drop}
use Rattle.base.specs.Pick.{pick}
use Rattle.base.specs.BigEndian.{Bytes}
use Rattle.message.specs.declared.Message.{Message}
use Rattle.rfc8990.specs.Limits.{most_bytes}
use Rattle.reader.specs.Read.{read_of}
use Rattle.rfc8990.specs.Accepted.{Accepted}
use Rattle.reader.proofs.Exact.{accepted_exactly, accepted_bytes}
use Rattle.description.specs.declared.Description.{Description}
use Rattle.std.specs.Prelude.{Result, Ok, Err}
use Rattle.refusal.specs.declared.Refusal.{Refusal}
use Rattle.refusal.specs.declared.Refusal.TheVariants.{NoSuchMessage, WriteOutput}
use Rattle.description.specs.Meaning.{msg_of}
use Rattle.description.specs.Judge.{ok_described}
use Rattle.writer.specs.Write.{accepted, accepts, hand_answer, hand_out, pass_answer, pass_out, draft_of, write_answer, write_out}
use Rattle.writer_laws.specs.Plain.{plain}
use Rattle.writer_laws.specs.Says.{Says, ReadsBack}
use Rattle.writer.proofs.HandedOver.{hand_not_18, handed, hand_front, hand_19, pass_case}
use Rattle.writer_laws.proofs.Read.{read_encoded, read_drafted}
use Rattle.writer_laws.proofs.Once.{ValuedMsg, message_once}
use Rattle.writer_laws.proofs.Within.{plain_small, plain_valued}
use Rattle.writer_laws.proofs.Judged.{described_exactly}
use Rattle.writer_laws.proofs.Drafts.{draft_bytes}

-- an answer that is a message
accepted_is : (r : Reading) → accepted r ≡ true → (m : Message) × (r ≡ Ok m)
accepted_is (Err refusal) h = absurd cc
accepted_is (Ok m) h = (m, refl)

-- ---- the tests of `write` before its output's
record Passes (source list : List ℕ) (d : Description) : Type 0 where
  described : ok_described source list d ≡ true
  few : length (draft_of source list d) ≤ most_bytes
  read : accepts (draft_of source list d) ≡ true

-- what holds of the answer and the output, where the tests are passed and where they aren't
module _ (source list : List ℕ) (d : Description) (out : List ℕ) (P : Result ℕ Refusal → List ℕ → Type 0)
    (f : Passes source list d → P (hand_answer (draft_of source list d) out) (hand_out (draft_of source list d) out))
    (g : (Passes source list d → ⊥) → P (Err NoSuchMessage) out) where
  -- by the description's test
  by_test : (t : Bool) → ok_described source list d ≡ t
      → P (pick t (pass_answer (accepts (draft_of source list d)) (draft_of source list d) out) (Err NoSuchMessage))
      (pick t (pass_out (accepts (draft_of source list d)) (draft_of source list d) out) out)
  unfolding pick
  by_test true e =
      pass_case (accepts (draft_of source list d)) (draft_of source list d) out P (λ r few. f (record { described = e; few = few; read = r }))
      (λ not. g (λ p. not p.read p.few))
  by_test false e = g (λ p. false≢true (sym e ∙ p.described))

  -- and so of what `write` does
  write_case : P (write_answer source list d out) (write_out source list d out)
  unfolding write_answer write_out
  write_case = by_test (ok_described source list d) refl

module _ (source list : List ℕ) (d : Description) (b : Bytes source) where
  -- a draft that passes the tests is accepted, and is the message that was described
  passes_back : Passes source list d → ReadsBack source list d (draft_of source list d)
  unfolding draft_of accepts
  passes_back p =
      let (m, q) = accepted_is (read_of (draft_of source list d)) p.read in
      record {
        draft = refl;
        message = m;
        read = q;
        accepted = (accepted_exactly (draft_of source list d) (draft_bytes source b list d)).0 (m, q);
        same = λ a.
            message_once (plain_small a.message.is) (plain_valued a.message.one.good a.message.one.shallow a.message.is)
            ((described_exactly source list d).0 b p.described).1 (rw (read_encoded _ a) a.message.one.most) (read_encoded _ a);
      }

  -- the tests are passed exactly where there is a message that the description says
  passes_says : Passes source list d → (s : List ℕ) × (a : Accepted s) × Says source list d (plain a.message.msg)
  passes_says p =
      let r = passes_back p in
      (draft_of source list d, r.accepted, record { parts = ((described_exactly source list d).0 b p.described).0; is = sym (r.same r.accepted) })

-- and back, whatever the source's elements are
says_passes : {s : List ℕ} (source list : List ℕ) (d : Description) (a : Accepted s) → Says source list d (plain a.message.msg) → Passes source list d
unfolding accepts
says_passes {s} source list d a h =
    let same : draft_of source list d ≡ s = read_drafted s source list d a h.is in
    let values : ValuedMsg (msg_of source list d) =
    subst ValuedMsg (sym h.is) (plain_valued a.message.one.good a.message.one.shallow a.message.is) in
    let (m, q) = (accepted_exactly s (accepted_bytes s a)).1 a in
    record {
      described = (described_exactly source list d).1 (h.parts, values);
      few = rw same a.message.one.most;
      read = rw (same, q);
    }

-- for readers

-- What `write` puts in front of the output is read back, as the message that was described.
pub written_reads : (source list : List ℕ) (d : Description) (out : List ℕ) (n : ℕ) → Bytes source → write_answer source list d out ≡ Ok n
    → ReadsBack source list d (take n (write_out source list d out))
written_reads source list d out n b =
    write_case source list d out (λ r o. r ≡ Ok n → ReadsBack source list d (take n o))
    (λ p e. subst (ReadsBack source list d) (sym (hand_front (draft_of source list d) out n e)) (passes_back source list d b p))
    (λ _ e. absurd cc)

-- A description that says a message that was read is written as the bytes that were read, where the output has room for
-- them.
pub read_written : (s source list : List ℕ) (d : Description) (out : List ℕ) (a : Accepted s) → Says source list d (plain a.message.msg)
    → length s ≤ length out
    → (write_answer source list d out ≡ Ok (length s)) × (write_out source list d out ≡ s ++ drop (length s) out)
read_written s source list d out a h room =
    write_case source list d out (λ r o. (r ≡ Ok (length s)) × (o ≡ s ++ drop (length s) out))
    (λ p. rw (read_drafted s source list d a h.is) (handed s out room))
    (λ fails. absurd (fails (says_passes source list d a h)))

-- 18 is answered exactly if there are no accepted bytes whose message the description says.
pub refused_18 : (source list : List ℕ) (d : Description) (out : List ℕ) → Bytes source
    → write_answer source list d out ≡ Err NoSuchMessage ↔ (((s : List ℕ) × (a : Accepted s) × Says source list d (plain a.message.msg)) → ⊥)
refused_18 source list d out b = (
  write_case source list d out (λ r o. r ≡ Err NoSuchMessage → ((s : List ℕ) × (a : Accepted s) × Says source list d (plain a.message.msg)) → ⊥)
      (λ p q _. hand_not_18 (draft_of source list d) out q)
      (λ fails q (s, a, h). fails (says_passes source list d a h)),
  λ none. write_case source list d out (λ r o. r ≡ Err NoSuchMessage) (λ p. absurd (none (passes_says source list d b p))) (λ _. refl),
)

-- 19 is answered exactly if there are such bytes, and the output has no room for them.
pub refused_19 : (source list : List ℕ) (d : Description) (out : List ℕ) → Bytes source
    → write_answer source list d out ≡ Err WriteOutput
    ↔ ((s : List ℕ) × (a : Accepted s) × Says source list d (plain a.message.msg) × (length out < length s))
refused_19 source list d out b = (
  write_case source list d out (λ r o. r ≡ Err WriteOutput
      → (s : List ℕ) × (a : Accepted s) × Says source list d (plain a.message.msg) × (length out < length s))
      (λ p q.
      let (s, a, h) = passes_says source list d b p in
      (s, a, h, rw (read_drafted s source list d a h.is) at ((hand_19 (draft_of source list d) out).0 q)))
      (λ _ q. absurd cc),
  λ (s, a, h, room). write_case source list d out (λ r o. r ≡ Err WriteOutput)
      (λ p. rw (read_drafted s source list d a h.is) ((hand_19 s out).1 room))
      (λ fails. absurd (fails (says_passes source list d a h))),
)
