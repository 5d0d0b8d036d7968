-- Reading held against RFC 8990 and the limits (rules 1, 2): which bytes are accepted, and what the answer says of
-- them. For readers: each statement stands alone.
-- Assumes nothing.
use Rattle.std.specs.Prelude.{Result, Ok, Err}
use Rattle.refusal.specs.declared.Refused.{Refused}
use Rattle.message.specs.declared.Examined.{Examined}
use mathlib.Core.Path.{◌≡◌, ap, ◌∙◌, subst}
use mathlib.Core.Logic.{◌↔◌}
use mathlib.Core.List.{List}
use Prim.Native.Nat.{ℕ}
use native.Mathlib.Omega.{arith}
use Rattle.options.specs.Text.{Noted}
use Rattle.std.specs.Prelude.{None}
use Rattle.options.specs.Part.{part}
use Rattle.base.specs.Pick.{pick}
use Rattle.base.specs.BigEndian.{Bytes}
use Rattle.cbor.specs.Tree.{Item}
use Rattle.rfc8990.specs.Cddl.{MessageItem}
use Rattle.message.specs.declared.Message.{Message}
use Rattle.message.specs.Examined.{accepted_to, clear, judged_shape}
use Rattle.reader.specs.Read.{read_placed, placeless, read_of}
use Rattle.options.specs.Text.{Noted}
use Rattle.std.specs.Prelude.{None}
use Rattle.message_laws.specs.Describes.{Describes}
use Rattle.message_laws.specs.Holds.{MessageHolds}
use Rattle.rfc8990.specs.Accepted.{IsMessage, Accepted}
use Rattle.message_laws.proofs.Once.{message_one}
use Rattle.message_laws.proofs.Described.{described_once}
use Rattle.message_laws.proofs.Held.{described_holds}
use Rattle.message_laws.proofs.Whole.{stands, one_bytes, only_one}
use Rattle.reader.proofs.Placed.{message_shape, Answer, answer}

-- an answer that is a message
read_answer : {s : List ℕ} {m : Message} (r : Result Examined Refused) → Answer s r → placeless r ≡ Ok m → (a : Accepted s) × Describes s m a.message.msg
unfolding placeless
read_answer {s} {m} (Ok got) (Answer.read a d) q = let same : got.message ≡ m = cc in (a, subst (λ (m : Message). Describes s m a.message.msg) same d)
read_answer (Err why) a q = absurd (let z : ◌≡◌ {A = ℕ} 0 1 = cc in omega arith)

-- nothing noted
judged_good : {m : Message} {end : ℕ} {bad long : Noted} → bad ≡ None → long ≡ None → judged_shape (part m end bad long) ≡ accepted_to m end
unfolding judged_shape clear
judged_good e e' = rw (e, e')

-- for readers

-- The bytes that are read as a message are those of the messages of RFC 8990 within the limits (rules 2).
pub accepted_exactly : (s : List ℕ) → Bytes s → ((m : Message) × (read_of s ≡ Ok m)) ↔ Accepted s
unfolding read_of placeless
accepted_exactly s b = (
  λ (m, q). (read_answer (read_placed s) (answer b) q).0,
  λ a.
      let h = message_shape a.message in
      (h.message, ap placeless (h.is ∙ judged_good (h.texts.1 a.texts) (h.names.1 a.names))),
)

-- Accepted bytes are bytes.
pub accepted_bytes : (s : List ℕ) → Accepted s → Bytes s
accepted_bytes s a = one_bytes a.message.one

-- Bytes are one message only.
pub message_once : (s : List ℕ) (a b : IsMessage s) → (a.one.item ≡ b.one.item) × (a.msg ≡ b.msg)
message_once s a b =
    let same = only_one b.one (stands a.one) in
    (same, message_one (subst (λ (x : Item). MessageItem x a.msg) same a.is) b.is)

-- And what is read describes it: its numbers, and where its parts stand.
pub accepted_described : (s : List ℕ) (m : Message) → read_of s ≡ Ok m → (a : Accepted s) → Describes s m a.message.msg
unfolding read_of
accepted_described s m q a =
    let (a', d) = read_answer (read_placed s) (answer (accepted_bytes s a)) q in
    subst (Describes s m) (message_once s a'.message a.message).1 d

-- So an answer is given exactly if it is the description of accepted bytes: no other place and no other number fits
-- them.
pub read_exactly : (s : List ℕ) (m : Message) → Bytes s → read_of s ≡ Ok m ↔ ((a : Accepted s) × Describes s m a.message.msg)
unfolding read_of placeless
read_exactly s m b = (
  read_answer (read_placed s) (answer b),
  λ (a, d).
      let (m', q) = (accepted_exactly s b).1 a in
      q ∙ ap Ok (described_once (accepted_described s m' q a) d),
)

-- And what is read holds that message's contents: the bytes at each of its spans are the initiator, the name, the
-- reason, or the encoding of the value or item, and so for each locator and pair that is read of its list in turn.
pub accepted_holds : (s : List ℕ) (m : Message) → read_of s ≡ Ok m → (a : Accepted s) → MessageHolds s m a.message.msg
accepted_holds s m q a = described_holds a.message (accepted_described s m q a)
