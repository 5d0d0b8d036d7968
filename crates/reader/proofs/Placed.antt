-- What `read_placed` answers of any bytes: one item that is the whole is what it is by its shape; the other answers have
-- their reasons.
-- Assumes nothing.
use mathlib.Core.Path.{◌≡◌, refl, sym, ap, ◌∙◌}
use mathlib.Core.Logic.{◌⊎◌, inl, inr, ◌↔◌}
use mathlib.Core.List.{List, [], append-nil}
use Prim.Native.Nat.{ℕ, ◌≤◌, ◌<◌}
use native.Mathlib.Omega.{arith}
use lib.ListN.{length}
use lib.Seq.{take-length}
use lib.Dec.{ltb, eqb}
use borrow.Author.Tests.{ltb-true, ltb-false, eqb-true, eqb-false, ne_eqb, eq-eqb, le-ltb}
use Rattle.options.specs.Text.{Noted}
use Rattle.std.specs.Prelude.{Result, Ok, Err, None}
use Rattle.refusal.specs.declared.Refused.{Refused}
use Rattle.refusal.specs.declared.Refusal.{Refusal}
use Rattle.refusal.specs.declared.Refusal.TheVariants as R
use Rattle.refusal.specs.Refusal.{number_of, refused}
use Rattle.message.specs.declared.Examined.{Examined}
use Rattle.options.specs.Part.{part}
use Rattle.base.specs.Pick.{pick}
use Rattle.base.specs.BigEndian.{Bytes}
use Rattle.base.proofs.Picks.{pick-case}
use Rattle.cbor.specs.Item.{ItemRead, most_levels, first_item}
use Rattle.cbor.specs.Tree.{encode, ItemIs}
use Rattle.cbor.specs.Fault.{FirstFault}
use Rattle.cbor.proofs.Accepts.{item_accepts}
use Rattle.cbor.proofs.Exact.{item_exact}
use Rattle.cbor.proofs.Refuses.{refusal_sound}
use Rattle.rfc8990.specs.Message.{Msg}
use Rattle.rfc8990.specs.Cddl.{Value}
use Rattle.rfc8990.specs.Limits.{TextsGood, NamesGood}
use Rattle.message_laws.proofs.Bridge.{advances}
use Rattle.message.specs.declared.Message.{Message}
use Rattle.rfc8990.specs.Limits.{most_bytes}
use Rattle.message.proofs.Clear.{clear_case, clear_told}
use Rattle.message.specs.Examined.{accepted_to, judged_shape, examined}
use Rattle.reader.specs.Read.{framed, read_placed}
use Rattle.message_laws.specs.Describes.{Describes}
use Rattle.rfc8990.specs.Accepted.{OneItem, IsMessage, Accepted}
use Rattle.rfc8990.specs.Refusals.{Fits, UnknownKind}
use Rattle.message_laws.proofs.Whole.{stands, WholeIs}
use Rattle.message_laws.proofs.Shaped.{examined_case, shape_complete}
use Rattle.message_laws.proofs.Once.{message_one}

-- ---- one item that is the whole
module _ {s : List ℕ} (one : OneItem s) where
  pub walked : first_item 0 s ≡ Ok (length s)
  walked =
      ap (first_item 0) (sym (append-nil (encode one.item) ∙ one.bytes)) ∙ item_accepts 0 one.item [] one.good one.shallow
      ∙ ap Ok (ap length one.bytes)

  -- its shape decides
  pub placed_one : read_placed s ≡ (examined s)
  unfolding read_placed framed pick
  placed_one =
      rw (ne_eqb (length s) 0 (λ z. omega (arith, advances (stands one))), le-ltb most_bytes (length s) one.most, walked, eq-eqb (length s) (length s) refl)

-- ---- one message
-- what is read of it, and its description
pub record MessageShape (s : List ℕ) (msg : Msg Value) : Type 0 where
  pub message : Message
  pub end : ℕ
  pub bad : Noted
  pub long : Noted
  pub is : read_placed s ≡ judged_shape (part message end bad long)
  pub describes : Describes s message msg
  pub texts : bad ≡ None ↔ TextsGood msg
  pub names : long ≡ None ↔ NamesGood msg

-- a message's refusals are 11 and 10, of an answer
number_in : Result Examined Refused → ℕ
number_in (Err why) = number_of why.refusal
number_in (Ok m) = 0

pub judged_number : (m : Message) (end : ℕ) (bad long : Noted) {refusal : Refusal} {place : ℕ}
    → judged_shape (part m end bad long) ≡ refused refusal place → 10 ≤ number_of refusal
unfolding number_in judged_shape
judged_number m end bad long {refusal} {place} =
    clear_case P bad
    (clear_case P long (λ q. absurd (let z : ◌≡◌ {A = ℕ} 0 1 = cc in omega arith)) (λ at q. let e : 10 ≡ number_of refusal = ap number_in q in omega arith))
    (λ at q. let e : 11 ≡ number_of refusal = ap number_in q in omega arith)
  where
    P : Result Examined Refused → Type 0
    P r = r ≡ refused refusal place → 10 ≤ number_of refusal

-- a message is described by what is read of it
pub message_shape : {s : List ℕ} (i : IsMessage s) → MessageShape s i.msg
message_shape {s} i =
    let one = i.one in
    let r = shape_complete (stands one) one.shallow i.is in
    examined_case one (λ (x : Result Examined Refused). examined s ≡ x → MessageShape s i.msg)
    (λ place u e. absurd (omega (arith, judged_number r.message r.end r.bad r.long (sym r.is ∙ e))))
    (λ place e. absurd (omega (arith, judged_number r.message r.end r.bad r.long (sym r.is ∙ e))))
    (λ m end bad long h e.
    let same : h.msg ≡ i.msg = message_one h.is i.is in
    record {
      message = m;
      end = end;
      bad = bad;
      long = long;
      is = placed_one one ∙ e;
      describes = rw same at h.describes;
      texts = rw same at h.texts;
      names = rw same at h.names;
    })
    refl

-- ---- any bytes
-- the answer, and why it is given
pub data Answer (s : List ℕ) : Result Examined Refused → Type 0 where
  size : (length s ≡ 0) ⊎ (most_bytes < length s) → Answer s (refused R.BadSize 0)
  head : {refusal : Refusal} {place : ℕ} → Fits s → FirstFault most_levels s refusal place → Answer s (refused refusal place)
  more : {e : ℕ} → length s ≤ most_bytes → ItemIs most_levels s e → e < length s → Answer s (refused R.BytesAfter e)
  kind : {place : ℕ} (one : OneItem s) → UnknownKind one.item → Answer s (refused R.UnknownKind place)
  shape : {place : ℕ} → OneItem s → Answer s (refused R.BadShape place)
  text : {place : ℕ} (m : IsMessage s) → (TextsGood m.msg → ⊥) → Answer s (refused R.BadText place)
  name : {place : ℕ} (m : IsMessage s) → TextsGood m.msg → (NamesGood m.msg → ⊥) → Answer s (refused R.LongName place)
  read : {m : Message} {end : ℕ} (a : Accepted s) → Describes s m a.message.msg → Answer s (accepted_to m end)

-- the answer by what was noted
judged_answer : {s : List ℕ} (one : OneItem s) (m : Message) (end : ℕ) (bad long : Noted) → WholeIs one m bad long
    → Answer s (judged_shape (part m end bad long))
unfolding judged_shape
judged_answer {s} one m end bad long h =
    let i : IsMessage s = record { one = one; msg = h.msg; is = h.is } in
    clear_told P bad
    (λ e.
    let texts = h.texts.0 e in
    clear_told P long
    (λ e'. Answer.read (record { message = i; texts = texts; names = h.names.0 e' }) h.describes)
    (λ place e'. Answer.name i texts (λ names. e' (h.names.1 names))))
    (λ place e. Answer.text i (λ texts. e (h.texts.1 texts)))
  where
    P : Result Examined Refused → Type 0
    P r = Answer s r

module _ {s : List ℕ} (b : Bytes s) where
  framed_answer : Fits s → (r : ItemRead) → first_item 0 s ≡ r → Answer s (framed s r)
  unfolding framed
  framed_answer fits (Err why) e = Answer.head fits (refusal_sound 0 s why.refusal why.place b e)
  framed_answer fits (Ok end) e =
      pick-case (Answer s) (eqb end (length s))
      (λ t.
      let whole : first_item 0 s ≡ Ok (length s) = e ∙ ap Ok (eqb-true end (length s) t) in
      let i = item_exact 0 s (length s) b whole in
      let one : OneItem s = record { item = i.item; bytes = sym i.bytes ∙ take-length s; most = fits.most; good = i.good; shallow = i.shallow } in
      examined_case one (Answer s) (λ place u. Answer.kind one u) (λ place. Answer.shape one) (judged_answer one))
      (λ t.
      let i = item_exact 0 s end b e in
      Answer.more fits.most i (omega (arith, i.within, eqb-false end (length s) t)))

  -- whatever the bytes
  pub answer : Answer s (read_placed s)
  unfolding read_placed
  answer =
      pick-case (Answer s) (eqb (length s) 0) (λ e. Answer.size (inl (eqb-true (length s) 0 e)))
      (λ e. pick-case (Answer s) (ltb most_bytes (length s)) (λ e'. Answer.size (inr (ltb-true most_bytes (length s) e')))
      (λ e'. framed_answer (record { some = eqb-false (length s) 0 e; most = ltb-false most_bytes (length s) e' }) (first_item 0 s) refl))
