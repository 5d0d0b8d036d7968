-- Each refusal is given exactly where its row of the table says. For readers: each statement stands alone.
-- Assumes nothing.
use mathlib.Core.Path.{◌≡◌, refl, sym, ap, ◌∙◌, subst}
use mathlib.Core.Logic.{◌⊎◌, inl, inr, ◌↔◌}
use mathlib.Core.List.{List}
use Prim.Native.Nat.{ℕ, ◌<◌}
use native.Mathlib.Omega.{arith}
use lib.ListN.{length}
use borrow.Author.Tests.{eq-eqb, ne_eqb, lt-ltb, le-ltb}
use Rattle.options.specs.Text.{Noted}
use Rattle.std.specs.Prelude.{Result, Ok, Err, Some, None}
use Rattle.refusal.specs.declared.Refused.{Refused}
use Rattle.refusal.specs.declared.Refusal.{Refusal}
use Rattle.refusal.specs.declared.Refusal.TheVariants as R
use Rattle.refusal.specs.Refusal.{number_of, answer_number, refused, RefusedAs}
use Rattle.message.specs.declared.Examined.{Examined}
use Rattle.options.specs.Part.{part}
use Rattle.base.specs.Pick.{pick}
use Rattle.base.specs.BigEndian.{Bytes}
use Rattle.cbor.specs.Item.{first_item}
use Rattle.cbor.proofs.Accepts.{item_found}
use Rattle.cbor.proofs.Refuses.{refusal_complete}
use Rattle.message.specs.declared.Message.{Message}
use Rattle.rfc8990.specs.Limits.{most_bytes}
use Rattle.message.specs.Examined.{clear, judged_shape}
use Rattle.reader.specs.Read.{Reading, framed, read_placed, placeless, read_of}
use Rattle.rfc8990.specs.Accepted.{Accepted}
use Rattle.rfc8990.specs.Refusals.{Fits, Row}
use Rattle.message_laws.proofs.Whole.{stands}
use Rattle.message_laws.proofs.Shaped.{examined_case, unknown_complete}
use Rattle.reader.proofs.Placed.{placed_one, judged_number, message_shape, Answer, answer}
use Rattle.reader.proofs.Exact.{accepted_exactly, accepted_bytes}

-- ---- the row's refusal is given
-- a bad text
judged_bad : (m : Message) (end : ℕ) (bad long : Noted) → (bad ≡ None → ⊥) → placeless (judged_shape (part m end bad long)) ≡ Err R.BadText
unfolding judged_shape clear placeless
judged_bad m end None long e = absurd (e refl)
judged_bad m end (Some place) long e = refl

-- a long name
judged_long : (m : Message) (end : ℕ) (bad long : Noted) → bad ≡ None → (long ≡ None → ⊥) → placeless (judged_shape (part m end bad long)) ≡ Err R.LongName
unfolding judged_shape clear placeless
judged_long m end bad None e e' = absurd (e' refl)
judged_long m end bad (Some place) e e' = rw e

-- neither too short nor too long: the walk is asked first
pub placed_fit : {s : List ℕ} → Fits s → read_placed s ≡ framed s (first_item 0 s)
unfolding read_placed pick
placed_fit {s} f = rw (ne_eqb (length s) 0 f.some, le-ltb most_bytes (length s) f.most)

-- no bytes, or too many
pub size_given : (s : List ℕ) → (length s ≡ 0) ⊎ (most_bytes < length s) → read_of s ≡ Err R.BadSize
unfolding read_of placeless read_placed pick
size_given s (inl e) = rw (eq-eqb (length s) 0 e)
size_given s (inr h) = rw (ne_eqb (length s) 0 (λ z. omega arith), lt-ltb most_bytes (length s) h)

-- row by row
pub row_given : (s : List ℕ) (n : ℕ) → Row s n → RefusedAs (read_of s) n
unfolding read_of placeless read_placed framed pick
row_given s _ (Row.size h) = (R.BadSize, size_given s h, refl)
row_given s _ (Row.head {refusal} {place} fits f) = (refusal, ap placeless (placed_fit fits ∙ ap (framed s) (refusal_complete 0 s refusal place f)), refl)
row_given s _ (Row.more {e} most i less) = (
  R.BytesAfter,
  ap placeless (placed_fit (record { some = λ z. omega arith; most = most }) ∙ ap (framed s) (item_found 0 s e i))
      ∙ rw (ne_eqb e (length s) (λ z. omega arith)),
  refl,
)
row_given s _ (Row.kind one u) = (R.UnknownKind, ap placeless (placed_one one ∙ (unknown_complete (stands one) u).1), refl)
row_given s _ (Row.shape one known none) = (
  R.BadShape,
  ap placeless (placed_one one)
      ∙ examined_case one (λ (r : Result Examined Refused). placeless r ≡ Err R.BadShape) (λ place u. absurd (known u)) (λ place. refl)
      (λ m end bad long h. absurd (none h.msg h.is)),
  refl,
)
row_given s _ (Row.text i bad) =
    let h = message_shape i in
    (R.BadText, ap placeless h.is ∙ judged_bad h.message h.end h.bad h.long (λ z. bad (h.texts.0 z)), refl)
row_given s _ (Row.name i texts long) =
    let h = message_shape i in
    (R.LongName, ap placeless h.is ∙ judged_long h.message h.end h.bad h.long (h.texts.1 texts) (λ z. long (h.names.0 z)), refl)

-- ---- a refusal has its row
-- an answer has one number
one_number : {r : Reading} {n n' : ℕ} → RefusedAs r n → RefusedAs r n' → n ≡ n'
one_number (refusal, e, is) (refusal', e', is') = sym is ∙ ap answer_number (sym e ∙ e') ∙ is'

-- refusal by refusal
row_of : {s : List ℕ} {refusal : Refusal} {place : ℕ} → read_placed s ≡ refused refusal place → Answer s (refused refusal place)
    → Row s (number_of refusal)
unfolding read_of placeless
row_of e (Answer.size h) = Row.size h
row_of e (Answer.head fits f) = Row.head fits f
row_of e (Answer.more most i less) = Row.more most i less
row_of e (Answer.kind one u) = Row.kind one u
row_of {s} e (Answer.shape one) =
    Row.shape one
    (λ u. let z : 8 ≡ 9 = one_number (row_given s 8 (Row.kind one u)) (R.BadShape, ap placeless e, refl) in omega arith)
    (λ msg is.
    let h = message_shape (record { one = one; msg = msg; is = is }) in
    omega (arith, judged_number h.message h.end h.bad h.long (sym h.is ∙ e)))
row_of e (Answer.text m bad) = Row.text m bad
row_of e (Answer.name m texts long) = Row.name m texts long

-- for readers

-- The refusal of each number is given exactly where its row says.
pub refused_exactly : (s : List ℕ) (n : ℕ) → Bytes s → RefusedAs (read_of s) n ↔ Row s n
unfolding read_of placeless
refused_exactly s n b = (λ (refusal, q, is). subst (Row s) is (by (read_placed s) refl refusal q), row_given s n)
  where
    by : (r : Result Examined Refused) → read_placed s ≡ r → (refusal : Refusal) → placeless r ≡ Err refusal → Row s (number_of refusal)
    by (Err why) e refusal q =
        let same : number_of why.refusal ≡ number_of refusal = ap answer_number q in
        subst (Row s) same (row_of e (subst (Answer s) e (answer b)))
    by (Ok m) e refusal q = absurd (let z : ◌≡◌ {A = ℕ} 0 1 = cc in omega arith)

-- Any bytes are accepted or have a row.
pub accepted_or_refused : (s : List ℕ) → Bytes s → Accepted s ⊎ ((n : ℕ) × Row s n)
accepted_or_refused s b = by (read_of s) refl
  where
    by : (r : Reading) → read_of s ≡ r → Accepted s ⊎ ((n : ℕ) × Row s n)
    by (Err refusal) e = inr (number_of refusal, (refused_exactly s (number_of refusal) b).0 (refusal, e, refl))
    by (Ok m) e = inl ((accepted_exactly s b).0 (m, e))

-- Accepted bytes have no row.
pub accepted_not_refused : (s : List ℕ) (n : ℕ) → Accepted s → Row s n → ⊥
accepted_not_refused s n a row =
    let (m, e) = (accepted_exactly s (accepted_bytes s a)).1 a in
    let (refusal, f, is) = row_given s n row in
    let z : ◌≡◌ {A = ℕ} 0 1 = cc in
    omega arith

-- No bytes have two rows.
pub refused_once : (s : List ℕ) (n n' : ℕ) → Row s n → Row s n' → n ≡ n'
refused_once s n n' row row' = one_number (row_given s n row) (row_given s n' row')
