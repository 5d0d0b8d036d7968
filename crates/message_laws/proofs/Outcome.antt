-- An accept or a decline that is read stands in the message as an item that the CDDL calls this outcome
-- (`outcome_sound`), and every such item is read, wherever it stands (`outcome_read`): it is read exactly there
-- (`outcome_exactly`).
-- Assumes nothing.
use mathlib.Core.Path.{◌≡◌, refl, ap, ap₂, ◌∙◌, subst}
use mathlib.Core.Logic.{◌↔◌, ◌≢◌}
use mathlib.Core.List.{List}
use mathlib.Core.Bool.{true}
use Prim.Native.Nat.{ℕ, suc, ◌+◌, ◌-◌, ◌≤◌}
use native.Mathlib.Nat.{add-sub_cancel_left}
use native.Mathlib.Omega.{arith}
use lib.ListN.{length, drop}
use lib.Dec.{ltb, eqb, lit≤}
use borrow.Author.Tests.{ltb-false, eqb-true, eqb-false, ne_eqb}
use Rattle.options.specs.Text.{Noted}
use Rattle.std.specs.Prelude.{None}
use Rattle.options.specs.Part.{Read, departs, part}
use Rattle.base.specs.Pick.{pick}
use Rattle.base.specs.BigEndian.{Bytes}
use Rattle.base.specs.Lists.{Every}
use Rattle.base.proofs.Picks.{pick-case}
use Rattle.base.proofs.Parts.{bytes_drop}
use Rattle.cbor.specs.Token.{token_at, items_in, up_to}
use Rattle.cbor.specs.Tree.{Item, Items, count}
use Rattle.cbor.proofs.Tokens.{token_is, is_array}
use Rattle.options.specs.declared.Span.{Span}
use Rattle.options.specs.declared.outcome.Outcome.{Outcome}
use Rattle.options.specs.Text.{span_of, content_in, bad_text}
use Rattle.options.specs.Outcome.{reason_in, outcome_in, outcome_at}
use Rattle.rfc8990.specs.Message.{Outc}
use Rattle.rfc8990.specs.Cddl.{uint, OutcItem}
use Rattle.rfc8990.specs.Limits.{Utf8, outc_texts}
use Rattle.message_laws.specs.Stands.{Stands, StandAll}
use Rattle.message_laws.specs.Describes.{OutcomeIs}
use Rattle.message_laws.proofs.Bridge.{token_heading, advances, join, last, none_end, lift_first, sink_first}
use Rattle.message_laws.proofs.Pieces.{array_at, array_items, number_here, number_is}
use Rattle.message_laws.proofs.Texts.{bad_text_lem}
use Rattle.message_laws.proofs.Noted.{clean, single}
use Rattle.message_laws.proofs.Heads.{uint_passed, string_passed, array_passed, string_at}

-- ---- sound
-- the outcome o, read from p to e with a bad reason at `bad`, if any: the item that stands there, and the outcome
-- that it is
pub record OutcomeStands (s : List ℕ) (p e : ℕ) (o : Outcome) (bad : Noted) : Type 0 where
  pub item : Item
  pub outc : Outc
  pub stands : Stands s p e item
  pub is : OutcItem item outc
  pub described : e ≡ length s → OutcomeIs s o outc
  pub texts : bad ≡ None ↔ Every Utf8 (outc_texts outc)

pub data OutcomeSound (s : List ℕ) (p : ℕ) : Read Outcome → Type 0 where
  refused : {place : ℕ} → OutcomeSound s p (departs place)
  got : {o : Outcome} {size : ℕ} {bad : Noted} → OutcomeStands s p (p + size) o bad → OutcomeSound s p (part o size bad None)

-- what is read stands there
pub outcome_sound : (s : List ℕ) (p : ℕ) → Bytes s → OutcomeSound s p (outcome_at s p)
unfolding outcome_in reason_in count outc_texts
outcome_sound s p b =
    let m = drop p s in
    let a = token_at m 0 in
    let k = token_at m a.next in
    let lead = up_to 102 k in
    let t = token_at m k.next in
    let bytes = bytes_drop p s b in
    pick-case P (eqb (items_in a) 0) (λ _. OutcomeSound.refused)
    (λ t₁. pick-case P (ltb lead 101) (λ _. OutcomeSound.refused)
    (λ t₂. pick-case P (ltb 102 lead) (λ _. OutcomeSound.refused)
    (λ t₃.
    let array = is_array a (eqb-false (items_in a) 0 t₁) in
    let h = token_heading m 0 a bytes refl (omega arith) in
    let least : 101 ≤ lead = ltb-false lead 101 t₂ in
    let small : lead ≤ 102 = ltb-false 102 lead t₃ in
    let number = number_here 102 k bytes refl small in
    let led : (v : ℕ) → lead ≡ v → Stands m a.next k.next (uint number.width v) =
    λ v e. subst (λ (v : ℕ). Stands m a.next k.next (uint number.width v)) e number.stands in
    pick-case P (eqb lead 101)
    (λ e. pick-case P (eqb a.arg 1)
    (λ one. got (array_at h array (eqb-true a.arg 1 one) (last (led 101 (eqb-true lead 101 e)))) OutcItem.accept (λ _. OutcomeIs.accept) (clean tt))
    (λ _. OutcomeSound.refused))
    (λ e.
    let two : lead ≡ 102 = omega (arith, eqb-false lead 101 e) in
    pick-case P (eqb a.arg 1)
    (λ one. got (array_at h array (eqb-true a.arg 1 one) (last (led 102 two))) OutcItem.decline (λ _. OutcomeIs.decline) (clean tt))
    (λ _. pick-case P (eqb a.arg 2)
    (λ both. pick-case P (eqb t.major 3)
    (λ text.
    let string = string_at bytes true (eqb-true t.major 3 text) in
    let here : t.at ≡ k.next = (token_is m k.next t refl).here in
    let place : p + t.at ≢ 0 = λ z. omega (arith, advances number.stands) in
    let start : t.body ≤ t.next = (token_is m k.next t refl).start in
    let len : t.next - t.body ≡ length (content_in m t) = ap (λ (i : Span). i.len) string.held in
    got (array_at h array (eqb-true a.arg 2 both) (join (led 102 two) (last string.stands))) OutcItem.reason
    (λ full. OutcomeIs.reason (ap₂ span_of (omega arith) (omega arith))) (single (bad_text_lem (content_in m t) (p + t.at) place)))
    (λ _. OutcomeSound.refused))
    (λ _. OutcomeSound.refused))))))
  where
    P : Read Outcome → Type 0
    P = OutcomeSound s p

    got : {o : Outcome} {size : ℕ} {bad : Noted} {x : Item} {outc : Outc} → Stands (drop p s) 0 size x → OutcItem x outc
        → (p + size ≡ length s → OutcomeIs s o outc)
        → bad ≡ None ↔ Every Utf8 (outc_texts outc) → P (part o size bad None)
    got {x = x} {outc} st is described texts =
        OutcomeSound.got (record { item = x; outc = outc; stands = lift_first st; is = is; described = described; texts = texts })

-- ---- read
-- the head of an accept or a decline, led by 101 or 102, and the items after the lead
record Led (m : List ℕ) (n e : ℕ) (xs : Items) : Type 0 where
  filled : items_in (token_at m 0) ≢ 0
  arg : (token_at m 0).arg ≡ suc (count xs)
  lead : up_to 102 (token_at m (token_at m 0).next) ≡ n
  rest : StandAll m (token_at m (token_at m 0).next).next e xs

-- such a head is read
led : {s : List ℕ} {p e w v n : ℕ} {xs : Items} → Stands s p e (Item.array w (Items.more (uint v n) xs)) → n ≤ 102 → Led (drop p s) n (e - p) xs
unfolding count
led {s} {p} {e} {xs = xs} st hi =
    let m = drop p s in
    let o = array_passed (last (sink_first st)) in
    let (zero, arg, rest) = uint_passed o.items in
    record {
      filled = array_items (token_at m 0) (count xs) o.major o.arg;
      arg = o.arg;
      lead = number_is 102 (token_at m (token_at m 0).next) zero (rw arg hi) ∙ arg;
      rest = subst (λ (q : ℕ). StandAll m (token_at m (token_at m 0).next).next q xs) (none_end' o.rest) rest;
    }
  where
    none_end' : {m : List ℕ} {p e : ℕ} → StandAll m p e Items.done → p ≡ e
    none_end' a = omega (arith, none_end a)

-- an accept or a decline is read
pub outcome_read : {s : List ℕ} {p e : ℕ} {x : Item} {outc : Outc} → Stands s p e x → OutcItem x outc
    → (o : Outcome) × (bad : Noted) × (outcome_at s p ≡ part o (e - p) bad None)
unfolding outcome_in reason_in count pick
outcome_read {s} {p} {e} st OutcItem.accept =
    let l = led st (lit≤ tt) in
    let end = none_end l.rest in
    (Outcome.Accept, None, rw (ne_eqb _ _ l.filled, l.lead, l.arg, end))
outcome_read {s} {p} {e} st OutcItem.decline =
    let l = led st (lit≤ tt) in
    let end = none_end l.rest in
    (Outcome.Decline, None, rw (ne_eqb _ _ l.filled, l.lead, l.arg, end))
outcome_read {s} {p} {e} st OutcItem.reason =
    let l = led st (lit≤ tt) in
    let (text, long, rest) = string_passed l.rest in
    let end = none_end rest in
    let m = drop p s in
    let t = token_at m (token_at m (token_at m 0).next).next in (
      Outcome.Reason (span_of (p + t.body) (t.next - t.body)),
      bad_text (content_in m t) (p + t.at),
      rw (ne_eqb _ _ l.filled, l.lead, l.arg, text, end),
    )

-- for readers

-- An accept or a decline is read exactly where an item that is one stands, up to its end.
pub outcome_exactly : (s : List ℕ) (p size : ℕ) → Bytes s
    → ((o : Outcome) × (bad : Noted) × (outcome_at s p ≡ part o size bad None))
    ↔ ((x : Item) × (outc : Outc) × Stands s p (p + size) x × OutcItem x outc)
outcome_exactly s p size b = (
  λ (o, bad, q). there (subst (OutcomeSound s p) q (outcome_sound s p b)),
  λ (x, outc, st, is). let (o, bad, read) = outcome_read st is in (o, bad, rw (add-sub_cancel_left p size) at read),
)
  where
    there : {o : Outcome} {bad : Noted} → OutcomeSound s p (part o size bad None) → (x : Item) × (outc : Outc) × Stands s p (p + size) x × OutcItem x outc
    there (OutcomeSound.got i) = (i.item, i.outc, i.stands, i.is)
