-- The eleven kinds together: what `examined` answers of bytes that are one item.
-- Assumes nothing.
use mathlib.Core.Path.{◌≡◌, refl, ap, ◌∙◌, subst}
use mathlib.Core.Logic.{◌⊎◌, inl, inr, ◌≢◌}
use mathlib.Core.List.{List, ◌++◌, append_assoc}
use mathlib.Core.Bool.{true, false}
use Prim.Native.Nat.{ℕ, suc, ◌/◌, ◌≤◌, ◌<◌}
use native.Mathlib.Decide.{dec_lt}
use native.Mathlib.Omega.{arith}
use lib.ListN.{length, drop}
use lib.Dec.{ltb, eqb, lit<}
use borrow.Author.Tests.{ltb-true, ltb-false, eqb-true, eqb-false, ne_eqb, eq-eqb, lt-ltb}
use Rattle.options.specs.Text.{Noted}
use Rattle.options.specs.Part.{Read, departs, part}
use Rattle.base.specs.Pick.{pick}
use Rattle.base.proofs.Picks.{pick-case}
use Rattle.cbor.specs.declared.token.Token.{Token}
use Rattle.cbor.specs.Item.{most_levels}
use Rattle.cbor.specs.Token.{token_at, items_in}
use Rattle.cbor.specs.Tree.{Item, Items, Right, Good, head_bytes, count, encode, encodes, depth}
use Rattle.cbor.proofs.Tokens.{is_array}
use Rattle.rfc8990.specs.Message.{Msg}
use Rattle.rfc8990.specs.Cddl.{uint, MessageItem, Value}
use Rattle.message_laws.specs.Stands.{Stands, StandAll}
use Rattle.message_laws.proofs.Bridge.{headed_major, token_heading, number_token, split, last}
use Rattle.message_laws.proofs.Pieces.{array_items, array_head}
use Rattle.message.specs.declared.Message.{Message}
use Rattle.message.specs.declared.Examined.{Examined}
use Rattle.refusal.specs.declared.Refusal.TheVariants as R
use Rattle.refusal.specs.declared.Refused.{Refused}
use Rattle.refusal.specs.Refusal.{refused}
use Rattle.std.specs.Prelude.{Result}
use Rattle.message.specs.Shape.{exchange_at}
use Rattle.message.specs.Examined.{by_kind, judged_shape, examined}
use Rattle.rfc8990.specs.Accepted.{OneItem}
use Rattle.rfc8990.specs.Refusals.{UnknownKind}
use Rattle.message_laws.proofs.Whole.{IfGood, ShapeOk, Reads, Kinded, WholeIs, stands, one_bytes, fills}
use Rattle.message_laws.proofs.Heads.{uint_at, uint_passed, array_passed}
use Rattle.message_laws.proofs.Plain.{noop_sound, noop_complete, wait_sound, wait_complete, invalid_sound}
use Rattle.message_laws.proofs.Plain.{invalid_complete, invalid_with_complete, end_sound, end_complete}
use Rattle.message_laws.proofs.Exchange.{discovery_sound, discovery_complete, Exchange, exchange_sound, exchange_complete}
use Rattle.message_laws.proofs.Response.{response_sound, response_complete}
use Rattle.message_laws.proofs.Flood.{flood_sound, flood_complete}

-- ---- from what was read to the message
-- a known kind that isn't 99
low : {k : ℕ} → (k ≤ 9) ⊎ (k ≡ 99) → k ≢ 99 → k ≤ 9
low (inl h) other = h
low (inr h) other = absurd (other h)

-- what is read of a known kind is a message of that kind
shape_sound : {s : List ℕ} {kind n at : ℕ} → Kinded s kind n at → (kind ≤ 9) ⊎ (kind ≡ 99) → ShapeOk s (by_kind s kind n at)
unfolding by_kind
shape_sound {s} {kind} {n} {at} k known =
    pick-case Ok _ (λ e. noop_sound (of_kind_lem 0 (eqb-true kind 0 e)))
    (λ e₀. pick-case Ok _ (λ e. discovery_sound (of_kind_lem 1 (eqb-true kind 1 e)))
    (λ e₁. pick-case Ok _ (λ e. response_sound (of_kind_lem 2 (eqb-true kind 2 e)))
    (λ e₂. pick-case Ok _ (λ e. end_sound (of_kind_lem 6 (eqb-true kind 6 e)))
    (λ e₆. pick-case Ok _ (λ e. wait_sound (of_kind_lem 7 (eqb-true kind 7 e)))
    (λ e₇. pick-case Ok _ (λ e. flood_sound (of_kind_lem 9 (eqb-true kind 9 e)))
    (λ e₉. pick-case Ok _ (λ e. invalid_sound (of_kind_lem 99 (eqb-true kind 99 e)))
    (λ e₉₉. exchange (omega (arith, eqb-false kind 0 e₀, eqb-false kind 1 e₁, eqb-false kind 2 e₂))
    (omega (arith, low known (eqb-false kind 99 e₉₉), eqb-false kind 9 e₉)) (λ six. omega (arith, eqb-false kind 6 e₆, eqb-false kind 7 e₇)))))))))
  where
    Ok : Read Message → Type 0
    Ok = ShapeOk s

    of_kind_lem : (kind' : ℕ) → kind ≡ kind' → Kinded s kind' n at
    of_kind_lem kind' e = subst (λ (v : ℕ). Kinded s v n at) e k

    exchange : 3 ≤ kind → kind ≤ 8 → (6 ≤ kind → 8 ≤ kind) → ShapeOk s (exchange_at s kind n at)
    exchange lo hi high =
        elim (dec_lt kind 4) [
          | yes l ↦ let e : kind ≡ 3 = omega arith in exchange_sound {msg = Msg.request_negotiation} (rw e Exchange.request_negotiation) k
          | no l ↦
              elim (dec_lt kind 5) [
                | yes l' ↦ let e : kind ≡ 4 = omega arith in exchange_sound {msg = Msg.request_synchronization} (rw e Exchange.request_synchronization) k
                | no l' ↦
                    elim (dec_lt kind 6) [
                      | yes l'' ↦ let e : kind ≡ 5 = omega arith in exchange_sound {msg = Msg.negotiate} (rw e Exchange.negotiate) k
                      | no l'' ↦ let e : kind ≡ 8 = omega (arith, high (omega arith)) in exchange_sound {msg = Msg.synch} (rw e Exchange.synch) k
                    ]
              ]
        ]

-- ---- which items a kind can lead
-- an item by its head's major type
data Headed : ℕ → Item → Type 0 where
  unsigned : {w n : ℕ} → Headed 0 (uint w n)
  negative : {w n : ℕ} → Headed 1 (Item.number true w n)
  bytes : {w : ℕ} {bs : List ℕ} → Headed 2 (Item.string false w bs)
  text : {w : ℕ} {bs : List ℕ} → Headed 3 (Item.string true w bs)
  array : {w : ℕ} {xs : Items} → Headed 4 (Item.array w xs)
  map : {w : ℕ} {xs : Items} → Headed 5 (Item.map w xs)
  tagged : {w n : ℕ} {x : Item} → Headed 6 (Item.tagged w n x)
  simple : {w n : ℕ} → Headed 7 (Item.simple w n)

-- an item that stands where a token is read has its major type
headed : {s : List ℕ} {p e : ℕ} (k : ℕ) (x : Item) → Stands s p e x → (token_at s p).major ≡ k → k < 8 → Headed k x
unfolding encode
headed {s} {p} {e} k x a same low = by x a.good a.is
  where
    of : {m w n : ℕ} (r : List ℕ) → Right m w n → drop p s ≡ head_bytes m w n ++ r → m ≡ k
    of r right is = headed_major s p _ _ _ r right is (omega arith) ∙ same

    by : (x : Item) → Good x → drop p s ≡ encode x ++ drop e s → Headed k x
    by (Item.number true w n) g is = rw (← of _ g is) Headed.negative
    by (Item.number false w n) g is = rw (← of _ g is) Headed.unsigned
    by (Item.string true w bs) g is = rw (← of _ g.0 (is ∙ append_assoc (head_bytes 3 w (length bs)) bs (drop e s))) Headed.text
    by (Item.string false w bs) g is = rw (← of _ g.0 (is ∙ append_assoc (head_bytes 2 w (length bs)) bs (drop e s))) Headed.bytes
    by (Item.array w xs) g is = rw (← of _ g.0 (is ∙ append_assoc (head_bytes 4 w (count xs)) (encodes xs) (drop e s))) Headed.array
    by (Item.map w xs) g is = rw (← of _ g.0 (is ∙ append_assoc (head_bytes 5 w (count xs / 2)) (encodes xs) (drop e s))) Headed.map
    by (Item.tagged w n x) g is = rw (← of _ g.0 (is ∙ append_assoc (head_bytes 6 w n) (encode x) (drop e s))) Headed.tagged
    by (Item.simple w n) g is = rw (← of _ g is) Headed.simple

-- an array with items, led by an unsigned number that is no kind, as its heads say
record UnknownLead (s : List ℕ) : Type 0 where
  filled : items_in (token_at s 0) ≡ 0 → ⊥
  number : (token_at s (token_at s 0).next).major ≡ 0
  high : 9 < (token_at s (token_at s 0).next).arg
  other : (token_at s (token_at s 0).next).arg ≢ 99

-- an item that is so led is of no known kind
unknown_there : {s : List ℕ} {e : ℕ} {x : Item} → Stands s 0 e x → UnknownLead s → UnknownKind x
unfolding count items_in pick
unknown_there {s} {e} {x} a u = array_led (headed 4 x a (is_array (token_at s 0) u.filled) (lit< tt)) a
  where
    lead : {w : ℕ} {y : Item} {ys : Items} {q : ℕ} → Headed 0 y → Stands s (token_at s 0).next q y → UnknownKind (Item.array w (Items.more y ys))
    lead (Headed.unsigned {n = n}) a = let arg = ap (λ (t : Token). t.arg) (number_token a) in
        UnknownKind.unknown {n = n} (rw (← arg) u.high) (rw (← arg) u.other)

    array_led : {x : Item} → Headed 4 x → Stands s 0 e x → UnknownKind x
    array_led (Headed.array {xs = Items.done}) a = let t = array_passed (last a) in absurd (u.filled (rw (t.major, t.arg)))
    array_led (Headed.array {xs = Items.more y ys}) a = let c = split (array_passed (last a)).items in
        lead (headed 0 y c.first u.number (lit< tt)) c.first

-- ---- the answers
module _ {s : List ℕ} (one : OneItem s) where
  -- the head of an array, and a kind after it
  kinded : (items_in (token_at s 0) ≡ 0 → ⊥) → (token_at s (token_at s 0).next).major ≡ 0
      → Kinded s (token_at s (token_at s 0).next).arg (token_at s 0).arg (token_at s (token_at s 0).next).next
  kinded filled number =
      let four = is_array (token_at s 0) filled in
      let h = token_heading s 0 (token_at s 0) (one_bytes one) refl (omega arith) in
      let i = uint_at (one_bytes one) number in
      record { bytes = one_bytes one; is = record { many = _; from = _; width = i.width; opened = array_head h four; stands = i.stands }; many = refl }

  -- an item of an unknown kind, a departure, or a message that is described
  pub examined_case : (P : Result Examined Refused → Type 0) → ((place : ℕ) → UnknownKind one.item → P (refused R.UnknownKind place))
      → ((place : ℕ) → P (refused R.BadShape place))
      → ((m : Message) (end : ℕ) (bad long : Noted) → WholeIs one m bad long → P (judged_shape (part m end bad long))) → P (examined s)
  unfolding examined judged_shape
  examined_case P unknown departs reads =
      let a = token_at s 0 in
      let k = token_at s a.next in
      pick-case P _ (λ _. departs _)
      (λ e₁. pick-case P _
      (λ e₂.
      let filled = eqb-false (items_in a) 0 e₁ in
      let number = eqb-true k.major 0 e₂ in
      let at-kind = kinded filled number in
      pick-case P _
      (λ e₃. pick-case P _ (λ e₄. shape (shape_sound at-kind (inr (eqb-true k.arg 99 e₄))))
      (λ e₄. unknown _
      (unknown_there (stands one) (record { filled = filled; number = number; high = ltb-true 9 k.arg e₃; other = eqb-false k.arg 99 e₄ }))))
      (λ e₃. shape (shape_sound at-kind (inl (ltb-false 9 k.arg e₃)))))
      (λ _. departs _))
    where
      shape : {r : Read Message} → ShapeOk s r → P (judged_shape r)
      shape (IfGood.bad {place}) = departs place
      shape (IfGood.good {m} {end} {bad} {long} i) = reads m end bad long (fills one i)

-- an array that a number leads, and what `examined` reads of it
record Led (s : List ℕ) (kind : ℕ) (xs : Items) : Type 0 where
  at : ℕ
  place : ℕ
  end : ℕ
  stand : StandAll s at end xs
  is : let read = judged_shape (by_kind s kind (suc (count xs)) at) in examined s ≡ pick (ltb 9 kind) (pick (eqb kind 99) read (refused R.UnknownKind place))
      read

-- such an array is so read
led : {s : List ℕ} {w v kind : ℕ} {xs : Items} → Stands s 0 (length s) (Item.array w (Items.more (uint v kind) xs)) → Led s kind xs
unfolding examined count pick
led {s} {kind = kind} {xs} a =
    let t = array_passed (last a) in
    let (number, arg, stand) = uint_passed t.items in
    record {
      at = (token_at s (token_at s 0).next).next;
      place = (token_at s (token_at s 0).next).at;
      end = t.mid;
      stand = stand;
      is = rw (
        ne_eqb (items_in (token_at s 0)) 0 (array_items (token_at s 0) (count xs) t.major t.arg),
        eq-eqb (token_at s (token_at s 0).next).major 0 number,
        arg,
        t.arg,
      );
    }

-- an item of no known kind
pub unknown_complete : {s : List ℕ} {x : Item} → Stands s 0 (length s) x → UnknownKind x → (place : ℕ) × (examined s ≡ refused R.UnknownKind place)
unfolding pick
unknown_complete a (UnknownKind.unknown {n = n} high other) = let l = led a in (l.place, l.is ∙ rw (lt-ltb 9 n high, ne_eqb n 99 other))

-- a message
pub record MessageReads (s : List ℕ) : Type 0 where
  pub message : Message
  pub end : ℕ
  pub bad : Noted
  pub long : Noted
  pub is : examined s ≡ judged_shape (part message end bad long)

-- as its shape is read
reads_of : {s : List ℕ} (r : Read Message) → examined s ≡ judged_shape r → Reads r → MessageReads s
reads_of _ e (Reads.reads {m} {end} {bad} {long}) = record { message = m; end = end; bad = bad; long = long; is = e }

-- each message is read
pub shape_complete : {s : List ℕ} {x : Item} {msg : Msg Value} → Stands s 0 (length s) x → depth x ≤ most_levels → MessageItem x msg → MessageReads s
unfolding by_kind pick count depth
shape_complete a d MessageItem.noop = let l = led a in reads_of _ l.is (noop_complete l.at)
shape_complete a d (MessageItem.discovery i j o) = let l = led a in reads_of _ l.is (discovery_complete l.stand i j o (omega arith))
shape_complete a d (MessageItem.response i j t is) = let l = led a in reads_of _ l.is (response_complete l.stand i j t is (omega arith) (omega arith))
shape_complete a d (MessageItem.request_negotiation i o) = let l = led a in reads_of _ l.is (exchange_complete 3 l.stand i o (omega arith))
shape_complete a d (MessageItem.request_synchronization i o) = let l = led a in reads_of _ l.is (exchange_complete 4 l.stand i o (omega arith))
shape_complete a d (MessageItem.negotiate i o) = let l = led a in reads_of _ l.is (exchange_complete 5 l.stand i o (omega arith))
shape_complete a d (MessageItem.end i o) = let l = led a in reads_of _ l.is (end_complete l.stand i o)
shape_complete a d (MessageItem.wait i t) = let l = led a in reads_of _ l.is (wait_complete l.stand i t)
shape_complete a d (MessageItem.synch i o) = let l = led a in reads_of _ l.is (exchange_complete 8 l.stand i o (omega arith))
shape_complete a d (MessageItem.flood i j t is) = let l = led a in reads_of _ l.is (flood_complete l.stand i j t is (omega arith) (omega arith))
shape_complete a d (MessageItem.invalid i) = let l = led a in reads_of _ l.is (invalid_complete l.stand i)
shape_complete a d (MessageItem.invalid_with i) = let l = led a in reads_of _ l.is (invalid_with_complete l.stand i (omega arith))
