-- Numbers, initiators and texts: the item that stands where its token was read, and the tests that the token of an item
-- passes.
-- Assumes nothing.
use mathlib.Core.Path.{◌≡◌, refl, sym, ap, ap₂, subst}
use mathlib.Core.Logic.{◌⊎◌, inl, inr}
use mathlib.Core.List.{List}
use mathlib.Core.Bool.{Bool, true, false, cond}
use Prim.Native.Nat.{ℕ, ◌+◌, ◌≤◌, ◌<◌}
use native.Mathlib.Omega.{arith}
use lib.ListN.{length}
use lib.Dec.{ltb}
use borrow.Author.Tests.{ltb-false, le-ltb, eq-eqb, ne_eqb}
use Rattle.base.specs.BigEndian.{Bytes}
use Rattle.cbor.specs.declared.token.Token.{Token}
use Rattle.cbor.specs.Token.{token_at, up_to}
use Rattle.cbor.specs.Tree.{Item, Items, count}
use Rattle.options.specs.declared.Span.{Span}
use Rattle.options.specs.Text.{span_of, content_in, content_of}
use Rattle.rfc8990.specs.Cddl.{uint, Number, Initiator}
use Rattle.message_laws.specs.Stands.{Stands, StandAll, Before}
use Rattle.message_laws.proofs.Bridge.{Heading, token_heading, split, string_major, number_token, text_token, array_token}
use Rattle.message_laws.proofs.Pieces.{Some, number_at, content_bytes, text_at, number_here, number_is}
use Rattle.message.specs.Opening.{most_number, is_initiator}
use Rattle.message.proofs.Parts.{initiated}
use Rattle.message_laws.specs.Describes.{NumberIs, InitiatorIs}

-- ---- from tokens to items
-- a number within the limit of sessions, ttls and waiting times
pub record NumberHere (s : List ℕ) (p e n : ℕ) : Type 0 where
  pub is : NumberIs s p e n
  pub low : n ≤ most_number

-- a string, and where its bytes stand
pub record StringHere (text : Bool) (s : List ℕ) (p : ℕ) : Type 0 where
  pub width : ℕ
  pub stands : Stands s p (token_at s p).next (Item.string text width (content_in s (token_at s p)))
  pub long : length (content_in s (token_at s p)) ≡ (token_at s p).arg
  pub held : Before (token_at s p).next (content_in s (token_at s p)) (content_of (token_at s p))

-- a byte string of 4 or 16 bytes, and where they stand
pub record InitiatorHere (s : List ℕ) (p e : ℕ) (span : Span) : Type 0 where
  pub content : List ℕ
  pub is : InitiatorIs s p e span content
  pub size : (length content ≡ 4) ⊎ (length content ≡ 16)

module _ {s : List ℕ} {p : ℕ} (b : Bytes s) where
  heading : (token_at s p).major < 8 → Heading s p (token_at s p)
  heading h = token_heading s p (token_at s p) b refl h

  -- an unsigned number
  pub uint_at : (token_at s p).major ≡ 0 → Some s p (token_at s p).next (λ w. uint w (token_at s p).arg)
  uint_at e = number_at (heading (omega arith)) e

  -- one within the limit
  pub number_at_most : ltb most_number (up_to most_number (token_at s p)) ≡ false → NumberHere s p (token_at s p).next (up_to most_number (token_at s p))
  number_at_most e =
      let small = ltb-false most_number (up_to most_number (token_at s p)) e in
      let i = number_here most_number (token_at s p) b refl small in
      record { is = record { width = i.width; stands = i.stands }; low = small }

  -- a byte string, or a text
  pub string_at : (text : Bool) → (token_at s p).major ≡ cond text 3 2 → StringHere text s p
  string_at text e =
      let (lo, hi) = string_major text in
      let h = heading (omega arith) in
      let (i, long) = text_at h text e (content_bytes s (token_at s p) b) in
      let next : (token_at s p).next ≡ (token_at s p).body + (token_at s p).arg = h.string (rw e lo) (rw e hi) in
      record { width = i.width; stands = i.stands; long = long; held = ap₂ span_of (omega arith) (omega arith) }

  -- an initiator
  pub initiator_at : is_initiator (token_at s p) ≡ true → InitiatorHere s p (token_at s p).next (content_of (token_at s p))
  initiator_at e =
      let (two, size) = initiated (token_at s p) e in
      let h = string_at false two in
      record { content = content_in s (token_at s p); is = record { width = h.width; stands = h.stands; held = h.held }; size = rw h.long size }

-- ---- from items to tokens: the test, and the items after it
-- what passes the test of an initiator
initiates : (t : Token) → t.major ≡ 2 → (t.arg ≡ 4) ⊎ (t.arg ≡ 16) → is_initiator t ≡ true
unfolding is_initiator
initiates t two (inl h) = rw (eq-eqb _ _ two, eq-eqb _ _ h)
initiates t two (inr h) = rw (eq-eqb _ _ two, ne_eqb t.arg 4 (omega arith), eq-eqb _ _ h)

-- an array: its items ys, and the items xs after it
pub record ArrayPassed (s : List ℕ) (p e : ℕ) (ys xs : Items) : Type 0 where
  pub mid : ℕ
  pub major : (token_at s p).major ≡ 4
  pub arg : (token_at s p).arg ≡ count ys
  pub items : StandAll s (token_at s p).next mid ys
  pub rest : StandAll s mid e xs

module _ {s : List ℕ} {p e : ℕ} {xs : Items} where
  -- an unsigned number
  pub uint_passed : {w n : ℕ} → StandAll s p e (Items.more (uint w n) xs)
      → ((token_at s p).major ≡ 0) × ((token_at s p).arg ≡ n) × StandAll s (token_at s p).next e xs
  uint_passed {w} {n} a =
      let c = split a in
      let t = number_token c.first in
      (ap (λ (t : Token). t.major) t, ap (λ (t : Token). t.arg) t, subst (λ (k : ℕ). StandAll s k e xs) (sym (ap (λ (t : Token). t.next) t)) c.rest)

  -- one within the limit
  pub number_passed : {x : Item} {n : ℕ} → StandAll s p e (Items.more x xs) → Number x n
      → (ltb most_number (up_to most_number (token_at s p)) ≡ false) × StandAll s (token_at s p).next e xs
  number_passed a (Number.number small) =
      let (zero, arg, rest) = uint_passed a in
      (le-ltb most_number (up_to most_number (token_at s p)) (rw (number_is most_number (token_at s p) zero (rw arg small), arg) small), rest)

  -- a byte string, or a text
  pub string_passed : {text : Bool} {w : ℕ} {content : List ℕ} → StandAll s p e (Items.more (Item.string text w content) xs)
      → ((token_at s p).major ≡ cond text 3 2) × ((token_at s p).arg ≡ length content) × StandAll s (token_at s p).next e xs
  string_passed a =
      let c = split a in
      let t = (text_token c.first).token in
      (ap (λ (t : Token). t.major) t, ap (λ (t : Token). t.arg) t, subst (λ (k : ℕ). StandAll s k e xs) (sym (ap (λ (t : Token). t.next) t)) c.rest)

  -- an initiator
  pub initiator_passed : {x : Item} {content : List ℕ} → StandAll s p e (Items.more x xs) → Initiator x content
      → (is_initiator (token_at s p) ≡ true) × StandAll s (token_at s p).next e xs
  initiator_passed a (Initiator.initiator size) = let (two, arg, rest) = string_passed a in (initiates (token_at s p) two (rw arg size), rest)

  -- an array
  pub array_passed : {w : ℕ} {ys : Items} → StandAll s p e (Items.more (Item.array w ys) xs) → ArrayPassed s p e ys xs
  array_passed {w} {ys} a =
      let c = split a in
      let t = array_token c.first in
      record {
        mid = c.mid;
        major = ap (λ (t : Token). t.major) t.token;
        arg = ap (λ (t : Token). t.arg) t.token;
        items = subst (λ (k : ℕ). StandAll s k c.mid ys) (sym (ap (λ (t : Token). t.next) t.token)) t.items;
        rest = c.rest;
      }
