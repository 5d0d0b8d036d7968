-- What every kind's laws share: what is said of a shape, the head that makes the items of a message the message, going
-- by a shape's tests, and one item that is the whole.
-- Assumes nothing.
use mathlib.Core.Path.{◌≡◌, sym, ap, ◌∙◌, subst}
use mathlib.Core.Logic.{◌↔◌}
use mathlib.Core.List.{List}
use mathlib.Core.Bool.{Bool, true, false}
use Prim.Native.Nat.{ℕ, suc}
use native.Mathlib.Omega.{arith}
use lib.ListN.{length, drop}
use Rattle.options.specs.Text.{Noted}
use Rattle.std.specs.Prelude.{None}
use Rattle.options.specs.Part.{Read, departs, part}
use Rattle.base.specs.Pick.{pick}
use Rattle.base.specs.BigEndian.{Bytes}
use Rattle.base.proofs.Picks.{pick-case}
use Rattle.cbor.specs.Item.{left_under}
use Rattle.cbor.specs.Tree.{Item, Items, count, encode}
use Rattle.cbor.proofs.Unique.{unique}
use Rattle.rfc8990.specs.Message.{Msg}
use Rattle.rfc8990.specs.Cddl.{uint, MessageItem, Value}
use Rattle.rfc8990.specs.Limits.{TextsGood, NamesGood}
use Rattle.message_laws.specs.Stands.{Stands, StandAll}
use Rattle.message_laws.proofs.Bridge.{join, stands_whole}
use Rattle.message_laws.proofs.Pieces.{head_array}
use Rattle.message.specs.declared.Message.{Message}
use Rattle.message_laws.specs.Describes.{KindIs, Describes}
use Rattle.rfc8990.specs.Accepted.{OneItem}
use Rattle.message_laws.proofs.Bytes.{bytes_encode}

-- how many levels the items of a message have at most
abbrev pub part_levels : ℕ
part_levels = left_under 1

-- the first bytes of s, up to `end`, are the encoding of a message, which m describes where it is the whole; bad is 0
-- exactly if its texts are UTF-8, and long exactly if its names are short
pub record ShapeIs (s : List ℕ) (m : Message) (end : ℕ) (bad long : Noted) : Type 0 where
  pub item : Item
  pub msg : Msg Value
  pub stands : Stands s 0 end item
  pub is : MessageItem item msg
  pub describes : end ≡ length s → Describes s m msg
  pub texts : bad ≡ None ↔ TextsGood msg
  pub names : long ≡ None ↔ NamesGood msg

-- P holds of what a good shape has: its message, where its parts end, its bad text and its long name
pub data IfGood (P : Message → ℕ → Noted → Noted → Type 0) : Read Message → Type 0 where
  bad : {place : ℕ} → IfGood P (departs place)
  good : {m : Message} {end : ℕ} {bad long : Noted} → P m end bad long → IfGood P (part m end bad long)

-- what the tests leave
pub past_case : {P : Message → ℕ → Noted → Noted → Type 0} {t : Bool} (place : ℕ) {x : Read Message} → (t ≡ false → IfGood P x)
    → IfGood P (pick t (departs place) x)
past_case {P} {t} place f = pick-case (IfGood P) t (λ _. IfGood.bad) f

pub held_case : {P : Message → ℕ → Noted → Noted → Type 0} {t : Bool} (place : ℕ) {x : Read Message} → (t ≡ true → IfGood P x)
    → IfGood P (pick t x (departs place))
held_case {P} {t} place f = pick-case (IfGood P) t f (λ _. IfGood.bad)

-- a shape that was read is one of a message
abbrev pub ShapeOk : List ℕ → Read Message → Type 0
ShapeOk s = IfGood (ShapeIs s)

-- a shape that is read, and the tests that lead there
pub data Reads : Read Message → Type 0 where
  reads : {m : Message} {end : ℕ} {bad long : Noted} → Reads (part m end bad long)

pub taken : {t : Bool} {x : Read Message} (y : Read Message) → t ≡ true → Reads x → Reads (pick t x y)
unfolding pick
taken y e r = rw e r

pub skipped : {t : Bool} (x : Read Message) {y : Read Message} → t ≡ false → Reads y → Reads (pick t x y)
unfolding pick
skipped x e r = rw e r

-- s begins with the head of an array of n items, the first of them a kind; the next stands at `at`
pub record Kinded (s : List ℕ) (kind n at : ℕ) : Type 0 where
  pub bytes : Bytes s
  pub is : KindIs s kind at
  pub many : is.many ≡ n

-- items that stand after the kind are the rest of the message
pub built : {s : List ℕ} {kind n at : ℕ} {m : Message} {bad long : Noted} → Kinded s kind n at → (e : ℕ) (xs : Items) (msg : Msg Value)
    → n ≡ suc (count xs) → StandAll s at e xs → ((w v : ℕ) → MessageItem (Item.array w (Items.more (uint v kind) xs)) msg)
    → (e ≡ length s → Describes s m msg) → bad ≡ None ↔ TextsGood msg → long ≡ None ↔ NamesGood msg → ShapeOk s (part m e bad long)
unfolding count
built {kind = kind} k e xs msg counted stand is describes texts names =
    let i = k.is in
    IfGood.good
    (record {
      item = Item.array i.opened.width (Items.more (uint i.width kind) xs);
      msg = msg;
      stands = head_array i.opened (k.many ∙ counted) (join i.stands stand);
      is = is i.opened.width i.width;
      describes = describes;
      texts = texts;
      names = names;
    })

-- ---- one item that is the whole
-- m describes a message that the item is
pub record WholeIs {s : List ℕ} (one : OneItem s) (m : Message) (bad long : Noted) : Type 0 where
  pub msg : Msg Value
  pub is : MessageItem one.item msg
  pub describes : Describes s m msg
  pub texts : bad ≡ None ↔ TextsGood msg
  pub names : long ≡ None ↔ NamesGood msg

module _ {s : List ℕ} (one : OneItem s) where
  -- it stands from the start to the end
  pub stands : Stands s 0 (length s) one.item
  stands = stands_whole one.good one.bytes

  pub one_bytes : Bytes s
  one_bytes = subst Bytes one.bytes (bytes_encode one.item one.good)

  -- an item that stands at the start is no other
  pub only_one : {e : ℕ} {x : Item} → Stands s 0 e x → x ≡ one.item
  only_one {e} {x} a = unique x one.item (drop e s) (drop (length s) s) a.good one.good (sym a.is ∙ stands.is)

  -- a message that stands at the start is the whole
  pub fills : {m : Message} {end : ℕ} {bad long : Noted} → ShapeIs s m end bad long → WholeIs one m bad long
  fills h =
      let same = only_one h.stands in
      record {
        msg = h.msg;
        is = subst (λ (x : Item). MessageItem x h.msg) same h.is;
        describes = h.describes (omega (arith, h.stands.end, ap (λ (x : Item). length (encode x)) same, ap length one.bytes));
        texts = h.texts;
        names = h.names;
      }
