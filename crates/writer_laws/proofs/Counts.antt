-- Where the count that a relay lowers stands in a message, and that the message with another count is one too.
-- Assumes nothing.
use mathlib.Core.Path.{◌≡◌}
use mathlib.Core.List.{List, [], ◌∷◌, ◌++◌, append_assoc, append-nil}
use mathlib.Core.Option.{Option}
use Prim.Native.Nat.{ℕ, suc, ◌+◌, ◌-◌, ◌≤◌}
use native.Mathlib.Omega.{arith}
use lib.ListN.{length, length-append}
use Rattle.cbor.specs.Item.{most_levels}
use Rattle.cbor.specs.Tree.{Item, Items, Right, head_bytes, count, encode, encodes, depth, Good}
use Rattle.options.specs.declared.Span.{Span}
use Rattle.options.specs.declared.objective.Objective.{Objective}
use Rattle.rfc8990.specs.Message.{Loc, Obj, Pair, Msg}
use Rattle.rfc8990.specs.Cddl.{uint, text, array, Number, Initiator, ObjectiveItem, PairItem, PairItems, MessageItem, Value}
use Rattle.message_laws.specs.Stands.{Stands, ArrayHead, ObjectiveIs}
use Rattle.message_laws.proofs.Bridge.{split, only, stands_whole, whole_stands}
use Rattle.message.specs.declared.Message.{Message}
use Rattle.message_laws.specs.Describes.{KindIs, NumberIs, InitiatorIs, Describes}
use Rattle.writer.specs.Lower.{with_count, lower_obj, lower_msg, Lowers}
use Rattle.writer_laws.proofs.Places.{past_head, past_item, opened_place}

-- s is a message msg, whose count n has its head from `at` to `end`; its item, of no more levels than allowed, with any
-- other head there
pub record Hole (s : List ℕ) (at end n : ℕ) (msg : Msg Value) : Type 0 where
  pub item : ℕ → ℕ → Item
  pub before : List ℕ
  pub after : List ℕ
  pub spelt : (w m : ℕ) → encode (item w m) ≡ before ++ (head_bytes 0 w m ++ after)
  pub good : (w m : ℕ) → Right 0 w m → Good (item w m)
  pub shallow : (w m : ℕ) → depth (item w m) ≤ most_levels
  -- the count's own head
  pub width : ℕ
  pub whole : encode (item width n) ≡ s
  pub place : at ≡ length before
  pub ends : end ≡ at + length (head_bytes 0 width n)
  -- the count one lower
  pub limit : n ≤ 255
  pub is : (w : ℕ) → MessageItem (item w (n - 1)) (lower_msg msg)

-- ---- an objective's item, by the head of its count
abbrev counted : ℕ → Item → Item → Items → ℕ → ℕ → Item
counted a name flags vs w n = Item.array a (Items.more name (Items.more flags (Items.more (uint w n) vs)))

-- an objective, with what makes its item one with any other count
data Counted : Item → Obj Value → Type 0 where
  of : {a b c d : ℕ} {vs : Items} {obj : Obj Value} → obj.count ≤ 255
      → ((w n : ℕ) → n ≤ 255 → ObjectiveItem (counted a (text b obj.name) (uint c obj.flags) vs w n) (with_count n obj))
      → Counted (counted a (text b obj.name) (uint c obj.flags) vs d obj.count) obj

-- every objective's item is of that form
counted_is : {x : Item} {obj : Obj Value} → ObjectiveItem x obj → Counted x obj
unfolding with_count
counted_is (ObjectiveItem.bare f c) = Counted.of c (λ w n h. ObjectiveItem.bare f h)
counted_is (ObjectiveItem.valued f c) = Counted.of c (λ w n h. ObjectiveItem.valued f h)

-- a pair's item, by its objective's
data Paired : Item → Pair Value → Type 0 where
  of : {w : ℕ} {x y : Item} {obj : Obj Value} {tag : Option Loc} → Counted x obj
      → ((x' : Item) (obj' : Obj Value) → ObjectiveItem x' obj' → PairItem (array w (x' ∷ y ∷ [])) (obj', tag)) → Paired (array w (x ∷ y ∷ [])) (obj, tag)

-- and every pair's of this one
paired_is : {x : Item} {p : Pair Value} → PairItem x p → Paired x p
paired_is (PairItem.untagged i) = Paired.of (counted_is i) (λ x obj j. PairItem.untagged j)
paired_is (PairItem.tagged i l) = Paired.of (counted_is i) (λ x obj j. PairItem.tagged j l)

-- what stands before an objective's count, and where the count stands
module _ (a : ℕ) (name flags : Item) (vs : Items) where
  front : List ℕ
  front = head_bytes 4 a (suc (suc (suc (count vs)))) ++ (encode name ++ encode flags)

  -- the item's bytes around its count
  counted_spelt : (w n : ℕ) → encode (counted a name flags vs w n) ≡ front ++ (head_bytes 0 w n ++ encodes vs)
  unfolding front encode count
  counted_spelt w n = simp append_assoc

  -- how many stand before it
  length_front : length front ≡ length (head_bytes 4 a (suc (suc (suc (count vs))))) + length (encode name) + length (encode flags)
  unfolding front
  length_front = simp length-append (omega arith)

-- the count stands where the answer says
count_place : {s : List ℕ} {p e e' a w : ℕ} {name flags : Item} {vs : Items} {o : Objective} {obj : Obj Value}
    → Stands s p e (counted a name flags vs w obj.count) → ObjectiveIs s p e' o obj
    → (o.count_at ≡ p + length (front a name flags vs)) × (o.value.at ≡ o.count_at + length (head_bytes 0 w obj.count))
unfolding encode count
count_place {a = a} {name = name} {flags} {vs} x o =
    let (b₀, e₀) = past_head x o.opened in
    let (b₁, e₁) = past_item b₀ o.name_item in
    let (b₂, e₂) = past_item b₁ o.flags_item in
    let (b₃, e₃) = past_item b₂ o.count_item in
    (omega (arith, length_front a name flags vs), e₃)

-- ---- the messages
-- one less is within the limit
one_less : {n : ℕ} → n ≤ 255 → n - 1 ≤ 255
one_less h = omega arith

-- a Discovery's count
discovery_hole : {s : List ℕ} {w k p q r e session : ℕ} {i : Span} {from : List ℕ} {y z x : Item} {o : Objective} {obj : Obj Value}
    → KindIs s 1 p → NumberIs s p q session → InitiatorIs s q r i from → ObjectiveIs s r e o obj → Number y session → Initiator z from → Counted x obj
    → Stands s 0 (length s) (array w (uint k 1 ∷ y ∷ z ∷ x ∷ [])) → depth (array w (uint k 1 ∷ y ∷ z ∷ x ∷ [])) ≤ most_levels
    → Hole s o.count_at o.value.at o.count (Msg.discovery session from obj)
unfolding encode count depth lower_msg lower_obj with_count
discovery_hole {w = w} {k} {y = y} {z} {o = o} kind number initiator objective sy sz (Counted.of {a} {b} {c} {d} {vs} {obj} limit other) all deep =
    let (b₃, e₃) = opened_place all kind number initiator in
    let (at, end) = count_place (only b₃) objective in
    let g = all.good in
    let og = g.1.1.1.1.0 in
    let name = text b obj.name in
    let flags = uint c obj.flags in
    let same : o.count ≡ obj.count = objective.count in
    record {
      item = λ v n. array w (uint k 1 ∷ y ∷ z ∷ counted a name flags vs v n ∷ []);
      before = head_bytes 4 w 4 ++ (encode (uint k 1) ++ (encode y ++ (encode z ++ front a name flags vs)));
      after = encodes vs;
      spelt = λ v n. rw (counted_spelt a name flags vs v n) (simp (append_assoc, append-nil));
      good = λ v n r. (g.0, (g.1.0, (g.1.1.0, (g.1.1.1.0, ((og.0, (og.1.0, (og.1.1.0, (r, og.1.1.1.1)))), tt)))));
      shallow = λ v n. deep;
      width = d;
      whole = rw same (whole_stands all);
      place = simp length-append (omega arith);
      ends = rw same end;
      limit = omega arith;
      is = λ v. rw same (MessageItem.discovery sy sz (other v (obj.count - 1) (one_less limit)));
    }

-- a Flood's first count
flood_hole : {s : List ℕ} {w k p q r session ttl t a e : ℕ} {i : Span} {from : List ℕ} {y z v x : Item} {xs : Items} {o : Objective} {obj : Obj Value}
    {loc : Option Loc} {ps : List (Pair Value)}
    → KindIs s 9 p → NumberIs s p q session → InitiatorIs s q r i from → NumberIs s r t ttl → ArrayHead s t a 2 → ObjectiveIs s a e o obj
    → Number y session → Initiator z from → Number v ttl → Paired x (obj, loc) → PairItems xs ps
    → Stands s 0 (length s) (Item.array w (Items.more (uint k 9) (Items.more y (Items.more z (Items.more v (Items.more x xs))))))
    → depth (Item.array w (Items.more (uint k 9) (Items.more y (Items.more z (Items.more v (Items.more x xs)))))) ≤ most_levels
    → Hole s o.count_at o.value.at o.count (Msg.flood session from ttl ((obj, loc) ∷ ps))
unfolding encode count depth lower_msg lower_obj
flood_hole {s} {w} {k} {y = y} {z} {v} {xs = xs} {o} kind number initiator live opened objective sy sz sv
    (Paired.of {w = u} {y = tag} (Counted.of {a} {b} {c} {d} {vs} {obj} limit other) pair) rest all deep =
    let (b₃, e₃) = opened_place all kind number initiator in
    let (b₄, e₄) = past_item b₃ live.stands in
    let (b₅, e₅) = past_head (split b₄).first opened in
    let x = (split b₅).first in
    let (at, end) = count_place x objective in
    let name = text b obj.name in
    let flags = uint c obj.flags in
    let g = all.good in
    let pg = g.1.1.1.1.1.0 in
    let og = pg.1.0 in
    let same : o.count ≡ obj.count = objective.count in
    record {
      item = λ j n.
          Item.array w (Items.more (uint k 9) (Items.more y (Items.more z (Items.more v (Items.more (array u (counted a name flags vs j n ∷ tag ∷ [])) xs)))));
      before = head_bytes 4 w (suc (suc (suc (suc (suc (count xs))))))
          ++ (encode (uint k 9) ++ (encode y ++ (encode z ++ (encode v ++ (head_bytes 4 u 2 ++ front a name flags vs)))));
      after = encodes vs ++ (encode tag ++ encodes xs);
      spelt = λ j n. rw (counted_spelt a name flags vs j n) (simp (append_assoc, append-nil));
      good = λ j n r. (
        g.0,
        (
          g.1.0,
          (
            g.1.1.0,
            (g.1.1.1.0, (g.1.1.1.1.0, ((pg.0, ((og.0, (og.1.0, (og.1.1.0, (r, og.1.1.1.1)))), pg.1.1)), g.1.1.1.1.1.1))),
          ),
        ),
      );
      shallow = λ j n. deep;
      width = d;
      whole = rw same (whole_stands all);
      place = simp length-append (omega arith);
      ends = rw same end;
      limit = omega arith;
      is = λ j. rw same (MessageItem.flood sy sz sv (PairItems.more (pair _ _ (other j (obj.count - 1) (one_less limit))) rest));
    }

-- a message that was read, and the objective whose count a relay lowers
pub hole : {s : List ℕ} {m : Message} {msg : Msg Value} {x : Item} {o : Objective} → Lowers m o → Describes s m msg → MessageItem x msg → Good x
    → depth x ≤ most_levels → encode x ≡ s
    → Hole s o.count_at o.value.at o.count msg
hole Lowers.discovery (Describes.discovery kind number initiator objective) (MessageItem.discovery sy sz i) g deep e =
    discovery_hole kind number initiator objective sy sz (counted_is i) (stands_whole g e) deep
hole Lowers.flood (Describes.flood kind number initiator live series pair) (MessageItem.flood sy sz sv (PairItems.more i rest)) g deep e =
    flood_hole kind number initiator live pair.opened pair.objective sy sz sv (paired_is i) rest (stands_whole g e) deep
