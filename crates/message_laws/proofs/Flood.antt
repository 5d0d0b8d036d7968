-- Flood: an opening and pairs. The loop reads exactly the pairs that stand there, and notes the first bad text and the
-- first long name.
-- Assumes nothing.
use mathlib.Core.Path.{◌≡◌, refl, sym, ap, subst}
use mathlib.Core.Logic.{◌↔◌}
use mathlib.Core.List.{List, [], ◌∷◌, map, flat_map}
use Prim.Native.Nat.{ℕ, zero, suc, ◌+◌, ◌-◌, ◌≤◌}
use native.Mathlib.Omega.{arith}
use lib.ListN.{length}
use borrow.Author.Tests.{ltb-false, le-ltb}
use Rattle.options.specs.Text.{Noted}
use Rattle.std.specs.Prelude.{None}
use Rattle.std.specs.Prelude.{Ok, Err}
use Rattle.options.specs.Part.{Read, departs}
use Rattle.message.specs.Opening.{WithNext}
use Rattle.options.specs.Pair.{paired}
use Rattle.message.specs.Sequence.{PairsRead}
use Rattle.message.specs.Sequence.{pairs_ended}
use Rattle.base.specs.BigEndian.{Bytes}
use Rattle.base.specs.Lists.{Every}
use Rattle.cbor.specs.Tree.{Item, Items, count, depth, depths}
use Rattle.options.specs.declared.objective.Objective.{Objective}
use Rattle.options.specs.Pair.{PairTag}
use Rattle.options.specs.declared.pair.Pair as P
use Rattle.options.specs.Text.{first_of}
use Rattle.options.specs.Pair.{pair_at}
use Rattle.rfc8990.specs.Message.{Pair, Msg}
use Rattle.rfc8990.specs.Cddl.{Number, Initiator, PairItems, MessageItem, Value}
use Rattle.rfc8990.specs.Limits.{Utf8, Short, pair_texts, pair_name, texts_of, names_of}
use Rattle.message_laws.specs.Stands.{StandAll, PairStands}
use Rattle.message_laws.proofs.Bridge.{join, none, split, stands_within}
use Rattle.message_laws.proofs.Pair.{pair_sound, pair_read}
use Rattle.message.specs.declared.opening.Opening.{Opening}
use Rattle.message.specs.Sequence.{pair_then, pairs_from}
use Rattle.message.specs.Flood.{flooded_by, flooded_of, flooded_at, flood_by, flood_at}
use Rattle.message_laws.specs.Describes.{Describes}
use Rattle.message_laws.proofs.Noted.{single, none_noted, then_noted, more_noted}
use Rattle.message_laws.proofs.Whole.{part_levels, IfGood, ShapeOk, past_case, Reads, skipped, Kinded, built}
use Rattle.message_laws.proofs.Opening.{OpeningHere, OpeningOk, opening_sound, opening_complete}

-- ---- what is read stands there
-- pairs, and what is noted of them
record PairsHere (s : List ℕ) (p n : ℕ) (bad long : Noted) (end : ℕ) (bad' long' : Noted) : Type 0 where
  items : Items
  pairs : List (Pair Value)
  are : PairItems items pairs
  stand : StandAll s p end items
  counted : n ≡ count items
  texts : bad' ≡ None ↔ (bad ≡ None) × Every Utf8 (flat_map pair_texts pairs)
  names : long' ≡ None ↔ (long ≡ None) × Every Short (map pair_name pairs)

-- the answer of the loop
data PairsOk (s : List ℕ) (p n : ℕ) (bad long : Noted) : PairsRead → Type 0 where
  refused : {place : ℕ} → PairsOk s p n bad long (departs place)
  some : {end : ℕ} {bad' long' : Noted} → PairsHere s p n bad long end bad' long' → PairsOk s p n bad long (pairs_ended end bad' long')

-- one pair, and then others
one_more_lem : {s : List ℕ} {p e n : ℕ} {bad long bad' long' : Noted} {o : Objective} {t : PairTag} {r : PairsRead} → PairStands s p e o t bad' long'
    → PairsOk s e n (first_of bad bad') (first_of long long') r → PairsOk s p (suc n) bad long r
unfolding count flat_map
one_more_lem i PairsOk.refused = PairsOk.refused
one_more_lem i (PairsOk.some h) =
    PairsOk.some
    (record {
      items = Items.more i.item h.items;
      pairs = i.pair ∷ h.pairs;
      are = PairItems.more i.is h.are;
      stand = join i.stands h.stand;
      counted = ap suc h.counted;
      texts = more_noted Utf8 (pair_texts i.pair) (flat_map pair_texts h.pairs) i.texts h.texts;
      names = more_noted Short (i.pair.0.name ∷ []) (map pair_name h.pairs) (single i.names) h.names;
    })

module _ {s : List ℕ} (b : Bytes s) where
  -- the next pair, and then others
  next_sound : {p n : ℕ} {bad long : Noted} → ((p' : ℕ) (bad' long' : Noted) → p' ≤ length s → PairsOk s p' n bad' long' (pairs_from s n p' bad' long'))
      → (x : Read P.Pair) → pair_at s p ≡ x → PairsOk s p (suc n) bad long (pair_then (pairs_from s n) p bad long x)
  unfolding pair_then
  next_sound go (Err d) e = PairsOk.refused
  next_sound {p} {bad = bad} {long} go (Ok r) e =
      let i = pair_sound s p r.value.objective r.value.tag r.size r.bad r.long b e in
      one_more_lem i (go (p + r.size) (first_of bad r.bad) (first_of long r.long) (stands_within i.stands))

  -- pairs stand one after the other where they are read
  pairs_sound : (n p : ℕ) (bad long : Noted) → p ≤ length s → PairsOk s p n bad long (pairs_from s n p bad long)
  unfolding pairs_from count flat_map
  pairs_sound zero p bad long low =
      PairsOk.some (record { items = Items.done; pairs = []; are = PairItems.empty; stand = none low; counted = refl; texts = none_noted; names = none_noted })
  pairs_sound (suc n) p bad long low = next_sound (pairs_sound n) _ refl

module _ {s : List ℕ} {n at next : ℕ} (k : Kinded s 9 n at) {opening : Opening} (h : OpeningHere s at next opening) {parts : ℕ} (counted : n ≡ 4 + parts)
    (some : 1 ≤ parts) where
  -- the first pair and the others are the message
  flooded_by_sound : {e : ℕ} {bad long : Noted} {first : P.Pair} → PairStands s next e first.objective first.tag bad long → (x : PairsRead)
      → PairsOk s e (parts - 1) bad long x
      → ShapeOk s (flooded_by opening first (record { at = next; many = parts }) x)
  unfolding flooded_by count texts_of names_of flat_map
  flooded_by_sound i _ PairsOk.refused = IfGood.bad
  flooded_by_sound i _ (PairsOk.some r) =
      let pairs = PairItems.more i.is r.are in
      let stand = join i.stands r.stand in
      built k _ _ (Msg.flood _ h.initiator.content _ (i.pair ∷ r.pairs)) (omega (arith, r.counted))
      (join h.session.is.stands (join h.initiator.is.stands (join h.ttl.is.stands stand)))
      (λ w v. MessageItem.flood (Number.number h.session.low) (Initiator.initiator h.initiator.size) (Number.number h.ttl.low) pairs)
      (λ full. Describes.flood k.is h.session.is h.initiator.is h.ttl.is
      (record {
        items = Items.more i.item r.items;
        stand = subst (λ (e : ℕ). StandAll s next e (Items.more i.item r.items)) full stand;
        many = omega (arith, r.counted);
        are = pairs;
      }) i.described)
      (then_noted Utf8 (pair_texts i.pair) (flat_map pair_texts r.pairs) i.texts r.texts)
      (then_noted Short (i.pair.0.name ∷ []) (map pair_name r.pairs) (single i.names) r.names)

  -- the first pair
  flooded_of_sound : (x : Read P.Pair) → pair_at s next ≡ x → ShapeOk s (flooded_of s opening parts next x)
  unfolding flooded_of
  flooded_of_sound (Err d) e = IfGood.bad
  flooded_of_sound (Ok r) e =
      let i = pair_sound s next r.value.objective r.value.tag r.size r.bad r.long k.bytes e in
      flooded_by_sound i _ (pairs_sound k.bytes (parts - 1) (next + r.size) r.bad r.long (stands_within i.stands))

-- after the opening
flood_by_sound : {s : List ℕ} {n at : ℕ} → Kinded s 9 n at → 5 ≤ n → (x : WithNext Opening) → OpeningOk s at x → ShapeOk s (flood_by s n x)
unfolding flood_by flooded_at
flood_by_sound k five _ OpeningOk.bad = IfGood.bad
flood_by_sound k five _ (OpeningOk.got h) = flooded_of_sound k h (omega arith) (omega arith) _ refl

-- what is read is a Flood
pub flood_sound : {s : List ℕ} {n at : ℕ} → Kinded s 9 n at → ShapeOk s (flood_at s n at)
unfolding flood_at
flood_sound {n = n} k = past_case _ (λ e. flood_by_sound k (ltb-false n 5 e) _ (opening_sound k.bytes))

-- ---- what stands there is read
-- pairs are read, whatever is noted
abbrev Run : List ℕ → ℕ → ℕ → Noted → Noted → Type 0
Run s n p bad long = (end : ℕ) × (bad' : Noted) × (long' : Noted) × (pairs_from s n p bad long ≡ pairs_ended end bad' long')

-- one pair is passed, and then others
passed : (s : List ℕ) (p n : ℕ) (bad long : Noted) {size m : ℕ} {bad' long' : Noted} {o : Objective} {t : PairTag} → pair_at s p ≡ paired o t size bad' long'
    → p + size ≡ m
    → Run s n m (first_of bad bad') (first_of long long') → Run s (suc n) p bad long
unfolding pairs_from pair_then
passed s p n bad long e step (end, bad'', long'', rest) = (end, bad'', long'', rw (e, step) rest)

-- pairs that stand one after the other are read
pairs_complete : {s : List ℕ} {p e : ℕ} {xs : Items} {ps : List (Pair Value)} → StandAll s p e xs → depths xs ≤ part_levels → PairItems xs ps
    → (bad long : Noted) → Run s (count xs) p bad long
unfolding count depth pairs_from
pairs_complete {p = p} a d PairItems.empty bad long = (p, bad, long, refl)
pairs_complete {s} {p} a d (PairItems.more {xs = xs} i is) bad long =
    let c = split a in
    let (o, t, bad', long', same, _) = pair_read c.first (omega arith) i in
    passed s p (count xs) bad long same (omega (arith, c.first.end))
    (pairs_complete {p = (split a).mid} c.rest (omega arith) is (first_of bad bad') (first_of long long'))

-- the first pair, and then others
first_passed : (s : List ℕ) (p parts : ℕ) (opening : Opening) {n m size : ℕ} {bad long : Noted} {o : Objective} {t : PairTag} → parts - 1 ≡ n → p + size ≡ m
    → pair_at s p ≡ paired o t size bad long → Run s n m bad long → Reads (flooded_at s opening parts p)
unfolding flooded_at flooded_of flooded_by
first_passed s p parts opening less step e (end, bad', long', rest) = rw (e, less, step, rest) Reads.reads

-- after the opening
flooded_complete : {s : List ℕ} {p e parts : ℕ} {xs : Items} {pair : Pair Value} {ps : List (Pair Value)} (opening : Opening) → StandAll s p e xs
    → depths xs ≤ part_levels → parts ≡ count xs → PairItems xs (pair ∷ ps) → Reads (flooded_at s opening parts p)
unfolding count depth
flooded_complete {s} {p} {parts = parts} opening a d counted (PairItems.more {xs = xs} i is) =
    let c = split a in
    let (o, t, bad, long, same, _) = pair_read c.first (omega arith) i in
    first_passed s p parts opening {n = count xs} {m = c.mid} (omega arith) (omega (arith, c.first.end)) same
    (pairs_complete {p = (split a).mid} c.rest (omega arith) is bad long)

-- there is a pair
some_pairs : {xs : Items} {pair : Pair Value} {ps : List (Pair Value)} → PairItems xs (pair ∷ ps) → 1 ≤ count xs
unfolding count
some_pairs (PairItems.more i is) = omega arith

-- a Flood is read
pub flood_complete : {s : List ℕ} {n at e session ttl : ℕ} {x y z : Item} {xs : Items} {from : List ℕ} {pair : Pair Value} {ps : List (Pair Value)}
    → StandAll s at e (Items.more x (Items.more y (Items.more z xs))) → Number x session → Initiator y from → Number z ttl → PairItems xs (pair ∷ ps)
    → depths xs ≤ part_levels → n ≡ 4 + count xs → Reads (flood_at s n at)
unfolding flood_at flood_by
flood_complete {s} {n} a i j k is d counted =
    let (o, next, same, b) = opening_complete a i j k in
    skipped _ (le-ltb n 5 (omega (arith, some_pairs is)))
    (subst (λ (r : WithNext Opening). Reads (flood_by s n r)) (sym same) (flooded_complete o b d (omega arith) is))
