-- Response: an opening, locators or a divert, an optional objective.
-- Assumes nothing.
use mathlib.Core.Path.{◌≡◌, refl, sym, ap, ◌∙◌, subst}
use mathlib.Core.Logic.{◌↔◌}
use mathlib.Core.List.{List, [], ◌∷◌, ◌++◌, flat_map}
use mathlib.Core.Option.{Option, none, some}
use Prim.Native.Nat.{ℕ, suc, ◌+◌, ◌-◌, ◌≤◌}
use native.Mathlib.Nat.{add-zero}
use native.Mathlib.Omega.{arith}
use lib.ListN.{length, drop, length-drop}
use lib.Seq.{drop-drop}
use lib.Dec.{eqb}
use borrow.Author.Tests.{ltb-false, eqb-true, le-ltb, eq-eqb}
use Rattle.options.specs.Text.{Noted}
use Rattle.std.specs.Prelude.{Some, None}
use Rattle.std.specs.Prelude.{Ok, Err}
use Rattle.options.specs.Part.{Read, part}
use Rattle.options.specs.declared.objective.Objective.{Objective}
use Rattle.message.specs.Opening.{WithNext}
use Rattle.options.specs.Divert.{DivertRead}
use Rattle.options.specs.Locators.{LocatorsRead}
use Rattle.options.specs.Locators.{ran}
use Rattle.base.specs.Pick.{pick}
use Rattle.base.specs.BigEndian.{Bytes}
use Rattle.base.specs.Lists.{Every}
use Rattle.base.proofs.Picks.{pick-case}
use Rattle.cbor.specs.Tree.{Item, Items, count, encodes, depth, depths}
use Rattle.options.specs.declared.locator.Locator.{Locator}
use Rattle.options.specs.Text.{first_of}
use Rattle.options.specs.Locators.{text_led, locators_from, locators_at}
use Rattle.options.specs.Objective.{objective_at}
use Rattle.rfc8990.specs.Message.{Loc, Obj, Tgts, Msg}
use Rattle.rfc8990.specs.Cddl.{joined, Number, Initiator, LocatorItems, OptionalItems, TgtsItems, MessageItem, Value}
use Rattle.rfc8990.specs.Limits.{Utf8, Short, loc_texts, optional_names, tgts_texts, texts_of, names_of}
use Rattle.message_laws.specs.Stands.{StandAll, ObjectiveIs}
use Rattle.message_laws.proofs.Objective.{objective_sound}
use Rattle.message_laws.proofs.Bridge.{join, none as no_items, last, split, none_end}
use Rattle.message_laws.proofs.Pieces.{head_array}
use Rattle.message.specs.declared.Targets.{Targets}
use Rattle.message.specs.Fields.{Extra}
use Rattle.message.specs.declared.opening.Opening.{Opening}
use Rattle.message.specs.Opening.{objective_levels}
use Rattle.message.specs.Response.{response_of, rest_of, rest_at, located_of, located_at, targets_of, targets_at, response_by, response_at}
use Rattle.message_laws.specs.Describes.{TargetsIs, ExtraIs, Describes}
use Rattle.message_laws.proofs.Noted.{clean, single, none_noted, then_noted, more_noted}
use Rattle.message_laws.proofs.Whole.{part_levels, IfGood, ShapeOk, past_case, held_case, Reads, taken, skipped, Kinded, built}
use Rattle.message_laws.proofs.Exchange.{objective_reads}
use Rattle.message_laws.proofs.Opening.{OpeningHere, OpeningOk, opening_sound, opening_complete}
use Rattle.message_laws.proofs.Locators.{Located, LocatedOk, located_sound, objective_led, located_complete}
use Rattle.message_laws.proofs.Divert.{DivertStands, DivertSound, divert_sound, locator_other, divert_read}

-- ---- items, and then items
-- xs stand, and then ys
join_all : {s : List ℕ} {p m e : ℕ} {xs ys : Items} → StandAll s p m xs → StandAll s m e ys → StandAll s p e (joined xs ys)
join_all {s} {e = e} {xs = Items.done} {ys} a b = subst (λ (k : ℕ). StandAll s k e ys) (none_end a) b
join_all {s = s} {p = p} {m = m} {e = e} {xs = Items.more x xs} {ys = ys} a b =
    let c = split a in
    join c.first (join_all {p = (split a).mid} {xs = xs} c.rest b)

-- there are so many
pub count_joined : (xs ys : Items) → count (joined xs ys) ≡ count xs + count ys
unfolding count
count_joined Items.done ys = omega arith
count_joined (Items.more x xs) ys = ap suc (count_joined xs ys) ∙ omega arith

-- ---- what is read stands there
-- nothing more, or one objective
record RestHere (s : List ℕ) (p left : ℕ) (bad : Noted) (end : ℕ) (bad' long : Noted) (extra : Extra) : Type 0 where
  items : Items
  obj : Option (Obj Value)
  stand : StandAll s p end items
  counted : left ≡ count items
  are : OptionalItems items obj
  is : end ≡ length s → ExtraIs s p extra obj
  texts : bad' ≡ None ↔ (bad ≡ None) × Every Utf8 (optional_names obj)
  names : long ≡ None ↔ Every Short (optional_names obj)

-- where a message is made with whatever follows the locators or the divert
module _ {s : List ℕ} {opening : Opening} {targets : Targets} {left p : ℕ} {bad : Noted} (bytes : Bytes s) (go : (extra : Extra) (end : ℕ) (bad' long : Noted)
    → RestHere s p left bad end bad' long extra → ShapeOk s (part (response_of opening targets extra) end bad' long)) where
  -- one objective, and then the end
  rest_of_sound : (x : Read Objective) → objective_at objective_levels s p ≡ x → ShapeOk s (rest_of s opening targets left p bad x)
  unfolding rest_of count optional_names
  rest_of_sound (Err d) e = IfGood.bad
  rest_of_sound (Ok o) e =
      let x = objective_sound objective_levels s p o.value o.size o.bad o.long bytes e in
      held_case _
      (λ one. go (Some o.value) (p + o.size) (first_of bad o.bad) o.long
      (record {
        items = Items.more x.item Items.done;
        obj = some x.obj;
        stand = last x.stands;
        counted = eqb-true left 1 one;
        are = OptionalItems.with_one x.is;
        is = λ full. ExtraIs.with_one (subst (λ (e : ℕ). ObjectiveIs s p e o.value x.obj) full x.described);
        texts = more_noted Utf8 (x.obj.name ∷ []) [] (single x.texts) none_noted;
        names = single x.names;
      }))

  -- what follows the locators or the divert
  rest_sound : p ≤ length s → ShapeOk s (rest_at s opening targets left p bad)
  unfolding rest_at count optional_names
  rest_sound low =
      pick-case (ShapeOk s) _
      (λ zero. go None p bad None
      (record {
        items = Items.done;
        obj = none;
        stand = no_items low;
        counted = eqb-true left 0 zero;
        are = OptionalItems.without;
        is = ExtraIs.without;
        texts = none_noted;
        names = clean tt;
      }))
      (λ _. rest_of_sound _ refl)

module _ {s : List ℕ} {n at next : ℕ} (k : Kinded s 2 n at) {opening : Opening} (h : OpeningHere s at next opening) where
  -- the opening and what follows it are the message
  responded : {e e' : ℕ} {bad long : Noted} {xs : Items} {tgts : Tgts} {obj : Option (Obj Value)} {targets : Targets} {extra : Extra} → n ≡ 4 + count xs
      → StandAll s next e xs → TgtsItems xs tgts obj
      → TargetsIs s next e' targets tgts → (e ≡ length s → ExtraIs s e' extra obj) → bad ≡ None ↔ Every Utf8 (tgts_texts tgts ++ optional_names obj)
      → long ≡ None
      ↔ Every Short (optional_names obj)
      → ShapeOk s (part (response_of opening targets extra) e bad long)
  unfolding count texts_of names_of
  responded {tgts = tgts} {obj} counted stand are pointed followed texts names =
      built k _ _ (Msg.response _ h.initiator.content _ tgts obj) (counted ∙ omega arith)
      (join h.session.is.stands (join h.initiator.is.stands (join h.ttl.is.stands stand)))
      (λ w v. MessageItem.response (Number.number h.session.low) (Initiator.initiator h.initiator.size) (Number.number h.ttl.low) are)
      (λ full. Describes.response k.is h.session.is h.initiator.is h.ttl.is pointed (followed full)) texts names

  -- locators, and what follows them
  located_finish : {n' p' left : ℕ} {bad : Noted} {end : ℕ} {bad' long : Noted} {first : Locator} {extra : Extra} → n ≡ 4 + n'
      → (l : Located s next p' n' left bad first)
      → RestHere s p' left bad end bad' long extra
      → ShapeOk s (part (response_of opening (Targets.Locators first (record { at = next; many = n' - left })) extra) end bad' long)
  unfolding count tgts_texts
  located_finish {n'} counted l r =
      let xs = l.items in
      responded (counted ∙ ap (λ (c : ℕ). 4 + c) (l.sum ∙ ap (λ (c : ℕ). count xs + c) r.counted ∙ sym (count_joined xs r.items)))
      (join_all l.stand r.stand) (TgtsItems.locators l.are r.are)
      (TargetsIs.locators refl (record { items = xs; stand = l.stand; many = omega (arith, l.sum); are = l.are }) l.described)
      r.is (then_noted Utf8 (flat_map loc_texts (l.loc ∷ l.locs)) (optional_names r.obj) l.texts r.texts) r.names

  -- locators first
  located_here : (parts : ℕ) → n ≡ 4 + parts → 1 ≤ parts → ShapeOk s (located_at s opening parts next)
  unfolding located_at located_of
  located_here parts counted least =
      let one : suc (parts - 1) ≡ parts = omega arith in
      by _ (subst (λ (k : ℕ). LocatedOk s next k parts (locators_at s next (parts - 1))) (add-zero next)
      (subst (λ (k : ℕ). LocatedOk s next (next + 0) k (locators_at s next (parts - 1))) one (located_sound s k.bytes next 0 (parts - 1))))
    where
      by : (x : LocatorsRead) → LocatedOk s next next parts x → ShapeOk s (located_of s opening parts next x)
      by _ LocatedOk.refused = IfGood.bad
      by _ (LocatedOk.some l) = rest_sound k.bytes (λ extra end bad' long r. located_finish counted l r) l.stand.within

  -- a divert, and what follows it
  divert_finish : {at many p' left : ℕ} {bad : Noted} {end : ℕ} {bad' long : Noted} {first : Locator} {extra : Extra} → n ≡ 5 + left
      → DivertStands s next p' first at many bad
      → RestHere s p' left bad end bad' long extra
      → ShapeOk s (part (response_of opening (Targets.Divert first (record { at = at; many = many })) extra) end bad' long)
  unfolding count tgts_texts
  divert_finish counted d r =
      responded (counted ∙ omega (arith, r.counted)) (join (head_array d.head (ap suc d.count_is) (join d.lead d.stand)) r.stand)
      (TgtsItems.divert d.are r.are)
      (TargetsIs.divert d.head d.lead (record { items = d.items; stand = d.stand; many = d.count_is; are = d.are }) d.described)
      r.is (then_noted Utf8 (flat_map loc_texts (d.loc ∷ d.locs)) (optional_names r.obj) d.texts r.texts) r.names

  -- what follows the ttl
  targets_sound : (parts : ℕ) → n ≡ 4 + parts → 1 ≤ parts → ShapeOk s (targets_at s opening parts next)
  unfolding targets_at targets_of
  targets_sound parts counted least = by _ (divert_sound s next k.bytes)
    where
      by : (x : DivertRead) → DivertSound s next x → ShapeOk s (targets_of s opening parts next x)
      by _ DivertSound.other = located_here parts counted least
      by _ DivertSound.refused = IfGood.bad
      by _ (DivertSound.got d) = rest_sound k.bytes (λ extra end bad' long r. divert_finish (omega arith) d r) d.stand.within

-- after the opening
response_by_sound : {s : List ℕ} {n at : ℕ} → Kinded s 2 n at → 5 ≤ n → (x : WithNext Opening) → OpeningOk s at x → ShapeOk s (response_by s n x)
unfolding response_by
response_by_sound k five _ OpeningOk.bad = IfGood.bad
response_by_sound {n = n} k five _ (OpeningOk.got h) = targets_sound k h (n - 4) (omega arith) (omega arith)

-- what is read is a Response
pub response_sound : {s : List ℕ} {n at : ℕ} → Kinded s 2 n at → ShapeOk s (response_at s n at)
unfolding response_at
response_sound {n = n} k = past_case _ (λ e. response_by_sound k (ltb-false n 5 e) _ (opening_sound k.bytes))

-- ---- what stands there is read
-- xs stand, and then ys
split_all : {s : List ℕ} {p e : ℕ} (xs ys : Items) → StandAll s p e (joined xs ys) → (m : ℕ) × StandAll s p m xs × StandAll s m e ys
split_all {p = p} Items.done ys a = (p, no_items (omega (arith, a.end, a.within)), a)
split_all {s = s} {p = p} {e = e} (Items.more x xs) ys a =
    let c = split a in
    let (m, first, rest) = split_all {p = (split a).mid} xs ys c.rest in
    (m, join c.first first, rest)

-- ys are no deeper than both
depths_joined : (xs ys : Items) → depths (joined xs ys) ≤ part_levels → depths ys ≤ part_levels
unfolding depth
depths_joined Items.done ys d = d
depths_joined (Items.more x xs) ys d = depths_joined xs ys (omega arith)

-- the locators of a part end where nothing more or an objective stands
stops : (s : List ℕ) (base p e : ℕ) (bad : Noted) (first : Locator) {ys : Items} {obj : Option (Obj Value)} → StandAll s (base + p) e ys → OptionalItems ys obj
    → locators_from base (drop base s) first (count ys) p bad ≡ ran first p (count ys) bad
unfolding locators_from count pick
stops s base p e bad first a OptionalItems.without = refl
stops s base p e bad first a (OptionalItems.with_one i) = rw (ap text_led (drop-drop p base s) ∙ objective_led a i)

-- there is a locator
filled : {xs : Items} {l : Loc} {ls : List Loc} → LocatorItems xs (l ∷ ls) → 1 ≤ count xs
unfolding count
filled (LocatorItems.more i is) = omega arith

-- what follows the ttl has items
some_items : {xs : Items} {tgts : Tgts} {obj : Option (Obj Value)} → TgtsItems xs tgts obj → 1 ≤ count xs
unfolding count
some_items (TgtsItems.locators {xs} {ys} is o) = omega (arith, count_joined xs ys, filled is)
some_items (TgtsItems.divert is o) = omega arith

-- items of the message, in the part that begins with them
sink_all : {s : List ℕ} {p e : ℕ} {xs : Items} → StandAll s p e xs → StandAll (drop p s) 0 (e - p) xs
sink_all {s} {p} {e} {xs} a =
    let sum : p + (e - p) ≡ e = omega (arith, a.end) in
    record {
      good = a.good;
      is = a.is ∙ ap (λ (r : List ℕ). encodes xs ++ r) (ap (λ (k : ℕ). drop k s) (sym sum) ∙ sym (drop-drop (e - p) p s));
      end = omega (arith, a.end);
      within = omega (arith, a.within, length-drop p s);
    }

module _ (s : List ℕ) (opening : Opening) where
  -- what follows the locators or the divert is read
  rest_complete : {p e left : ℕ} (bad : Noted) {ys : Items} {obj : Option (Obj Value)} (targets : Targets) → StandAll s p e ys → OptionalItems ys obj
      → depths ys ≤ part_levels → left ≡ count ys
      → Reads (rest_at s opening targets left p bad)
  unfolding rest_at rest_of count depth
  rest_complete bad targets a OptionalItems.without d counted = taken _ (eq-eqb _ _ counted) Reads.reads
  rest_complete {p} {left = left} bad targets a (OptionalItems.with_one i) d counted =
      skipped _ (ap (λ (n : ℕ). eqb n 0) counted)
      (objective_reads a (omega arith) i (rest_of s opening targets left p bad) (λ o size bad' long. taken _ (eq-eqb _ _ counted) Reads.reads))

  -- locators are read
  locators_reads : {p e parts : ℕ} {xs ys : Items} {l : Loc} {ls : List Loc} {obj : Option (Obj Value)} → StandAll s p e (joined xs ys)
      → depths (joined xs ys) ≤ part_levels
      → parts ≡ count (joined xs ys) → LocatorItems xs (l ∷ ls) → OptionalItems ys obj → Reads (located_at s opening parts p)
  unfolding located_at located_of count
  locators_reads {p} {e} {parts} {ys = ys} a d counted (LocatorItems.more {x} {xs = xs} i is) o =
      let all = Items.more x xs in
      let (m, first, rest) = split_all all ys a in
      let (f, bad, same) = located_complete s p (sink_all first) i is (count ys) in
      let place : p + (m - p) ≡ m = omega (arith, first.end) in
      let there = subst (λ (k : ℕ). StandAll s k e ys) (sym place) rest in
      let more : parts - 1 ≡ count xs + count ys = omega (arith, counted, count_joined all ys) in
      let read : locators_at s p (parts - 1) ≡ ran f (m - p) (count ys) bad =
      ap (locators_at s p) more ∙ same ∙ stops s p (m - p) e bad f there o in
      subst (λ (r : LocatorsRead). Reads (located_of s opening parts p r)) (sym read) (rest_complete bad _ there o (depths_joined all ys d) refl)

  -- what follows the ttl is read
  targets_complete : {p e parts : ℕ} {xs : Items} {tgts : Tgts} {obj : Option (Obj Value)} → StandAll s p e xs → depths xs ≤ part_levels → parts ≡ count xs
      → TgtsItems xs tgts obj
      → Reads (targets_at s opening parts p)
  unfolding targets_at targets_of depth count
  targets_complete {p} {parts = parts} a d counted (TgtsItems.locators {ys = ys} (LocatorItems.more i is) o) =
      subst (λ (r : DivertRead). Reads (targets_of s opening parts p r)) (sym (locator_other a i)) (locators_reads a d counted (LocatorItems.more i is) o)
  targets_complete {p} {e} {parts} a d counted (TgtsItems.divert {ys = ys} (LocatorItems.more i is) o) =
      let c = split a in
      let (first, at, many, bad, same) = divert_read c.first i is in
      let place : p + (c.mid - p) ≡ c.mid = omega (arith, c.first.end) in
      let there = subst (λ (k : ℕ). StandAll s k e ys) (sym place) c.rest in
      subst (λ (r : DivertRead). Reads (targets_of s opening parts p r)) (sym same) (rest_complete bad _ there o (omega arith) (omega arith))

-- a Response is read
pub response_complete : {s : List ℕ} {n at e session ttl : ℕ} {x y z : Item} {xs : Items} {from : List ℕ} {tgts : Tgts} {obj : Option (Obj Value)}
    → StandAll s at e (Items.more x (Items.more y (Items.more z xs))) → Number x session → Initiator y from → Number z ttl → TgtsItems xs tgts obj
    → depths xs ≤ part_levels → n ≡ 4 + count xs → Reads (response_at s n at)
unfolding response_at response_by
response_complete {s} {n} {at} a i j k is d counted =
    let (o, next, same, b) = opening_complete a i j k in
    skipped _ (le-ltb n 5 (omega (arith, some_items is)))
    (subst (λ (r : WithNext Opening). Reads (response_by s n r)) (sym same) (targets_complete s o b d (omega arith) is))
