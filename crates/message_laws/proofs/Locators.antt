-- Locators one after the other: those that are read are those that stand there, and the first of their texts that isn't
-- UTF-8 is noted.
-- Assumes nothing.
use mathlib.Core.Path.{◌≡◌, refl, sym, ap, ap₂, ◌∙◌, subst}
use mathlib.Core.Logic.{◌↔◌}
use mathlib.Core.List.{List, [], ◌∷◌, flat_map}
use mathlib.Core.Bool.{true}
use Prim.Native.Nat.{ℕ, zero, suc, ◌+◌, ◌-◌, ◌≤◌}
use native.Mathlib.Nat.{zero-add, add_assoc}
use native.Mathlib.Omega.{arith}
use lib.ListN.{length, drop}
use lib.Seq.{drop-drop}
use lib.Dec.{lit≤}
use borrow.Author.Tests.{ne_eqb, eq-eqb}
use Rattle.options.specs.Text.{Noted}
use Rattle.std.specs.Prelude.{None}
use Rattle.std.specs.Prelude.{Ok, Err}
use Rattle.options.specs.declared.Part.{Part}
use Rattle.options.specs.Part.{Read, departs, part}
use Rattle.options.specs.Locators.{LocatorsRead}
use Rattle.options.specs.Locators.{ran}
use Rattle.base.specs.Pick.{pick}
use Rattle.base.specs.BigEndian.{Bytes}
use Rattle.base.specs.Lists.{Every}
use Rattle.base.proofs.Picks.{pick-case}
use Rattle.cbor.specs.Token.{token_at, items_in}
use Rattle.cbor.specs.Tree.{Item, Items, count}
use Rattle.options.specs.declared.locator.Locator.{Locator}
use Rattle.options.specs.Text.{first_of}
use Rattle.options.specs.Locator.{locator_in, locator_at}
use Rattle.options.specs.Locators.{text_led, locator_then, locators_from, locators_led, locators_in}
use Rattle.options.proofs.Led.{never_led}
use Rattle.rfc8990.specs.Message.{Loc, Obj}
use Rattle.rfc8990.specs.Cddl.{uint, LocatorItem, LocatorItems, ObjectiveItem, Value}
use Rattle.rfc8990.specs.Limits.{Utf8, loc_texts}
use Rattle.message_laws.specs.Stands.{Stands, StandAll, LocatorIs, LocatorStands}
use Rattle.message_laws.proofs.Bridge.{join, last, none, none_end, split, stands_within, lift, sink_first}
use Rattle.message_laws.proofs.Pieces.{array_items}
use Rattle.message_laws.proofs.Locator.{locator_sound, locator_read}
use Rattle.message_laws.proofs.Noted.{none_noted, then_noted, more_noted}
use Rattle.message_laws.proofs.Heads.{uint_passed, string_passed, array_passed}

-- ---- what is read stands there
-- locators after the first, and what is noted of them
record LocatorsHere (s : List ℕ) (p e n left : ℕ) (bad bad' : Noted) : Type 0 where
  items : Items
  locs : List Loc
  are : LocatorItems items locs
  stand : StandAll s p e items
  sum : n ≡ count items + left
  texts : bad' ≡ None ↔ (bad ≡ None) × Every Utf8 (flat_map loc_texts locs)

-- one locator or more, the first of them, and what is noted of them
pub record Located (s : List ℕ) (p e n left : ℕ) (bad : Noted) (first : Locator) : Type 0 where
  pub items : Items
  pub loc : Loc
  pub locs : List Loc
  pub are : LocatorItems items (loc ∷ locs)
  pub stand : StandAll s p e items
  pub sum : n ≡ count items + left
  pub described : LocatorIs s p first loc
  pub texts : bad ≡ None ↔ Every Utf8 (flat_map loc_texts (loc ∷ locs))

-- the answer, of those at p and after it, n at most, in a part that stands at `base`
pub data LocatedOk (s : List ℕ) (base p n : ℕ) : LocatorsRead → Type 0 where
  refused : {place : ℕ} → LocatedOk s base p n (departs place)
  some : {first : Locator} {e left : ℕ} {bad : Noted} → Located s p (base + e) n left bad first → LocatedOk s base p n (ran first e left bad)

module _ (s : List ℕ) (b : Bytes s) (base : ℕ) where
  -- what is read in the part is read in the message
  in_message : (p : ℕ) {x : Read Locator} → locator_in (base + p) (drop p (drop base s)) ≡ x → locator_at s (base + p) ≡ x
  in_message p e = ap (locator_in (base + p)) (sym (drop-drop p base s)) ∙ e

  -- so it stands there
  in_part : (p : ℕ) {l : Part Locator} → locator_in (base + p) (drop p (drop base s)) ≡ Ok l
      → LocatorStands s (base + p) (base + (p + l.size)) l.value l.bad
  in_part p {l} e =
      subst (λ (k : ℕ). LocatorStands s (base + p) k l.value l.bad) (add_assoc base p l.size) (locator_sound s (base + p) l b (in_message p e))

  module _ (first : Locator) where
    -- the answer of the loop
    data LocatorsOk (p n : ℕ) (bad : Noted) : LocatorsRead → Type 0 where
      refused : {place : ℕ} → LocatorsOk p n bad (departs place)
      some : {e left : ℕ} {bad' : Noted} → LocatorsHere s (base + p) (base + e) n left bad bad' → LocatorsOk p n bad (ran first e left bad')

    -- no more locators
    stopped : (p n : ℕ) (bad : Noted) → base + p ≤ length s → LocatorsOk p n bad (ran first p n bad)
    unfolding count flat_map
    stopped p n bad low =
        LocatorsOk.some (record { items = Items.done; locs = []; are = LocatorItems.empty; stand = none low; sum = sym (zero-add n); texts = none_noted })

    -- one locator, and then others
    one_more_lem : (p m : ℕ) {n : ℕ} {bad bad' : Noted} {l : Locator} {r : LocatorsRead} → LocatorStands s (base + p) (base + m) l bad'
        → LocatorsOk m n (first_of bad bad') r → LocatorsOk p (suc n) bad r
    unfolding count flat_map
    one_more_lem p m i LocatorsOk.refused = LocatorsOk.refused
    one_more_lem p m i (LocatorsOk.some {left = left} h) =
        LocatorsOk.some {left = left}
        (record {
          items = Items.more i.item h.items;
          locs = i.loc ∷ h.locs;
          are = LocatorItems.more i.is h.are;
          stand = join i.stands h.stand;
          sum = ap suc h.sum ∙ omega arith;
          texts = more_noted Utf8 (loc_texts i.loc) (flat_map loc_texts h.locs) i.texts h.texts;
        })

    -- the next locator, and then others
    next_sound : (p n : ℕ) (bad : Noted)
        → ((p' : ℕ) (bad' : Noted) → base + p' ≤ length s → LocatorsOk p' n bad' (locators_from base (drop base s) first n p' bad'))
        → (x : Read Locator) → locator_in (base + p) (drop p (drop base s)) ≡ x
        → LocatorsOk p (suc n) bad (locator_then (locators_from base (drop base s) first n) p bad x)
    unfolding locator_then
    next_sound p n bad go (Err d) e = LocatorsOk.refused
    next_sound p n bad go (Ok l) e =
        let i = in_part p e in
        one_more_lem p (p + l.size) i (go (p + l.size) (first_of bad l.bad) (stands_within i.stands))

    -- locators stand one after the other where they are read
    locators_sound : (n p : ℕ) (bad : Noted) → base + p ≤ length s → LocatorsOk p n bad (locators_from base (drop base s) first n p bad)
    unfolding locators_from
    locators_sound zero p bad low = stopped p 0 bad low
    locators_sound (suc n) p bad low =
        pick-case (LocatorsOk p (suc n) bad) _ (λ _. stopped p (suc n) bad low) (λ _. next_sound p n bad (locators_sound n) _ refl)

  -- the first, and then others
  first_sound : (p m : ℕ) {n : ℕ} {bad : Noted} {l : Locator} {r : LocatorsRead} → LocatorStands s (base + p) (base + m) l bad → LocatorsOk l m n bad r
      → LocatedOk s base (base + p) (suc n) r
  unfolding count flat_map
  first_sound p m i LocatorsOk.refused = LocatedOk.refused
  first_sound p m i (LocatorsOk.some {left = left} h) =
      LocatedOk.some {left = left}
      (record {
        items = Items.more i.item h.items;
        loc = i.loc;
        locs = h.locs;
        are = LocatorItems.more i.is h.are;
        stand = join i.stands h.stand;
        sum = ap suc h.sum ∙ omega arith;
        described = i.described;
        texts = then_noted Utf8 (loc_texts i.loc) (flat_map loc_texts h.locs) i.texts h.texts;
      })

  -- what is read stands there
  pub located_sound : (from more : ℕ) → LocatedOk s base (base + from) (suc more) (locators_in base (drop base s) from more)
  unfolding locators_in locators_led
  located_sound from more = by (locator_in (base + from) (drop from (drop base s))) refl
    where
      by : (x : Read Locator) → locator_in (base + from) (drop from (drop base s)) ≡ x
          → LocatedOk s base (base + from) (suc more) (locators_led base (drop base s) from more x)
      by (Err d) e = LocatedOk.refused
      by (Ok l) e =
          let i = in_part from e in
          first_sound from (from + l.size) i (locators_sound l.value more (from + l.size) l.bad (stands_within i.stands))

-- ---- what stands there is read
-- an array that a number leads
number_led : {s : List ℕ} {p e w v n : ℕ} {ys xs : Items} → StandAll s p e (Items.more (Item.array w (Items.more (uint v n) ys)) xs)
    → ((token_at s (token_at s p).next).major ≡ 0) × ((token_at s (token_at s p).next).arg ≡ n)
number_led a = let (number, arg, rest) = uint_passed (array_passed a).items in (number, arg)

-- as a locator is, by a number above 102
pub locator_led : {s : List ℕ} {p e : ℕ} {x : Item} {xs : Items} {l : Loc} → StandAll s p e (Items.more x xs) → LocatorItem x l
    → ((token_at s (token_at s p).next).major ≡ 0) × (103 ≤ (token_at s (token_at s p).next).arg)
locator_led a (LocatorItem.v6 long i j) = let (number, arg) = number_led a in (number, rw arg (lit≤ tt))
locator_led a (LocatorItem.v4 long i j) = let (number, arg) = number_led a in (number, rw arg (lit≤ tt))
locator_led a (LocatorItem.domain i j) = let (number, arg) = number_led a in (number, rw arg (lit≤ tt))
locator_led a (LocatorItem.uri i j) = let (number, arg) = number_led a in (number, rw arg (lit≤ tt))

-- an array that a text leads
array_text_led : {s : List ℕ} {e w v : ℕ} {name : List ℕ} {ys xs : Items}
    → StandAll s 0 e (Items.more (Item.array w (Items.more (Item.string true v name) ys)) xs) → text_led s ≡ true
unfolding text_led count pick
array_text_led {s} {ys = ys} a =
    let o = array_passed a in
    let (text, long, rest) = string_passed o.items in
    rw (ne_eqb (items_in (token_at s 0)) 0 (array_items (token_at s 0) (count ys) o.major o.arg), eq-eqb _ _ text)

-- as an objective is
pub objective_led : {s : List ℕ} {p e : ℕ} {x : Item} {xs : Items} {obj : Obj Value} → StandAll s p e (Items.more x xs) → ObjectiveItem x obj
    → text_led (drop p s) ≡ true
objective_led {s} {p} a o = by o (last (sink_first (split a).first))
  where
    by : {x : Item} {e : ℕ} {obj : Obj Value} → ObjectiveItem x obj → StandAll (drop p s) 0 e (Items.more x Items.done) → text_led (drop p s) ≡ true
    by (ObjectiveItem.bare i j) st = array_text_led st
    by (ObjectiveItem.valued i j) st = array_text_led st

module _ (s : List ℕ) (base : ℕ) where
  -- a locator of the part is read
  part_read : {p m : ℕ} {x : Item} {l : Loc} → Stands (drop base s) p m x → LocatorItem x l
      → (l' : Locator) × (bad : Noted) × (locator_in (base + p) (drop p (drop base s)) ≡ part l' (m - p) bad None)
  part_read {p} {m} a i =
      let (l', bad, same, _) = locator_read (lift base a) i in
      let size : (base + m) - (base + p) ≡ m - p = omega arith in
      (l', bad, ap (locator_in (base + p)) (drop-drop p base s) ∙ rw size at same)

  -- one locator is passed
  passed : (first : Locator) (p n : ℕ) (bad : Noted) {size : ℕ} {bad' : Noted} {l : Locator}
      → locator_in (base + p) (drop p (drop base s)) ≡ part l size bad' None
      → locators_from base (drop base s) first (suc n) p bad ≡ locators_from base (drop base s) first n (p + size) (first_of bad bad')
  unfolding locators_from locator_then pick
  passed first p n bad e = rw (never_led (base + p) (drop p (drop base s)) _ e, e)

  -- locators that stand one after the other are passed, whatever follows them
  locators_complete : (first : Locator) {p e : ℕ} {xs : Items} {ls : List Loc} → StandAll (drop base s) p e xs → LocatorItems xs ls
      → (r : ℕ) (bad : Noted)
      → (bad' : Noted) × (locators_from base (drop base s) first (count xs + r) p bad ≡ locators_from base (drop base s) first r e bad')
  unfolding count
  locators_complete first a LocatorItems.empty r bad =
      (bad, ap₂ (λ (n k : ℕ). locators_from base (drop base s) first n k bad) (zero-add r) (sym (none_end a)))
  locators_complete first {p} a (LocatorItems.more {xs = xs} i is) r bad =
      let c = split a in
      let (l', bad', same) = part_read c.first i in
      let (bad'', rest) = locators_complete first {p = (split a).mid} c.rest is r (first_of bad bad') in
      let step : p + (c.mid - p) ≡ c.mid = omega (arith, c.first.end) in
      let more : suc (count xs) + r ≡ suc (count xs + r) = omega arith in (
        bad'',
        ap (λ (n : ℕ). locators_from base (drop base s) first n p bad) more
            ∙ passed first p (count xs + r) bad same
            ∙ ap (λ (k : ℕ). locators_from base (drop base s) first (count xs + r) k (first_of bad bad')) step
            ∙ rest,
      )

  -- the first, and then others
  pub located_complete : {p e : ℕ} {x : Item} {xs : Items} {l : Loc} {ls : List Loc} → StandAll (drop base s) p e (Items.more x xs)
      → LocatorItem x l → LocatorItems xs ls → (r : ℕ)
      → (first : Locator) × (bad : Noted) × (locators_in base (drop base s) p (count xs + r) ≡ locators_from base (drop base s) first r e bad)
  unfolding locators_in locators_led
  located_complete {p} {xs = xs} a i is r =
      let c = split a in
      let (first, bad, same) = part_read c.first i in
      let (bad', rest) = locators_complete first {p = (split a).mid} c.rest is r bad in
      let step : p + (c.mid - p) ≡ c.mid = omega (arith, c.first.end) in (
        first,
        bad',
        ap (locators_led base (drop base s) p (count xs + r)) same
            ∙ ap (λ (k : ℕ). locators_from base (drop base s) first (count xs + r) k bad) step
            ∙ rest,
      )
