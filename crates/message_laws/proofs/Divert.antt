-- A divert that is read stands in the message as an array that 100 leads, its locators after it (`divert_sound`), and
-- every such array is read (`divert_read`): it is read exactly there (`divert_exactly`). What a locator begins is none
-- (`locator_other`).
-- Assumes nothing.
use mathlib.Core.Path.{◌≡◌, refl, sym, ap, ◌∙◌, subst}
use mathlib.Core.Logic.{◌↔◌}
use mathlib.Core.List.{List, ◌∷◌, flat_map}
use Prim.Native.Nat.{ℕ, suc, ◌+◌, ◌-◌, ◌≤◌, ◌<◌}
use native.Mathlib.Nat.{add-sub_cancel_left}
use native.Mathlib.Omega.{arith}
use lib.ListN.{drop}
use lib.Dec.{ltb, eqb}
use borrow.Author.Tests.{leb-true, ltb-false, le-ltb, eqb-true, eqb-false, eq-eqb, ne_eqb}
use Rattle.options.specs.Text.{Noted}
use Rattle.std.specs.Prelude.{None}
use Rattle.options.specs.Part.{departs}
use Rattle.options.specs.Divert.{diverted}
use Rattle.options.specs.Divert.{no_divert}
use Rattle.options.specs.Divert.{DivertRead}
use Rattle.options.specs.Locators.{LocatorsRead}
use Rattle.options.specs.Locators.{ran}
use Rattle.base.specs.Pick.{pick}
use Rattle.base.specs.BigEndian.{Bytes}
use Rattle.base.specs.Lists.{Every}
use Rattle.base.proofs.Picks.{pick-case, both}
use Rattle.base.proofs.Parts.{bytes_drop}
use Rattle.cbor.specs.declared.token.Token.{Token}
use Rattle.cbor.specs.Token.{token_at, items_in, up_to}
use Rattle.cbor.specs.Tree.{Item, Items, count}
use Rattle.cbor.proofs.Tokens.{is_array}
use Rattle.options.specs.declared.locator.Locator.{Locator}
use Rattle.options.specs.Locators.{locators_from, locators_in}
use Rattle.options.specs.Divert.{divert_of, divert_led, divert_in, divert_at}
use Rattle.rfc8990.specs.Message.{Loc}
use Rattle.rfc8990.specs.Cddl.{uint, LocatorItem, LocatorItems}
use Rattle.rfc8990.specs.Limits.{Utf8, loc_texts}
use Rattle.message_laws.specs.Stands.{Stands, StandAll, ArrayHead, LocatorIs}
use Rattle.message_laws.proofs.Bridge.{token_heading, join, last, none_end, split, lift, sink_first}
use Rattle.message_laws.proofs.Pieces.{array_items, array_head, head_array, lift_head, number_here, number_is}
use Rattle.message_laws.proofs.Heads.{uint_passed, array_passed}
use Rattle.message_laws.proofs.Locators.{LocatedOk, located_sound, locator_led, located_complete}

-- ---- sound
-- the divert from p to e, its locators from `at` on
pub record DivertStands (s : List ℕ) (p e : ℕ) (first : Locator) (at many : ℕ) (bad : Noted) : Type 0 where
  pub items : Items
  pub loc : Loc
  pub locs : List Loc
  pub lead_at : ℕ
  pub width : ℕ
  pub head : ArrayHead s p lead_at (suc many)
  pub lead : Stands s lead_at at (uint width 100)
  pub are : LocatorItems items (loc ∷ locs)
  pub stand : StandAll s at e items
  pub count_is : many ≡ count items
  pub described : LocatorIs s at first loc
  pub texts : bad ≡ None ↔ Every Utf8 (flat_map loc_texts (loc ∷ locs))

-- what is read stands there
pub data DivertSound (s : List ℕ) (p : ℕ) : DivertRead → Type 0 where
  other : DivertSound s p no_divert
  refused : {place : ℕ} → DivertSound s p (departs place)
  got : {first : Locator} {at many size : ℕ} {bad : Noted} → DivertStands s p (p + size) first at many bad
      → DivertSound s p (diverted first at many size bad)

module _ (s : List ℕ) (p : ℕ) (b : Bytes s) where
  abbrev P : DivertRead → Type 0
  P = DivertSound s p

  -- by its locators
  of_sound : (many from : ℕ) {q v : ℕ} → 1 ≤ many → ArrayHead s p q (suc many) → Stands s q (p + from) (uint v 100) → (x : LocatorsRead)
      → LocatedOk s p (p + from) (suc (many - 1)) x → P (divert_of p (drop p s) many from x)
  unfolding divert_of
  of_sound many from some head lead _ LocatedOk.refused = DivertSound.refused
  of_sound many from some head lead _ (LocatedOk.some {left = left} h) =
      pick-case P (eqb left 0)
      (λ none. DivertSound.got
      (record {
        items = h.items;
        loc = h.loc;
        locs = h.locs;
        lead_at = _;
        width = _;
        head = head;
        lead = lead;
        are = h.are;
        stand = h.stand;
        count_is = omega (arith, h.sum, eqb-true left 0 none);
        described = h.described;
        texts = h.texts;
      }))
      (λ _. DivertSound.refused)

  pub divert_sound : P (divert_at s p)
  unfolding divert_in divert_led
  divert_sound =
      let t = drop p s in
      let a = token_at t 0 in
      let k = token_at t a.next in
      pick-case P (eqb (items_in a) 0) (λ _. DivertSound.other)
      (λ t₁. pick-case P (eqb (up_to 100 k) 100)
      (λ t₂. pick-case P (ltb a.arg 2) (λ _. DivertSound.refused)
      (λ t₃.
      let bytes = bytes_drop p s b in
      let array = is_array a (eqb-false (items_in a) 0 t₁) in
      let head = token_heading t 0 a bytes refl (omega arith) in
      let hundred : up_to 100 k ≡ 100 = eqb-true (up_to 100 k) 100 t₂ in
      let number = number_here 100 k bytes refl (omega arith) in
      let lead = subst (λ (n : ℕ). Stands t a.next k.next (uint number.width n)) hundred number.stands in
      let two : 2 ≤ a.arg = ltb-false a.arg 2 t₃ in
      let opened = subst (ArrayHead t 0 a.next) (omega arith) (array_head head array) in
      of_sound (a.arg - 1) k.next (omega arith) (lift_head opened) (lift p lead) _ (located_sound s b p k.next (a.arg - 1 - 1))))
      (λ _. DivertSound.other))

-- ---- read
-- a number above its limit
above : (limit : ℕ) (t : Token) → limit < t.arg → up_to limit t ≡ limit + 1
unfolding up_to
above limit t h =
    both (λ (n : ℕ). n ≡ limit + 1) _ (pick-case (λ (n : ℕ). n ≡ limit + 1) _ (λ e. absurd (omega (arith, leb-true t.arg limit e))) (λ _. refl)) refl

-- what a locator begins is no divert
pub locator_other : {s : List ℕ} {p e : ℕ} {x : Item} {xs : Items} {l : Loc} → StandAll s p e (Items.more x xs) → LocatorItem x l
    → divert_at s p ≡ no_divert
unfolding divert_in pick
locator_other {s} {p} a i =
    let t = drop p s in
    let k = token_at t (token_at t 0).next in
    let (_, high) = locator_led (last (sink_first (split a).first)) i in
    both (λ (d : DivertRead). d ≡ no_divert) (eqb (items_in (token_at t 0)) 0) refl
    (rw (ne_eqb (up_to 100 k) 100 (λ z. omega (arith, above 100 k (omega arith)))))

-- a divert is read
pub divert_read : {s : List ℕ} {p e w v : ℕ} {x : Item} {xs : Items} {l : Loc} {ls : List Loc}
    → Stands s p e (Item.array w (Items.more (uint v 100) (Items.more x xs))) → LocatorItem x l → LocatorItems xs ls
    → (first : Locator) × (at : ℕ) × (many : ℕ) × (bad : Noted) × (divert_at s p ≡ diverted first at many (e - p) bad)
unfolding divert_in divert_led divert_of locators_from count pick
divert_read {s} {p} {e} {xs = xs} st i is =
    let t = drop p s in
    let a = token_at t 0 in
    let k = token_at t a.next in
    let o = array_passed (last (sink_first st)) in
    let (number, hundred, rest) = uint_passed o.items in
    let (first, bad, same) = located_complete s p rest i is 0 in
    let less : a.arg - 1 - 1 ≡ count xs + 0 = omega (arith, o.arg) in
    let end : e - p ≡ o.mid = none_end o.rest in
    let all : locators_in p t k.next (a.arg - 1 - 1) ≡ ran first o.mid 0 bad = ap (locators_in p t k.next) less ∙ same in
    let read : divert_in p t ≡ diverted first (p + k.next) (a.arg - 1) o.mid bad =
    rw (
      ne_eqb (items_in a) 0 (array_items a (suc (count xs)) o.major o.arg),
      eq-eqb (up_to 100 k) 100 (number_is 100 k number (omega arith) ∙ hundred),
      le-ltb a.arg 2 (omega (arith, o.arg)),
      all,
    ) in
    (first, p + k.next, a.arg - 1, bad, subst (λ (z : ℕ). divert_in p t ≡ diverted first (p + k.next) (a.arg - 1) z bad) (sym end) read)

-- for readers

-- A divert is read exactly where an array that 100 leads, with locators after it, stands, up to its end.
pub divert_exactly : (s : List ℕ) (p size : ℕ) → Bytes s
    → ((first : Locator) × (at : ℕ) × (many : ℕ) × (bad : Noted) × (divert_at s p ≡ diverted first at many size bad))
    ↔ ((w : ℕ) × (v : ℕ) × (xs : Items) × (l : Loc) × (ls : List Loc)
    × Stands s p (p + size) (Item.array w (Items.more (uint v 100) xs)) × LocatorItems xs (l ∷ ls))
unfolding count
divert_exactly s p size b = (
  λ (first, at, many, bad, q). there (subst (DivertSound s p) q (divert_sound s p b)),
  λ (w, v, xs, l, ls, st, are). read st are,
)
  where
    there : {first : Locator} {at many : ℕ} {bad : Noted} → DivertSound s p (diverted first at many size bad)
        → (w : ℕ) × (v : ℕ) × (xs : Items) × (l : Loc) × (ls : List Loc)
        × Stands s p (p + size) (Item.array w (Items.more (uint v 100) xs)) × LocatorItems xs (l ∷ ls)
    there (DivertSound.got d) =
        (d.head.width, d.width, d.items, d.loc, d.locs, head_array d.head (ap suc d.count_is) (join d.lead d.stand), d.are)

    read : {w v : ℕ} {xs : Items} {l : Loc} {ls : List Loc} → Stands s p (p + size) (Item.array w (Items.more (uint v 100) xs)) → LocatorItems xs (l ∷ ls)
        → (first : Locator) × (at : ℕ) × (many : ℕ) × (bad : Noted) × (divert_at s p ≡ diverted first at many size bad)
    read st (LocatorItems.more i is) =
        let (first, at, many, bad, same) = divert_read st i is in
        (first, at, many, bad, rw (add-sub_cancel_left p size) at same)
