-- A pair of a Flood that is read stands in the message as an item that the CDDL calls this pair (`pair_sound`), and
-- every such item of 7 levels at most is read, wherever it stands, and as this pair (`pair_read`): it is read exactly
-- there (`pair_exactly`).
-- Assumes nothing.
use mathlib.Core.Path.{◌≡◌, refl, sym, ap, ◌∙◌, subst}
use mathlib.Core.Logic.{◌↔◌}
use mathlib.Core.List.{List, [], ◌∷◌}
use mathlib.Core.Bool.{and-false}
use mathlib.Core.Option.{Option, none, some}
use Prim.Native.Nat.{ℕ, suc, ◌+◌, ◌-◌, ◌≤◌}
use native.Mathlib.Nat.{add_assoc, add-sub_cancel_left}
use native.Mathlib.Omega.{arith}
use lib.ListN.{drop}
use lib.Seq.{drop-drop}
use lib.Dec.{eqb}
use borrow.Author.Tests.{eqb-true, eqb-false, eq-eqb, ne_eqb}
use Rattle.options.specs.Text.{Noted}
use Rattle.std.specs.Prelude.{Some, None}
use Rattle.std.specs.Prelude.{Ok, Err}
use Rattle.options.specs.Part.{Read, part}
use Rattle.options.specs.declared.pair.Pair as P
use Rattle.options.specs.Pair.{paired}
use Rattle.base.specs.Pick.{pick}
use Rattle.base.specs.BigEndian.{Bytes}
use Rattle.base.specs.Lists.{Every}
use Rattle.base.proofs.Picks.{pick-case, both, past}
use Rattle.base.proofs.Parts.{bytes_drop}
use Rattle.cbor.specs.declared.token.Token.{Token}
use Rattle.cbor.specs.Item.{left_under}
use Rattle.cbor.specs.Tree.{Item, count, depth}
use Rattle.cbor.specs.Token.{token_at, items_in}
use Rattle.cbor.proofs.Tokens.{is_array, token_first}
use Rattle.options.specs.declared.locator.Locator.{Locator}
use Rattle.options.specs.declared.objective.Objective.{Objective}
use Rattle.options.specs.Pair.{PairTag}
use Rattle.options.specs.Text.{first_of}
use Rattle.options.specs.Locator.{locator_in, locator_at}
use Rattle.options.specs.Objective.{objective_in, objective_at}
use Rattle.options.specs.Pair.{is_empty, pair_tagged, pair_tail, pair_led, pair_in, pair_at}
use Rattle.options.proofs.Fits.{empty_is}
use Rattle.rfc8990.specs.Message.{Loc, Obj, Pair}
use Rattle.rfc8990.specs.Cddl.{array, LocatorItem, ObjectiveItem, PairItem, Value}
use Rattle.rfc8990.specs.Limits.{Utf8, tag_texts, pair_texts}
use Rattle.message_laws.specs.Stands.{Stands, ArrayHead, LocatorIs, TagIs, PairIs, ObjectiveStands, PairStands}
use Rattle.message_laws.proofs.Bridge.{split, join, none as no_more, none_end, only, last, lift, lift_first}
use Rattle.message_laws.proofs.Bridge.{sink_sized, sink_first, advances, Heading, token_heading, array_token}
use Rattle.message_laws.proofs.Pieces.{array_items, array_at, array_head, lift_head}
use Rattle.message_laws.proofs.Texts.{first_zero}
use Rattle.message_laws.proofs.Levels.{locator_deep}
use Rattle.message_laws.proofs.Locator.{locator_sound, locator_read}
use Rattle.message_laws.proofs.Objective.{objective_sound, objective_read_lem}

-- ---- sound
abbrev Sound : List ℕ → ℕ → Read P.Pair → Type 0
Sound m base (Err e) = Unit {0}
Sound m base (Ok r) = PairStands m base (base + r.size) r.value.objective r.value.tag r.bad r.long

-- the objective is read: now its tag
module _ (m : List ℕ) (base : ℕ) (a : Token) (n : ℕ) where
  abbrev s : List ℕ
  s = drop base m

  abbrev at : ℕ
  at = a.next + n

  module _ (ha : Heading s 0 a) (major : a.major ≡ 4) (two : a.arg ≡ 2) {o : Objective} {bad long : Noted}
      (i : ObjectiveStands 3 m (base + a.next) (base + a.next + n) o bad long) where
    made : (size : ℕ) (y : Item) (t : PairTag) (l : Option Loc) (bad' : Noted) → Stands s at size y → depth y ≤ 1
        → ((w : ℕ) → PairItem (array w (i.item ∷ y ∷ [])) (i.obj, l)) → TagIs m (base + a.next + n) t l
        → bad' ≡ None ↔ (bad ≡ None) × Every Utf8 (tag_texts l) → PairStands m base (base + size) o t bad' long
    unfolding count depth pair_texts
    made size y t l bad' second flat is tag texts =
        let (there, back) = i.texts in
        record {
          item = _;
          pair = (i.obj, l);
          stands = lift_first (array_at ha major two (join (sink_sized m base a.next n i.stands) (last second)));
          shallow = omega (arith, i.shallow);
          is = is ha.width;
          described =
              record {
                at = base + a.next;
                mid = base + a.next + n;
                opened = subst (ArrayHead m base (base + a.next)) two (lift_head (array_head ha major));
                objective = i.described;
                tag = tag;
              };
          texts = (λ z. let (x, xs) = texts.0 z in (there x, xs), λ h. texts.1 (back h.0, h.1));
          names = i.names;
        }

    tagged : Bytes m → (r : Read Locator) → locator_at m (base + at) ≡ r → Sound m base (pair_tagged at o bad long r)
    unfolding pair_tagged tag_texts
    tagged by (Err e) q = tt
    tagged by (Ok l) q =
        let j = locator_sound m (base + at) l by q in
        let (there, back) = first_zero bad l.bad in
        made (at + l.size) j.item (Some l.value) (some j.loc) (first_of bad l.bad) (sink_sized m base at l.size j.stands) (omega (arith, locator_deep j.is))
        (λ w. PairItem.tagged i.is j.is)
        (TagIs.at (subst (λ (p : ℕ). LocatorIs m p l.value j.loc) (sym (add_assoc base a.next n)) j.described))
        (λ z. let (x, y) = there z in (x, j.texts.0 y), λ h. back (h.0, j.texts.1 h.1))

    tailed : Bytes m → Sound m base (pair_tail base s at o bad long)
    unfolding pair_tail tag_texts count depth
    tailed by =
        pick-case (Sound m base) (is_empty w)
        (λ e. let (four, zero) = empty_is w e in
        let h = token_heading s at w (bytes_drop base m by) refl (omega arith) in
        made w.next _ None none bad (array_at h four zero (no_more h.within)) (omega arith) (λ k. PairItem.untagged i.is) TagIs.empty
        (λ z. (z, tt), λ z. z.0))
        (λ _. tagged by (locator_in (base + at) (drop at s)) (ap (locator_in (base + at)) (sym (drop-drop at base m))))
      where
        w : Token
        w = token_at s at

led : (m : List ℕ) (base : ℕ) (a : Token) → Heading (drop base m) 0 a → a.major ≡ 4 → Bytes m → (r : Read Objective) → objective_at 3 m (base + a.next) ≡ r
    → Sound m base (pair_led base (drop base m) a.arg a.next r)
unfolding pair_led
led m base a ha major by (Err e) q = tt
led m base a ha major by (Ok o) q =
    pick-case (Sound m base) (eqb a.arg 2)
    (λ e. tailed m base a o.size ha major (eqb-true a.arg 2 e) (objective_sound 3 m (base + a.next) o.value o.size o.bad o.long by q) by) (λ _. tt)

sound : (m : List ℕ) (base : ℕ) → Bytes m → Sound m base (pair_at m base)
unfolding pair_in
sound m base by =
    pick-case (Sound m base) (eqb (items_in a) 0) (λ _. tt)
    (λ e. let major : a.major ≡ 4 = is_array a (eqb-false (items_in a) 0 e) in
    led m base a (token_heading s₀ 0 a (bytes_drop base m by) refl (omega arith)) major by (objective_in 3 (base + a.next) (drop a.next s₀))
    (ap (objective_in 3 (base + a.next)) (sym (drop-drop a.next base m))))
  where
    s₀ : List ℕ
    s₀ = drop base m

    a : Token
    a = token_at s₀ 0

-- what is read stands there
pub pair_sound : (m : List ℕ) (base : ℕ) (o : Objective) (t : PairTag) (size : ℕ) (bad long : Noted) → Bytes m → pair_at m base ≡ paired o t size bad long
    → PairStands m base (base + size) o t bad long
pair_sound m base o t size bad long by q = subst (Sound m base) q (sound m base by)

-- ---- read
-- the reader's tests, over plain tokens
accept : (base : ℕ) (s : List ℕ) (a : Token) (r : Read P.Pair) (o : Objective) (size : ℕ) (bad long : Noted) → a ≡ token_at s 0 → (items_in a ≡ 0 → ⊥)
    → a.arg ≡ 2
    → objective_in 3 (base + a.next) (drop a.next s) ≡ part o size bad long → pair_tail base s (a.next + size) o bad long ≡ r
    → pair_in base s ≡ r
unfolding pair_in pair_led pick
accept base s a r o size bad long ea t₁ t₂ got tail = rw (← ea, ne_eqb _ _ t₁, got, eq-eqb _ _ t₂) tail

empty_tail : (base : ℕ) (s : List ℕ) (at : ℕ) (o : Objective) (bad long : Noted) (w : Token) {size : ℕ} → w ≡ token_at s at → w.major ≡ 4 → w.arg ≡ 0
    → size ≡ w.next
    → pair_tail base s at o bad long ≡ paired o None size bad long
unfolding pair_tail is_empty pick
empty_tail base s at o bad long w ew t₁ t₂ e = rw (← ew, eq-eqb _ _ t₁, eq-eqb _ _ t₂, e)

-- the array of a locator that is read isn't empty
locator_items : (base : ℕ) (s : List ℕ) {l : Locator} {size : ℕ} {bad : Noted} → locator_in base s ≡ part l size bad None → (token_at s 0).arg ≡ 0 → ⊥
unfolding locator_in items_in
locator_items base s {l} {size} {bad} q z =
    let (some_items, _) = past (eqb (items_in (token_at s 0)) 0) q (λ e. let y : ◌≡◌ {A = ℕ} 0 1 = cc in omega arith) in
    eqb-false (items_in (token_at s 0)) 0 some_items (both (λ (n : ℕ). n ≡ 0) _ z refl)

tagged_tail : (base : ℕ) (s : List ℕ) (at : ℕ) (o : Objective) (bad long : Noted) (l : Locator) (n : ℕ) (bad' : Noted) {size : ℕ}
    → locator_in (base + at) (drop at s) ≡ part l n bad' None → size ≡ at + n
    → pair_tail base s at o bad long ≡ paired o (Some l) size (first_of bad bad') long
unfolding pair_tail pair_tagged is_empty pick
tagged_tail base s at o bad long l n bad' got e =
    rw (ne_eqb _ _ (λ z. locator_items (base + at) (drop at s) got (sym (token_first s at).arg ∙ z)), and-false (eqb (token_at s at).major 4), got, e)

-- the objective is read, and the second item stands after it: the pair with such a tag
record Begun (m : List ℕ) (base e : ℕ) (obj : Obj Value) (y : Item) : Type 0 where
  mid : ℕ
  objective : Objective
  bad : Noted
  long : Noted
  read : (r : Read P.Pair) → pair_tail base (drop base m) mid objective bad long ≡ r → pair_at m base ≡ r
  described : {t : PairTag} {l : Option Loc} → TagIs m (base + mid) t l → PairIs m base objective t (obj, l)
  second : Stands (drop base m) mid (e - base) y

begun : {m : List ℕ} {base e w : ℕ} {x y : Item} {obj : Obj Value} → Stands m base e (array w (x ∷ y ∷ [])) → depth x ≤ suc (left_under 3) → ObjectiveItem x obj
    → Begun m base e obj y
unfolding count
begun {m} {base} {e} st d is =
    let s : List ℕ = drop base m in
    let top = array_token (sink_first st) in
    let c = split top.items in
    let (o, bad, long, got, described) = objective_read_lem 3 (lift base c.first) d is in
    let size : ℕ = base + c.mid - (base + top.body) in
    let sum : top.body + size ≡ c.mid = omega (arith, advances c.first) in
    record {
      mid = c.mid;
      objective = o;
      bad = bad;
      long = long;
      read =
          λ r tail. accept base s _ r o size bad long (sym top.token) (array_items _ 1 refl refl) refl
          (ap (objective_in 3 (base + top.body)) (drop-drop top.body base m) ∙ got)
          (ap (λ (k : ℕ). pair_tail base s k o bad long) sum ∙ tail);
      described = λ tag. record { at = base + top.body; mid = base + c.mid; opened = lift_head top.head; objective = described; tag = tag };
      second = only c.rest;
    }

-- a pair is read
abbrev PairThere : List ℕ → ℕ → ℕ → Pair Value → Type 0
PairThere m base e pair =
    (o : Objective) × (t : PairTag) × (bad : Noted) × (long : Noted) × (pair_at m base ≡ paired o t (e - base) bad long) × PairIs m base o t pair

untagged_read : {m : List ℕ} {base e v : ℕ} {obj : Obj Value} → Begun m base e obj (array v []) → PairThere m base e (obj, none)
unfolding count
untagged_read {m} {base} b =
    let empty = array_token b.second in
    let read =
    b.read _ (empty_tail base (drop base m) b.mid b.objective b.bad b.long _ (sym empty.token) refl refl (none_end empty.items)) in
    (b.objective, None, b.bad, b.long, read, b.described TagIs.empty)

tagged_read : {m : List ℕ} {base e : ℕ} {y : Item} {obj : Obj Value} {loc : Loc} → Begun m base e obj y → LocatorItem y loc → PairThere m base e (obj, some loc)
tagged_read {m} {base} {e} b is =
    let (l, bad', got, located) = locator_read (lift base b.second) is in
    let n : ℕ = base + (e - base) - (base + b.mid) in
    let sum : e - base ≡ b.mid + n = omega (arith, advances b.second) in
    let tail = tagged_tail base (drop base m) b.mid b.objective b.bad b.long l n bad'
    (ap (locator_in (base + b.mid)) (drop-drop b.mid base m) ∙ got) sum in
    (b.objective, Some l, first_of b.bad bad', b.long, b.read _ tail, b.described (TagIs.at located))

-- an item that is a pair is read, and as the pair that it is
pub pair_read : {m : List ℕ} {base e : ℕ} {x : Item} {pair : Pair Value} → Stands m base e x → depth x ≤ left_under 1 → PairItem x pair
    → (o : Objective) × (t : PairTag) × (bad : Noted) × (long : Noted) × (pair_at m base ≡ paired o t (e - base) bad long) × PairIs m base o t pair
unfolding depth
pair_read st d (PairItem.untagged is) = untagged_read (begun st (omega arith) is)
pair_read st d (PairItem.tagged is loc) = tagged_read (begun st (omega arith) is) loc

-- for readers

-- A pair is read exactly where an item that is one stands, of 7 levels at most, up to its end.
pub pair_exactly : (m : List ℕ) (base size : ℕ) → Bytes m
    → ((o : Objective) × (t : PairTag) × (bad : Noted) × (long : Noted) × (pair_at m base ≡ paired o t size bad long))
    ↔ ((x : Item) × (pair : Pair Value) × Stands m base (base + size) x × (depth x ≤ left_under 1) × PairItem x pair)
pair_exactly m base size by = (
  λ (o, t, bad, long, q). let i = pair_sound m base o t size bad long by q in (i.item, i.pair, i.stands, i.shallow, i.is),
  λ (x, pair, st, d, is). let (o, t, bad, long, read, _) = pair_read st d is in (o, t, bad, long, rw (add-sub_cancel_left base size) at read),
)
