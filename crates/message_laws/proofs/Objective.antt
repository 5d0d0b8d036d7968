-- An objective that is read stands in the message as an item that the CDDL calls this objective (`objective_sound`),
-- and every such item of no more levels than may open is read, wherever it stands, and as this objective
-- (`objective_read_lem`): it is read exactly there (`objective_exactly`).
-- Assumes nothing.
use mathlib.Core.Path.{◌≡◌, refl, sym, ap, ap₂, ◌∙◌, subst}
use mathlib.Core.Logic.{◌↔◌, inr}
use mathlib.Core.List.{List}
use mathlib.Core.Bool.{true}
use mathlib.Core.Option.{none, some}
use Prim.Native.Nat.{ℕ, suc, ◌+◌, ◌-◌, ◌≤◌}
use native.Mathlib.Nat.{add_assoc, add-sub_cancel_left}
use native.Mathlib.Omega.{arith}
use lib.ListN.{length, drop}
use lib.Dec.{ltb, eqb}
use borrow.Author.Tests.{le-ltb, ltb-false, eqb-true, eqb-false, eq-eqb, ne_eqb}
use Rattle.options.specs.Text.{Noted}
use Rattle.std.specs.Prelude.{Ok, Err}
use Rattle.options.specs.Part.{Read, departs, part}
use Rattle.base.specs.Pick.{pick}
use Rattle.base.specs.BigEndian.{Bytes}
use Rattle.base.proofs.Picks.{pick-case}
use Rattle.base.proofs.Parts.{bytes_drop}
use Rattle.cbor.specs.declared.token.Token.{Token}
use Rattle.cbor.specs.Item.{left_under}
use Rattle.cbor.specs.Tree.{Item, Items, count, depth, depths, encode}
use Rattle.cbor.specs.Token.{token_at, size_at, items_in, up_to}
use Rattle.cbor.proofs.Tokens.{token_is, token_end, is_array}
use Rattle.options.specs.declared.objective.Objective.{Objective}
use Rattle.options.specs.Text.{span_of, content_in, bad_text}
use Rattle.options.specs.Objective.{long_name, objective_from, objective_in, objective_named, objective_at}
use Rattle.rfc8990.specs.Message.{Obj}
use Rattle.rfc8990.specs.Cddl.{uint, text, ObjectiveItem, Value}
use Rattle.message_laws.specs.Stands.{Stands, StandAll, ArrayHead, ValueIs, items_with, ObjectiveIs, ObjectiveStands}
use Rattle.message_laws.proofs.Bridge.{split, join, none as no_more, none_end, only, last, stands_once, lift, lift_first}
use Rattle.message_laws.proofs.Bridge.{sink_first, advances, token_heading, number_token, text_token, array_token}
use Rattle.message_laws.proofs.Pieces.{array_items, number_is, number_here, text_size, content_bytes, text_at, array_at, array_head, lift_head}
use Rattle.message_laws.proofs.Texts.{bad_text_lem, long_name_lem}
use Rattle.message_laws.proofs.Sizes.{sized_item, item_sized}

-- what is answered by the tokens of name, flags and count, with a value of so many bytes
abbrev answer : ℕ → List ℕ → Token → Token → Token → ℕ → ℕ → Read Objective
answer base s n f c len size =
    part (objective_from base n (up_to 15 f) c (up_to 255 c) len) size (bad_text (content_in s n) (base + n.at)) (long_name n (base + n.at))

-- what follows the count ends where the value does
value_ends : (base : ℕ) {m : List ℕ} {p e len : ℕ} {v : Value} (xs : Items) → suc (suc (suc (count xs))) ≡ items_with v → StandAll (drop base m) p e xs
    → ValueIs m (span_of (base + p) len) v → e ≡ p + len
unfolding count
value_ends base Items.done counted rest (ValueIs.absent empty) = omega (arith, none_end rest)
value_ends base Items.done counted rest (ValueIs.present there) = absurd (omega arith)
value_ends base (Items.more x xs) counted rest (ValueIs.absent empty) = absurd (omega arith)
value_ends base (Items.more x Items.done) counted rest (ValueIs.present there) =
    let item = only rest in
    omega (arith, item.end, there.end, ap (λ (y : Item). length (encode y)) (stands_once (lift base item) there))
value_ends base (Items.more x (Items.more y xs)) counted rest (ValueIs.present there) = absurd (omega arith)

-- the objective that an answer describes, by what stands in the part of the message that begins with it
located : (m : List ℕ) (base : ℕ) (n f c : Token) {q u i j flags number len e : ℕ} {name : List ℕ} {v : Value} → ArrayHead (drop base m) 0 q (items_with v)
    → Stands (drop base m) q n.next (text u name)
    → n.next ≡ n.body + length name → Stands (drop base m) n.next c.at (uint i flags) → up_to 15 f ≡ flags
    → Stands (drop base m) c.at c.next (uint j number) → up_to 255 c ≡ number
    → ValueIs m (span_of (base + c.next) len) v → e ≡ base + (c.next + len)
    → ObjectiveIs m base e (objective_from base n (up_to 15 f) c (up_to 255 c) len) (record { name = name; flags = flags; count = number; value = v })
unfolding objective_from
located m base n f c {q} {u} {i} {j} opened named end flagged few counted byte value ends =
    record {
      name_width = u;
      flags_width = i;
      count_width = j;
      name_at = base + q;
      flags_at = base + n.next;
      opened = lift_head opened;
      name_item = lift base named;
      name = ap₂ span_of (omega arith) (omega arith);
      flags_item = lift base flagged;
      flags = few;
      count_item = lift base counted;
      count = byte;
      value = value;
      ends = omega arith;
    }

-- ---- sound
-- an item that is an objective: its limits, and how many items it has
limits : {w u i j flags number : ℕ} {name : List ℕ} {o : Obj Value} {xs : Items}
    → ObjectiveItem (Item.array w (Items.more (text u name) (Items.more (uint i flags) (Items.more (uint j number) xs)))) o
    → (flags ≤ 15) × (number ≤ 255) × (suc (suc (suc (count xs))) ≡ items_with o.value)
unfolding count
limits (ObjectiveItem.bare few byte) = (few, byte, refl)
limits (ObjectiveItem.valued few byte) = (few, byte, refl)

abbrev Sound : ℕ → List ℕ → ℕ → Read Objective → Type 0
Sound levels m base (Err e) = Unit {0}
Sound levels m base (Ok o) = ObjectiveStands levels m base (base + o.size) o.value o.bad o.long

sound : (levels : ℕ) (m : List ℕ) (base : ℕ) → Bytes m → Sound levels m base (objective_at levels m base)
unfolding objective_in objective_named count depth
sound levels m base by =
    pick-case P (eqb (items_in a) 0) (λ _. tt)
    (λ t₁. pick-case P (eqb n.major 3)
    (λ t₂. pick-case P (ltb a.arg 3) (λ _. tt)
    (λ t₃. pick-case P (ltb 4 a.arg) (λ _. tt)
    (λ t₄. pick-case P (ltb 15 (up_to 15 f)) (λ _. tt)
    (λ t₅. pick-case P (ltb 255 (up_to 255 c)) (λ _. tt)
    (λ t₆.
    let few : up_to 15 f ≤ 15 = ltb-false 15 (up_to 15 f) t₅ in
    let byte : up_to 255 c ≤ 255 = ltb-false 255 (up_to 255 c) t₆ in
    let made = got (is_array a (eqb-false (items_in a) 0 t₁)) (eqb-true n.major 3 t₂) in
    pick-case P (eqb a.arg 3)
    (λ t₇. made 0 c.next none Items.done (eqb-true a.arg 3 t₇) (omega arith) (no_more (token_end s f.next)) (ValueIs.absent refl)
    (λ w u v k. ObjectiveItem.bare few byte))
    (λ t₇. pick-case P (eqb len 0) (λ _. tt)
    (λ t₈.
    let (value, there, few-levels) = sized_item levels s c.next bytes (eqb-false len 0 t₈) in
    made len (c.next + len) (some value) (Items.more value Items.done)
    (omega (arith, ltb-false a.arg 3 t₃, ltb-false 4 a.arg t₄, eqb-false a.arg 3 t₇)) (omega arith) (last there)
    (ValueIs.present (subst (λ (e : ℕ). Stands m (base + c.next) e value) (sym (add_assoc base c.next len)) (lift base there)))
    (λ w u v k. ObjectiveItem.valued few byte))))))))
    (λ _. tt))
  where
    s : List ℕ
    s = drop base m

    a : Token
    a = token_at s 0

    n : Token
    n = token_at s a.next

    f : Token
    f = token_at s n.next

    c : Token
    c = token_at s f.next

    len : ℕ
    len = size_at levels s c.next

    P : Read Objective → Type 0
    P = Sound levels m base

    bytes : Bytes s
    bytes = bytes_drop base m by

    -- with a value, or with none: the item of so many items xs after the count
    got : a.major ≡ 4 → n.major ≡ 3 → (len size : ℕ) (v : Value) (xs : Items) → a.arg ≡ suc (suc (suc (count xs))) → depths xs ≤ left_under levels
        → StandAll s c.next size xs → ValueIs m (span_of (base + c.next) len) v
        → ((w u i j : ℕ)
        → ObjectiveItem (Item.array w (Items.more (text u (content_in s n)) (Items.more (uint i (up_to 15 f)) (Items.more (uint j (up_to 255 c)) xs))))
        (record { name = content_in s n; flags = up_to 15 f; count = up_to 255 c; value = v }))
        → P (answer base s n f c len size)
    got array is-text len size v xs many shallow rest value is =
        let (few, byte, counted) = limits (is 0 0 0 0) in
        let sum : size ≡ c.next + len = value_ends base xs counted rest value in
        let ha = token_heading s 0 a bytes refl (omega arith) in
        let hn = token_heading s a.next n bytes refl (omega arith) in
        let (name, long) = text_at hn true is-text (content_bytes s n bytes) in
        let flags = number_here 15 f bytes refl few in
        let number = number_here 255 c bytes refl byte in
        let opened : a.next ≡ 1 + ha.width = ha.leaf (inr (omega arith)) ∙ ha.body ∙ omega arith in
        let at_n : n.at ≡ a.next = (token_is s a.next n refl).here in
        let at_c : f.next ≡ c.at = sym (token_is s f.next c refl).here in
        let far : base + n.at ≡ 0 → ⊥ = (λ z. omega arith) in
        record {
          item = _;
          obj = _;
          stands = lift_first (array_at ha array many (join name.stands (join flags.stands (join number.stands rest))));
          shallow = omega arith;
          is = is ha.width name.width flags.width number.width;
          described =
              located m base n f c (subst (ArrayHead s 0 a.next) (many ∙ counted) (array_head ha array)) name.stands
              (omega (arith, text_size hn true is-text, long, (token_is s a.next n refl).start))
              (subst (λ (k : ℕ). Stands s n.next k (uint flags.width (up_to 15 f))) at_c flags.stands) refl
              (subst (λ (k : ℕ). Stands s k c.next (uint number.width (up_to 255 c))) at_c number.stands) refl value (ap (λ (k : ℕ). base + k) sum);
          texts = bad_text_lem (content_in s n) (base + n.at) far;
          names = long_name_lem n (base + n.at) (content_in s n) far long;
        }

-- what is read stands there
pub objective_sound : (levels : ℕ) (m : List ℕ) (base : ℕ) (o : Objective) (size : ℕ) (bad long : Noted) → Bytes m
    → objective_at levels m base ≡ part o size bad long → ObjectiveStands levels m base (base + size) o bad long
objective_sound levels m base o size bad long by q = subst (Sound levels m base) q (sound levels m base by)

-- ---- read
-- the reader's tests but for the value, over plain tokens
unfoldable ending : ℕ → ℕ → List ℕ → ℕ → Token → Token → Token → Read Objective
ending levels base s items n f c =
    pick (eqb items 3) (answer base s n f c 0 c.next)
    (pick (eqb (size_at levels s c.next) 0) (departs (base + c.next))
    (answer base s n f c (size_at levels s c.next) (c.next + size_at levels s c.next)))

accept : (levels base : ℕ) (s : List ℕ) (a n f c : Token) → a ≡ token_at s 0 → n ≡ token_at s a.next → f ≡ token_at s n.next → c ≡ token_at s f.next
    → (items_in a ≡ 0 → ⊥) → n.major ≡ 3 → 3 ≤ a.arg → a.arg ≤ 4 → up_to 15 f ≤ 15 → up_to 255 c ≤ 255
    → objective_in levels base s ≡ ending levels base s a.arg n f c
unfolding objective_in objective_named ending pick
accept levels base s a n f c ea en ef ec t₁ t₂ t₃ t₄ t₅ t₆ =
    rw (← ea, ← en, ← ef, ← ec, ne_eqb _ _ t₁, eq-eqb _ _ t₂, le-ltb _ _ t₃, le-ltb _ _ t₄, le-ltb _ _ t₅, le-ltb _ _ t₆)

-- the first three items, what is left, and the objective with such a value
record Begun (levels : ℕ) (m : List ℕ) (base e : ℕ) (name : List ℕ) (flags number : ℕ) (rest : Items) : Type 0 where
  n : Token
  f : Token
  c : Token
  read : objective_at levels m base ≡ ending levels base (drop base m) (suc (suc (suc (count rest)))) n f c
  left : StandAll (drop base m) c.next (e - base) rest
  described : (len : ℕ) (v : Value) → suc (suc (suc (count rest))) ≡ items_with v → ValueIs m (span_of (base + c.next) len) v
      → ObjectiveIs m base e (objective_from base n (up_to 15 f) c (up_to 255 c) len) (record { name = name; flags = flags; count = number; value = v })

begun : (levels : ℕ) {m : List ℕ} {base e w u i j flags number : ℕ} {name : List ℕ} {rest : Items}
    → Stands m base e (Item.array w (Items.more (text u name) (Items.more (uint i flags) (Items.more (uint j number) rest))))
    → flags ≤ 15 → number ≤ 255 → count rest ≤ 1 → Begun levels m base e name flags number rest
unfolding count
begun levels {m} {base} {flags = flags} {number} {name} {rest} st few byte short =
    let s : List ℕ = drop base m in
    let top = array_token (sink_first st) in
    let c₁ = split top.items in
    let c₂ = split c₁.rest in
    let c₃ = split c₂.rest in
    let string = text_token c₁.first in
    let n : Token = record { at = top.body; major = 3; arg = length name; body = string.body; next = c₁.mid } in
    let f : Token = record { at = c₁.mid; major = 0; arg = flags; body = c₂.mid; next = c₂.mid } in
    let c : Token = record { at = c₂.mid; major = 0; arg = number; body = c₃.mid; next = c₃.mid } in
    record {
      n = n;
      f = f;
      c = c;
      read =
          accept levels base s _ n f c (sym top.token) (sym string.token) (sym (number_token c₂.first)) (sym (number_token c₃.first))
          (array_items _ _ refl refl) refl
          (omega arith) (omega arith) (rw (number_is 15 f refl few) few) (rw (number_is 255 c refl byte) byte);
      left = c₃.rest;
      described =
          λ len v counted value.
          located m base n f c (subst (ArrayHead s 0 top.body) counted top.head) c₁.first string.end c₂.first (number_is 15 f refl few)
          c₃.first (number_is 255 c refl byte) value
          (omega (arith, advances st, value_ends base rest counted c₃.rest value));
    }

ends_bare : (levels base : ℕ) (s : List ℕ) (n f c : Token) {size : ℕ} → size ≡ c.next → ending levels base s 3 n f c ≡ answer base s n f c 0 size
unfolding ending pick
ends_bare levels base s n f c e = rw e

ends_valued : (levels base : ℕ) (s : List ℕ) (n f c : Token) {size : ℕ} → (size_at levels s c.next ≡ 0 → ⊥) → size ≡ c.next + size_at levels s c.next
    → ending levels base s 4 n f c ≡ answer base s n f c (size_at levels s c.next) size
unfolding ending pick
ends_valued levels base s n f c has_value e = rw (ne_eqb _ _ has_value, e)

-- an item that is an objective is read, and as the objective that it is
pub objective_read_lem : (levels : ℕ) {m : List ℕ} {base e : ℕ} {x : Item} {obj : Obj Value} → Stands m base e x → depth x ≤ suc (left_under levels)
    → ObjectiveItem x obj
    → (o : Objective) × (bad : Noted) × (long : Noted) × (objective_at levels m base ≡ part o (e - base) bad long) × ObjectiveIs m base e o obj
unfolding count depth
objective_read_lem levels {m} {base} {e} st d (ObjectiveItem.bare few byte) =
    let b = begun levels st few byte (omega arith) in (
      _,
      _,
      _,
      b.read ∙ ends_bare levels base (drop base m) b.n b.f b.c (none_end b.left),
      b.described 0 none refl (ValueIs.absent refl),
    )
objective_read_lem levels {m} {base} {e} st d (ObjectiveItem.valued {x = x} few byte) =
    let b = begun levels st few byte (omega arith) in
    let value = only b.left in
    let (size, has_value) = item_sized levels value (omega arith) in
    let sum : base + (e - base) ≡ base + b.c.next + size_at levels (drop base m) b.c.next = omega (arith, advances value) in (
      _,
      _,
      _,
      b.read ∙ ends_valued levels base (drop base m) b.n b.f b.c has_value (omega (arith, advances value)),
      b.described (size_at levels (drop base m) b.c.next) (some x) refl
          (ValueIs.present (subst (λ (k : ℕ). Stands m (base + b.c.next) k x) sum (lift base value))),
    )

-- for readers

-- An objective is read exactly where an item that is one stands, of no more levels than may open, up to its end.
pub objective_exactly : (levels : ℕ) (m : List ℕ) (base size : ℕ) → Bytes m
    → ((o : Objective) × (bad : Noted) × (long : Noted) × (objective_at levels m base ≡ part o size bad long))
    ↔ ((x : Item) × (obj : Obj Value) × Stands m base (base + size) x × (depth x ≤ suc (left_under levels)) × ObjectiveItem x obj)
objective_exactly levels m base size by = (
  λ (o, bad, long, q). let i = objective_sound levels m base o size bad long by q in (i.item, i.obj, i.stands, i.shallow, i.is),
  λ (x, obj, st, d, is). let (o, bad, long, read, _) = objective_read_lem levels st d is in (o, bad, long, rw (add-sub_cancel_left base size) at read),
)
