-- What is read lies within the part, has so many bytes at least, and is passed over by the walk; and what a `match` has
-- found, said of the definitions.
-- Assumes nothing.
use mathlib.Core.Path.{◌≡◌, refl, sym, ap, ◌∙◌, subst}
use mathlib.Core.Logic.{inl, inr}
use mathlib.Core.List.{List, []}
use mathlib.Core.Bool.{Bool, true, false, ◌&&◌}
use Prim.Native.Nat.{ℕ, zero, suc, ◌+◌, ◌-◌, ◌≤◌, ◌<◌}
use native.Mathlib.Omega.{arith}
use lib.ListN.{length, take, drop, length-drop}
use lib.Dec.{ltb, leb, eqb}
use borrow.Author.Tests.{ltb-false, eqb-true, eqb-false, ne_eqb}
use Rattle.options.specs.Text.{Noted}
use Rattle.std.specs.Prelude.{Option, Some, None, Ok, Err}
use Rattle.base.specs.Pick.{pick}
use Rattle.base.proofs.Bools.{and_left, and_right}
use Rattle.base.proofs.Picks.{pick-case, both}
use Rattle.base.proofs.Parts.{rest_is, drop_past}
use Rattle.cbor.specs.declared.token.Token.{Token}
use Rattle.cbor.specs.Token.{token_at, token_from, nothing_at, size_at, items_in, up_to}
use Rattle.cbor.specs.Head.{head_at}
use Rattle.cbor.specs.Item.{left_under}
use Rattle.cbor.proofs.Tokens.{token_end, token_has, is_array, is_number, size_le}
use Rattle.cbor.proofs.Passes.{Passes, passes_none, passes_then, passes_within, Leaf, leaf_there, leaf_passes, array_passes, size_passes}
use Rattle.options.specs.declared.locator.Locator.{Locator}
use Rattle.options.specs.declared.objective.Objective.{Objective}
use Rattle.options.specs.declared.outcome.Outcome.{Outcome}
use Rattle.options.specs.declared.pair.Pair.{Pair}
use Rattle.options.specs.Part.{Read, departs}
use Rattle.options.proofs.Needed.{needed_case}
use Rattle.options.specs.Locator.{is_null, address_fits, protocol_of, port_of, locator_in, locator_reached}
use Rattle.options.specs.Objective.{objective_from, objective_in, objective_named}
use Rattle.options.specs.Outcome.{reason_in, outcome_in}
use Rattle.options.specs.Pair.{is_empty, pair_levels, pair_tagged, pair_tail, pair_led, pair_in}

-- ---- locators
-- null is a leaf
null_leaf : (t : Token) → is_null t ≡ true → Leaf t
unfolding is_null
null_leaf t q =
    inr (eqb-true t.major 7 (and_left (eqb t.major 7) (eqb t.arg 22) (and_left (eqb t.major 7 && eqb t.arg 22) (eqb (t.body - t.at) 1) q)))

-- an address that fits its kind is a leaf
address_leaf : (kind : ℕ) (t : Token) → address_fits kind t ≡ true → Leaf t
unfolding address_fits
address_leaf kind t =
    pick-case P (leb 105 kind) (λ _ q. inl (omega (arith, eqb-true t.major 3 q)))
    (λ _ q. inl (omega (arith, eqb-true t.major 2 (and_left (eqb t.major 2) _ q))))
  where
    P : Bool → Type 0
    P b = b ≡ true → Leaf t

-- what is read as a protocol or a port is a leaf: a number, or null where the kind may have it
number_leaf : (kind n : ℕ) (null read : Option ℕ) (t : Token) → pick (eqb t.major 0) read (pick (eqb kind 106) (pick (is_null t) null None) None) ≡ Some n
    → Leaf t
number_leaf kind n null read t =
    pick-case P (eqb t.major 0) (λ e _. inl (omega (arith, eqb-true t.major 0 e)))
    (λ _. both P (eqb kind 106) (pick-case P (is_null t) (λ e _. null_leaf t e) (λ _. nothing)) nothing)
  where
    P : Option ℕ → Type 0
    P p = p ≡ Some n → Leaf t

    nothing : P None
    nothing q = absurd (cc)

-- a locator has six bytes at least, and lies within so many
abbrev pub LocatorOk : ℕ → Read Locator → Type 0
LocatorOk room (Err e) = Unit {0}
LocatorOk room (Ok l) = (6 ≤ l.size) × (l.size ≤ room)

-- the walk passes over a locator, of one level
abbrev pub LocatorWalked : List ℕ → Read Locator → Type 0
LocatorWalked s (Err e) = Unit {0}
LocatorWalked s (Ok l) = (left : ℕ) → Passes (suc left) 1 s 0 l.size

-- both: two bytes are its kind's, and one its own head's, its address's, its protocol's and its port's
locator_told : (base : ℕ) (s : List ℕ) → LocatorOk (length s) (locator_in base s) × LocatorWalked s (locator_in base s)
unfolding locator_in locator_reached protocol_of port_of
locator_told base s =
    let a = token_at s 0 in
    let k = token_at s a.next in
    let kind = up_to 106 k in
    let b = token_at s k.next in
    let p = token_at s b.next in
    let q = token_at s p.next in
    pick-case P (eqb (items_in a) 0) (λ _. (tt, tt))
    (λ t₁. pick-case P (ltb kind 103) (λ _. (tt, tt))
    (λ t₂. pick-case P (ltb 106 kind) (λ _. (tt, tt))
    (λ t₃. pick-case P (eqb a.arg 4)
    (λ t₄. pick-case P (address_fits kind b)
    (λ t₅. needed_case P (protocol_of kind p) (tt, tt)
    (λ pn t₆. needed_case P (port_of kind q) (tt, tt)
    (λ qn t₇.
    let four : a.major ≡ 4 = is_array a (eqb-false (items_in a) 0 t₁) in
    let (number, same) = is_number 106 k (ltb-false 106 kind t₃) in
    let high : 103 ≤ kind = ltb-false kind 103 t₂ in
    let address = address_leaf kind b t₅ in
    let protocol = number_leaf kind pn _ _ p t₆ in
    let port = number_leaf kind qn _ _ q t₇ in
    let a₁ : 0 + 1 ≤ a.next = (token_has s 0).some (omega arith) in
    let k₁ : a.next + 2 ≤ k.next = (token_has s a.next).wide (omega arith) in
    let b₁ : k.next + 1 ≤ b.next = (token_has s k.next).some (leaf_there b address) in
    let p₁ : b.next + 1 ≤ p.next = (token_has s b.next).some (leaf_there p protocol) in
    let q₁ : p.next + 1 ≤ q.next = (token_has s p.next).some (leaf_there q port) in (
      (omega arith, token_end s p.next),
      λ left. array_passes s 0 four
          (rw (eqb-true a.arg 4 t₄)
          (passes_then (passes_then (passes_then (leaf_passes s a.next (inl (omega arith))) (leaf_passes s k.next address))
          (leaf_passes s b.next protocol)) (leaf_passes s p.next port))),
    ))))
    (λ _. (tt, tt)))
    (λ _. (tt, tt)))))
  where
    P : Read Locator → Type 0
    P r = LocatorOk (length s) r × LocatorWalked s r

-- so it is passed
pub locator_walked : (base : ℕ) (s : List ℕ) → LocatorWalked s (locator_in base s)
locator_walked base s = (locator_told base s).1

-- ---- accept and decline
-- it lies within so many bytes
abbrev pub OutcomeOk : ℕ → Read Outcome → Type 0
OutcomeOk room (Err e) = Unit {0}
OutcomeOk room (Ok o) = o.size ≤ room

-- the walk passes over it, of one level
abbrev pub OutcomeWalked : List ℕ → Read Outcome → Type 0
OutcomeWalked s (Err e) = Unit {0}
OutcomeWalked s (Ok o) = (left : ℕ) → Passes (suc left) 1 s 0 o.size

-- both
outcome_told : (base : ℕ) (s : List ℕ) → OutcomeOk (length s) (outcome_in base s) × OutcomeWalked s (outcome_in base s)
unfolding outcome_in reason_in
outcome_told base s =
    let a = token_at s 0 in
    let k = token_at s a.next in
    let lead = up_to 102 k in
    let t = token_at s k.next in
    pick-case P (eqb (items_in a) 0) (λ _. (tt, tt))
    (λ t₁. both P (ltb lead 101) (tt, tt)
    (pick-case P (ltb 102 lead) (λ _. (tt, tt))
    (λ t₂.
    let (number, _) = is_number 102 k (ltb-false 102 lead t₂) in
    let array : (n e : ℕ) → a.arg ≡ n → ((left : ℕ) → Passes left n s a.next e) → (left : ℕ) → Passes (suc left) 1 s 0 e =
    λ n e many h left. array_passes s 0 (is_array a (eqb-false (items_in a) 0 t₁)) (rw many (h left)) in
    let first : (left : ℕ) → Passes left 1 s a.next k.next = λ left. leaf_passes s a.next (inl (omega arith)) in
    let alone : eqb a.arg 1 ≡ true → (k.next ≤ length s) × ((left : ℕ) → Passes (suc left) 1 s 0 k.next) =
    λ one. (token_end s a.next, array 1 k.next (eqb-true a.arg 1 one) first) in
    both P (eqb lead 101) (pick-case P (eqb a.arg 1) alone (λ _. (tt, tt)))
    (pick-case P (eqb a.arg 1) alone
    (λ _. pick-case P (eqb a.arg 2)
    (λ two. pick-case P (eqb t.major 3)
    (λ text. (
      token_end s k.next,
      array 2 t.next (eqb-true a.arg 2 two)
          (λ left. passes_then (first left) (leaf_passes s k.next (inl (omega (arith, eqb-true t.major 3 text))))),
    ))
    (λ _. (tt, tt)))
    (λ _. (tt, tt)))))))
  where
    P : Read Outcome → Type 0
    P r = OutcomeOk (length s) r × OutcomeWalked s r

-- so it is passed
pub outcome_walked : (base : ℕ) (s : List ℕ) → OutcomeWalked s (outcome_in base s)
outcome_walked base s = (outcome_told base s).1

-- ---- objectives
-- an objective whose name, and whose count's head, lie before `end`
pub record ObjectiveParts (end : ℕ) (o : Objective) : Type 0 where
  pub name : o.name.at + o.name.len ≤ end
  pub limit : o.count ≤ 255
  pub some : o.count_at + 1 ≤ o.value.at
  pub wide : 23 < o.count → o.count_at + 2 ≤ o.value.at
  pub counted : o.value.at ≤ end

-- it has four bytes at least, lies within so many, and begins before its count
abbrev pub ObjectiveOk : ℕ → ℕ → Read Objective → Type 0
ObjectiveOk base room (Err e) = Unit {0}
ObjectiveOk base room (Ok o) = ObjectiveParts (base + room) o.value × (4 ≤ o.size) × (o.size ≤ room) × (base ≤ o.value.count_at)

-- the walk passes over an objective, of its own level and those of its value
abbrev pub ObjectiveWalked : ℕ → List ℕ → Read Objective → Type 0
ObjectiveWalked levels s (Err e) = Unit {0}
ObjectiveWalked levels s (Ok o) = Passes (suc (left_under levels)) 1 s 0 o.size

-- a head that another is read after has some bytes
some_first : (s : List ℕ) (next : ℕ) → (token_at s 0).next ≡ next → (token_at s next).major < 8 → 1 ≤ next
some_first s zero e there = omega (arith, (token_has s 0).some there)
some_first s (suc n) e there = omega arith

-- both: one byte is its own head's, its name's, its flags' and its count's
objective_told : (levels base : ℕ) (s : List ℕ) → ObjectiveOk base (length s) (objective_in levels base s) × ObjectiveWalked levels s
    (objective_in levels base s)
unfolding objective_in objective_named objective_from
objective_told levels base s =
    pick-case P (eqb (items_in a) 0) (λ _. (tt, tt))
    (λ t₁. pick-case P (eqb n.major 3)
    (λ t₂. pick-case P (ltb a.arg 3) (λ _. (tt, tt))
    (λ t₃. pick-case P (ltb 4 a.arg) (λ _. (tt, tt))
    (λ t₄. pick-case P (ltb 15 (up_to 15 f)) (λ _. (tt, tt))
    (λ t₅. pick-case P (ltb 255 (up_to 255 c)) (λ _. (tt, tt))
    (λ t₆.
    let array : a.major ≡ 4 = is_array a (eqb-false (items_in a) 0 t₁) in
    let made = got (eqb-true n.major 3 t₂) (ltb-false 15 (up_to 15 f) t₅) (ltb-false 255 (up_to 255 c) t₆) in
    let (parts, four, end, three) = made len in
    pick-case P (eqb a.arg 3) (λ t₇. (((made 0).0, four, end, omega arith), array_passes s 0 array (rw (eqb-true a.arg 3 t₇) three)))
    (λ t₇. pick-case P (eqb len 0) (λ _. (tt, tt))
    (λ t₈.
    let items : a.arg ≡ 4 = omega (arith, ltb-false a.arg 3 t₃, ltb-false 4 a.arg t₄, eqb-false a.arg 3 t₇) in (
      (parts, omega arith, omega (arith, size_le levels s c.next), omega arith),
      array_passes s 0 array (rw items (passes_then three (size_passes levels s c.next (eqb-false len 0 t₈)))),
    ))))))))
    (λ _. (tt, tt)))
  where
    a : Token
    a = token_at s 0

    n : Token
    n = token_at s a.next

    f : Token
    f = token_at s n.next

    c : Token
    c = token_at s f.next

    len : ℕ
    len = size_at levels s c.next

    P : Read Objective → Type 0
    P r = ObjectiveOk base (length s) r × ObjectiveWalked levels s r

    got : n.major ≡ 3 → up_to 15 f ≤ 15 → up_to 255 c ≤ 255 → (len : ℕ)
        → ObjectiveParts (base + length s) (objective_from base n (up_to 15 f) c (up_to 255 c) len) × (4 ≤ c.next) × (c.next ≤ length s)
        × Passes (left_under levels) 3 s a.next c.next
    got is-text few byte len =
        let (flags, _) = is_number 15 f few in
        let (number, same) = is_number 255 c byte in
        let a₁ : 1 ≤ a.next = some_first s a.next refl (omega arith) in
        let n₁ : a.next + 1 ≤ n.next = (token_has s a.next).some (omega arith) in
        let f₁ : n.next + 1 ≤ f.next = (token_has s n.next).some (omega arith) in
        let c₁ : f.next + 1 ≤ c.next = (token_has s f.next).some (omega arith) in
        let here : c.at ≡ f.next = (token_has s f.next).here in
        let start : n.body ≤ n.next = (token_has s a.next).start in (
          record {
            name = omega (arith, token_end s a.next);
            limit = byte;
            some = omega arith;
            wide = λ h. omega (arith, (token_has s f.next).wide (omega arith));
            counted = omega (arith, token_end s f.next);
          },
          omega arith,
          token_end s f.next,
          passes_then (passes_then (leaf_passes s a.next (inl (omega arith))) (leaf_passes s n.next (inl (omega arith))))
              (leaf_passes s f.next (inl (omega arith))),
        )

-- so it is passed
pub objective_walked : (levels base : ℕ) (s : List ℕ) → ObjectiveWalked levels s (objective_in levels base s)
objective_walked levels base s = (objective_told levels base s).1

-- ---- pairs
-- a pair has six bytes at least, lies within so many, and begins before its objective's count
abbrev pub PairOk : ℕ → ℕ → Read Pair → Type 0
PairOk base room (Err e) = Unit {0}
PairOk base room (Ok p) = ObjectiveParts (base + room) p.value.objective × (6 ≤ p.size) × (p.size ≤ room) × (base ≤ p.value.objective.count_at)

-- at a place
pub locator_within : (s : List ℕ) (base at : ℕ) (r x : Read Locator) → r ≡ locator_in base (drop at s) → r ≡ x → LocatorOk (length s - at) x
locator_within s base at r x e q = rw (length-drop at s) at (subst (LocatorOk (length (drop at s))) (sym e ∙ q) (locator_told base (drop at s)).0)

pub outcome_within : (s : List ℕ) (base at : ℕ) (r x : Read Outcome) → r ≡ outcome_in base (drop at s) → r ≡ x → OutcomeOk (length s - at) x
outcome_within s base at r x e q = rw (length-drop at s) at (subst (OutcomeOk (length (drop at s))) (sym e ∙ q) (outcome_told base (drop at s)).0)

pub objective_within : (levels : ℕ) (s : List ℕ) (base at : ℕ) (r x : Read Objective) → r ≡ objective_in levels base (drop at s) → r ≡ x
    → ObjectiveOk base (length s - at) x
objective_within levels s base at r x e q =
    rw (length-drop at s) at (subst (ObjectiveOk base (length (drop at s))) (sym e ∙ q) (objective_told levels base (drop at s)).0)

-- at a part
pub locator_fits : (s : List ℕ) (base at : ℕ) (r x : Read Locator) → r ≡ locator_in base (take (length s - at) (drop at s)) → r ≡ x
    → LocatorOk (length s - at) x
locator_fits s base at r x e q = locator_within s base at r x (e ∙ ap (locator_in base) (rest_is at s)) q

pub objective_fits : (levels : ℕ) (s : List ℕ) (base at : ℕ) (r x : Read Objective) → r ≡ objective_in levels base (take (length s - at) (drop at s)) → r ≡ x
    → ObjectiveOk base (length s - at) x
objective_fits levels s base at r x e q = objective_within levels s base at r x (e ∙ ap (objective_in levels base) (rest_is at s)) q

-- what a `match` has found
pub tail_found : (base : ℕ) (s : List ℕ) (at : ℕ) (o : Objective) (bad long : Noted) (t : Token) (b : Bool) (r x : Read Locator)
    → t ≡ token_at s at → b ≡ is_empty t → b ≡ false → r ≡ locator_in (base + at) (take (length s - at) (drop at s)) → r ≡ x
    → pair_tagged at o bad long x ≡ pair_tail base s at o bad long
unfolding pair_tail pick
tail_found base s at o bad long t b r x e f g h q = rw (← e, ← f, g, ← rest_is at s, ← h, q)

pub pair_found : (base : ℕ) (s : List ℕ) (a : Token) (n : ℕ) (r x : Read Objective)
    → a ≡ token_at s 0 → n ≡ items_in a → (n ≡ 0 → ⊥) → r ≡ objective_in 3 (base + a.next) (take (length s - a.next) (drop a.next s)) → r ≡ x
    → pair_led base s a.arg a.next x ≡ pair_in base s
unfolding pair_in pick
pair_found base s a n r x e f g h q = rw (← e, ← f, ne_eqb n 0 g, ← rest_is a.next s, ← h, q)

-- what the test of an empty array says
pub empty_is : (t : Token) → is_empty t ≡ true → (t.major ≡ 4) × (t.arg ≡ 0)
unfolding is_empty
empty_is t q =
    (eqb-true t.major 4 (and_left (eqb t.major 4) (eqb t.arg 0) q), eqb-true t.arg 0 (and_right (eqb t.major 4) (eqb t.arg 0) q))

-- the walk passes over a pair, of its own level and those of its objective
abbrev pub PairWalked : List ℕ → Read Pair → Type 0
PairWalked s (Err e) = Unit {0}
PairWalked s (Ok p) = Passes (suc (suc (left_under pair_levels))) 1 s 0 p.size

module _ (base : ℕ) (s : List ℕ) where
  -- both
  abbrev Told : Read Pair → Type 0
  Told r = PairOk base (length s) r × PairWalked s r

  -- a pair whose second item is passed is passed
  abbrev Second : ℕ → Type 0
  Second at = (e : ℕ) → Passes (suc (left_under pair_levels)) 1 s at e → Passes (suc (suc (left_under pair_levels))) 1 s 0 e

  -- a pair with its tag
  tagged_told : (at : ℕ) (o : Objective) (bad long : Noted) (x : Read Locator) → ObjectiveParts (base + length s) o → base ≤ o.count_at
      → LocatorOk (length s - at) x → LocatorWalked (drop at s) x → Second at
      → Told (pair_tagged at o bad long x)
  unfolding pair_tagged
  tagged_told at o bad long (Err e) parts later h walked close = (tt, tt)
  tagged_told at o bad long (Ok l) parts later h walked close =
      ((parts, omega arith, omega arith, later), close (at + l.size) (passes_within (walked (left_under pair_levels))))

  -- a pair from its objective on
  led_told : (x : Read Objective) → (token_at s 0).major ≡ 4 → ObjectiveOk (base + (token_at s 0).next) (length s - (token_at s 0).next) x
      → ObjectiveWalked pair_levels (drop (token_at s 0).next s) x → Told (pair_led base s (token_at s 0).arg (token_at s 0).next x)
  unfolding pair_led pair_tail is_empty
  led_told (Err e) array h walked = (tt, tt)
  led_told (Ok p) array h walked =
      let o = p.value in
      let size = p.size in
      let bad = p.bad in
      let long = p.long in
      let n = (token_at s 0).arg in
      let at = (token_at s 0).next in
      let t = token_at s (at + size) in
      let some : 0 + 1 ≤ at = (token_has s 0).some (omega arith) in
      let end : base + at + (length s - at) ≡ base + length s = omega arith in
      let parts = subst (λ (e : ℕ). ObjectiveParts e o) end h.0 in
      pick-case Told (eqb n 2)
      (λ two.
      let second : Second (at + size) = λ e tag. array_passes s 0 array (rw (eqb-true n 2 two) (passes_then (passes_within walked) tag)) in
      pick-case Told _
      (λ e.
      let (four, none) = empty_is t e in
      let t₁ : at + size + 1 ≤ t.next = (token_has s (at + size)).some (omega arith) in
      ((parts, omega arith, token_end s (at + size), omega (arith, h.3)), second t.next (array_passes s (at + size) four (rw none passes_none))))
      (λ _. tagged_told (at + size) o bad long _ parts (omega (arith, h.3)) (locator_within s (base + (at + size)) (at + size) _ _ refl refl)
      (locator_walked (base + (at + size)) (drop (at + size) s)) second))
      (λ _. (tt, tt))

  -- four bytes are its objective's, and one its own head's and its tag's
  pair_told : Told (pair_in base s)
  unfolding pair_in
  pair_told =
      let a = token_at s 0 in
      pick-case Told (eqb (items_in a) 0) (λ _. (tt, tt))
      (λ t.
      let four = is_array a (eqb-false (items_in a) 0 t) in
      led_told _ four (objective_within pair_levels s (base + a.next) a.next _ _ refl refl)
      (objective_walked pair_levels (base + a.next) (drop a.next s)))

  -- so it is passed
  pub pair_walked : PairWalked s (pair_in base s)
  pair_walked = pair_told.1

pub pair_within : (s : List ℕ) (base at : ℕ) (r x : Read Pair) → r ≡ pair_in base (drop at s) → r ≡ x → PairOk base (length s - at) x
pair_within s base at r x e q = rw (length-drop at s) at (subst (PairOk base (length (drop at s))) (sym e ∙ q) (pair_told base (drop at s)).0)

-- no part is left past the message's end
pub none_past : (P : List ℕ → Type 0) (s : List ℕ) (at : ℕ) → length s ≤ at → P [] → P (drop at s)
none_past P s at h p = subst P (sym (drop_past s at h)) p

pub locator_past : (s : List ℕ) (at : ℕ) → length s ≤ at → departs at ≡ locator_in at (drop at s)
unfolding locator_in locator_reached items_in token_at token_from nothing_at head_at pick
locator_past s at h = none_past (λ (l : List ℕ). departs at ≡ locator_in at l) s at h refl

pub outcome_past : (s : List ℕ) (at : ℕ) → length s ≤ at → departs at ≡ outcome_in at (drop at s)
unfolding outcome_in reason_in items_in token_at token_from nothing_at head_at pick
outcome_past s at h = none_past (λ (l : List ℕ). departs at ≡ outcome_in at l) s at h refl

pub objective_past : (levels : ℕ) (s : List ℕ) (at : ℕ) → length s ≤ at → departs at ≡ objective_in levels at (drop at s)
unfolding objective_in objective_named items_in token_at token_from nothing_at head_at pick
objective_past levels s at h = none_past (λ (l : List ℕ). departs at ≡ objective_in levels at l) s at h refl

pub pair_past : (s : List ℕ) (at : ℕ) → length s ≤ at → departs at ≡ pair_in at (drop at s)
unfolding pair_in items_in token_at token_from nothing_at head_at pick
pair_past s at h = none_past (λ (l : List ℕ). departs at ≡ pair_in at l) s at h refl
