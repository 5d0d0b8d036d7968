-- The same part of a message read at another place: without fault here, it is so there, and has the same size.
-- Assumes nothing.
use mathlib.Core.Path.{◌≡◌, refl, ap}
use mathlib.Core.List.{List}
use Prim.Native.Nat.{ℕ, ◌+◌, ◌≤◌, ◌<◌}
use native.Mathlib.Omega.{arith}
use lib.ListN.{drop}
use lib.Dec.{ltb, eqb}
use borrow.Author.Tests.{ltb-false, eqb-false}
use Rattle.options.specs.Text.{Noted}
use Rattle.std.specs.Prelude.{Some, None}
use Rattle.std.specs.Prelude.{Ok, Err}
use Rattle.base.specs.Pick.{pick}
use Rattle.base.proofs.Picks.{both, one_test, one_test_case}
use Rattle.cbor.specs.declared.token.Token.{Token}
use Rattle.cbor.specs.Token.{token_at, size_at, items_in, up_to}
use Rattle.cbor.proofs.Tokens.{token_has, is_array, is_number}
use Rattle.options.specs.declared.locator.Locator.{Locator}
use Rattle.options.specs.declared.objective.Objective.{Objective}
use Rattle.options.specs.Pair.{PairTag}
use Rattle.options.specs.declared.pair.Pair.{Pair}
use Rattle.options.specs.Text.{first_of, content_in}
use Rattle.options.specs.Part.{Read, part}
use Rattle.options.specs.Locator.{address_fits, protocol_of, port_of, text_of, locator_in, locator_reached}
use Rattle.options.specs.Objective.{objective_in, objective_named}
use Rattle.options.specs.Pair.{is_empty, pair_levels, pair_tagged, pair_tail, pair_led, pair_in}
use Rattle.options.proofs.Needed.{needed_both}
use Rattle.options.proofs.Texts.{none_first, NoneMoves, bad_text_moves, long_name_moves}

-- a token stands past the head before it
after_head : (s : List ℕ) (at : ℕ) → (token_at s at).major < 8 → 1 ≤ (token_at s (token_at s at).next).at
after_head s at there = omega (arith, (token_has s at).some there, (token_has s (token_at s at).next).here)

-- ---- locators
-- what is read at another place, by what is read at this one: a locator without fault is one there too, of the same
-- size
abbrev pub LocatorMoves : Read Locator → Read Locator → Type 0
LocatorMoves (Err e) y = Unit {0}
LocatorMoves (Ok l) y = l.bad ≡ None → (l' : Locator) × (y ≡ part l' l.size None None)

-- two locators of one size, the second without fault where the first is
locator_got : {l' : Locator} {size : ℕ} {bad bad' : Noted} → NoneMoves bad bad' → bad ≡ None
    → (l'' : Locator) × (part l' size bad' None ≡ part l'' size None None)
locator_got {l'} {size} moves z = (l', ap (λ (b : Noted). part l' size b None) (moves z))

-- a locator read at another place
pub locator_moves : (base base' : ℕ) (s : List ℕ) → LocatorMoves (locator_in base s) (locator_in base' s)
unfolding locator_in locator_reached text_of
locator_moves base base' s =
    let a = token_at s 0 in
    let k = token_at s a.next in
    let kind = up_to 106 k in
    let b = token_at s k.next in
    let p = token_at s b.next in
    one_test LocatorMoves (eqb (items_in a) 0) tt
    (one_test LocatorMoves (ltb kind 103) tt
    (one_test_case LocatorMoves (ltb 106 kind) (λ _. tt)
    (λ t.
    let (number, _) = is_number 106 k (ltb-false 106 kind t) in
    let some = after_head s a.next (omega arith) in
    one_test LocatorMoves (eqb a.arg 4)
    (one_test LocatorMoves (address_fits kind b)
    (needed_both LocatorMoves (protocol_of kind p) tt
    (λ protocol. needed_both LocatorMoves (port_of kind (token_at s p.next)) tt
    (λ port. locator_got (one_test NoneMoves (ltb kind 105) (λ _. refl) (bad_text_moves (content_in s b) (base + b.at) (base' + b.at))))))
    tt)
    tt)))

-- ---- objectives
-- what is read at another place, by what is read at this one: an objective without fault is one there too, of the same
-- size
abbrev pub ObjectiveMoves : Read Objective → Read Objective → Type 0
ObjectiveMoves (Err e) y = Unit {0}
ObjectiveMoves (Ok o) y = o.bad ≡ None → o.long ≡ None → (o' : Objective) × (y ≡ part o' o.size None None)

-- two objectives of one size, the second without fault where the first is
objective_got : {o' : Objective} {size : ℕ} {bad bad' long long' : Noted} → NoneMoves bad bad' → NoneMoves long long' → bad ≡ None → long ≡ None
    → (o'' : Objective) × (part o' size bad' long' ≡ part o'' size None None)
objective_got {o'} moves moves' z z' = (o', rw (moves z, moves' z') refl)

-- an objective read at another place
pub objective_moves : (levels base base' : ℕ) (s : List ℕ) → ObjectiveMoves (objective_in levels base s) (objective_in levels base' s)
unfolding objective_in objective_named
objective_moves levels base base' s =
    let a = token_at s 0 in
    let n = token_at s a.next in
    let f = token_at s n.next in
    let c = token_at s f.next in
    one_test_case ObjectiveMoves (eqb (items_in a) 0) (λ _. tt)
    (λ t.
    let four : a.major ≡ 4 = is_array a (eqb-false (items_in a) 0 t) in
    let some = after_head s 0 (omega arith) in
    let bad = bad_text_moves (content_in s n) (base + n.at) (base' + n.at) in
    let long = long_name_moves n (base + n.at) (base' + n.at) in
    one_test ObjectiveMoves (eqb n.major 3)
    (one_test ObjectiveMoves (ltb a.arg 3) tt
    (one_test ObjectiveMoves (ltb 4 a.arg) tt
    (one_test ObjectiveMoves (ltb 15 (up_to 15 f)) tt
    (one_test ObjectiveMoves (ltb 255 (up_to 255 c)) tt
    (one_test ObjectiveMoves (eqb a.arg 3) (objective_got bad long)
    (one_test ObjectiveMoves (eqb (size_at levels s c.next) 0) tt (objective_got bad long)))))))
    tt)

-- ---- pairs
-- what is read at another place, by what is read at this one: a pair without fault is one there too, of the same size
abbrev pub PairMoves : Read Pair → Read Pair → Type 0
PairMoves (Err e) y = Unit {0}
PairMoves (Ok p) y = p.bad ≡ None → p.long ≡ None → (o' : Objective) × (t' : PairTag) × (y ≡ part (record { objective = o'; tag = t' }) p.size None None)

-- a pair with a locator, of an objective without fault
tagged_moves : (at : ℕ) (o o' : Objective) (bad long : Noted) (x y : Read Locator) → LocatorMoves x y
    → PairMoves (pair_tagged at o bad long x) (pair_tagged at o' None None y)
unfolding pair_tagged pick
tagged_moves at o o' bad long (Err e) y h = tt
tagged_moves at o o' bad long (Ok l) y h =
    λ z _.
    let (l', e) = h (none_first bad l.bad z).1 in
    (o', Some l', ap (pair_tagged at o' None None) e)

-- a pair with a locator that has no fault is of an objective without fault
tagged_none : (at : ℕ) (o : Objective) (bad long : Noted) (x : Read Locator) (y : Read Pair)
    → (bad ≡ None → long ≡ None → PairMoves (pair_tagged at o bad long x) y) → PairMoves (pair_tagged at o bad long x) y
unfolding pair_tagged
tagged_none at o bad long (Err e) y h = tt
tagged_none at o bad long (Ok l) y h = λ z w. h (none_first bad l.bad z).0 w z w

-- a pair, by its objective
led_moves : (base base' : ℕ) (s : List ℕ) (n at : ℕ) (x y : Read Objective) → ObjectiveMoves x y → PairMoves (pair_led base s n at x) (pair_led base' s n at y)
unfolding pair_led pair_tail
led_moves base base' s n at (Err e) y h = tt
led_moves base base' s n at (Ok p) y h =
    both Fine (eqb n 2)
    (both Fine (is_empty t) (λ f z z'. f z z' z z') (tagged_none (at + p.size) p.value p.bad p.long (locator_in (base + (at + p.size)) (drop
    (at + p.size) s)) _)) (λ _. tt)
    (λ z z'.
    let (o', e) = h z z' in
    rw e
    (one_test PairMoves (eqb n 2)
    (one_test PairMoves (is_empty t) (λ _ _. (o', None, refl))
    (tagged_moves (at + p.size) p.value o' p.bad p.long _ _ (locator_moves (base + (at + p.size)) (base' + (at + p.size)) (drop (at + p.size) s))))
    tt))
  where
    t : Token
    t = token_at s (at + p.size)

    Fine : Read Pair → Type 0
    Fine x = (p.bad ≡ None → p.long ≡ None → PairMoves x (pair_led base' s n at y)) → PairMoves x (pair_led base' s n at y)

-- a pair read at another place
pub pair_moves : (base base' : ℕ) (s : List ℕ) → PairMoves (pair_in base s) (pair_in base' s)
unfolding pair_in
pair_moves base base' s =
    let a = token_at s 0 in
    one_test PairMoves (eqb (items_in a) 0) tt
    (led_moves base base' s a.arg a.next _ _ (objective_moves pair_levels (base + a.next) (base' + a.next) (drop a.next s)))
