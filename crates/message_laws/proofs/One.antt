-- What an item is by the CDDL's rules, it is in one way.
-- Assumes nothing.
use mathlib.Core.Path.{◌≡◌, refl, ap, ap₂}
use mathlib.Core.List.{List, ◌∷◌}
use mathlib.Core.Option.{Option, none, some}
use Prim.Native.Nat.{ℕ}
use Rattle.cbor.specs.Tree.{Item, Items}
use Rattle.rfc8990.specs.Message.{Loc, Obj, Pair}
use Rattle.rfc8990.specs.Cddl.{Protocol, Port, OrNull, LocatorItem, ObjectiveItem, LocatorItems, PairItem, PairItems, Value}

protocol_one : {x : Item} {n n' : ℕ} → Protocol x n → Protocol x n' → n ≡ n'
protocol_one Protocol.tcp Protocol.tcp = refl
protocol_one Protocol.udp Protocol.udp = refl

port_one : {x : Item} {n n' : ℕ} → Port x n → Port x n' → n ≡ n'
port_one (Port.port _) (Port.port _) = refl

-- null is neither
uri_protocol_one : {x : Item} {n n' : Option ℕ} → OrNull Protocol x n → OrNull Protocol x n' → n ≡ n'
uri_protocol_one OrNull.is_null OrNull.is_null = refl
uri_protocol_one OrNull.is_null (OrNull.is i) = elim i [ ]
uri_protocol_one (OrNull.is i) OrNull.is_null = elim i [ ]
uri_protocol_one (OrNull.is i) (OrNull.is i') = ap some (protocol_one i i')

uri_port_one : {x : Item} {n n' : Option ℕ} → OrNull Port x n → OrNull Port x n' → n ≡ n'
uri_port_one OrNull.is_null OrNull.is_null = refl
uri_port_one OrNull.is_null (OrNull.is i) = elim i [ ]
uri_port_one (OrNull.is i) OrNull.is_null = elim i [ ]
uri_port_one (OrNull.is i) (OrNull.is i') = ap some (port_one i i')

-- an item is one locator at most
pub locator_one : {x : Item} {l l' : Loc} → LocatorItem x l → LocatorItem x l' → l ≡ l'
locator_one (LocatorItem.v6 _ i j) (LocatorItem.v6 _ i' j') = rw (protocol_one i i', port_one j j')
locator_one (LocatorItem.v4 _ i j) (LocatorItem.v4 _ i' j') = rw (protocol_one i i', port_one j j')
locator_one (LocatorItem.domain i j) (LocatorItem.domain i' j') = rw (protocol_one i i', port_one j j')
locator_one (LocatorItem.uri i j) (LocatorItem.uri i' j') = rw (uri_protocol_one i i', uri_port_one j j')

-- one objective
pub objective_one : {x : Item} {o o' : Obj Value} → ObjectiveItem x o → ObjectiveItem x o' → o ≡ o'
objective_one (ObjectiveItem.bare _ _) (ObjectiveItem.bare _ _) = refl
objective_one (ObjectiveItem.valued _ _) (ObjectiveItem.valued _ _) = refl

-- one pair
pair_one : {x : Item} {p p' : Pair Value} → PairItem x p → PairItem x p' → p ≡ p'
pair_one (PairItem.untagged i) (PairItem.untagged i') = ap (λ (o : Obj Value). (o, none)) (objective_one i i')
pair_one (PairItem.untagged i) (PairItem.tagged i' j') = elim j' [ ]
pair_one (PairItem.tagged i j) (PairItem.untagged i') = elim j [ ]
pair_one (PairItem.tagged i j) (PairItem.tagged i' j') = ap₂ (λ (o : Obj Value) (l : Loc). (o, some l)) (objective_one i i') (locator_one j j')

-- items are one list of locators at most
pub locators_one : {xs : Items} {ls ls' : List Loc} → LocatorItems xs ls → LocatorItems xs ls' → ls ≡ ls'
locators_one LocatorItems.empty LocatorItems.empty = refl
locators_one (LocatorItems.more i is) (LocatorItems.more i' is') = ap₂ (λ (l : Loc) (ls : List Loc). l ∷ ls) (locator_one i i') (locators_one is is')

-- one list of pairs
pub pairs_one : {xs : Items} {ps ps' : List (Pair Value)} → PairItems xs ps → PairItems xs ps' → ps ≡ ps'
pairs_one PairItems.empty PairItems.empty = refl
pairs_one (PairItems.more i is) (PairItems.more i' is') = ap₂ (λ (p : Pair Value) (ps : List (Pair Value)). p ∷ ps) (pair_one i i') (pairs_one is is')
