-- How many levels a locator has; and pairs, as many as any others of the same pairs.
-- Assumes nothing.
use mathlib.Core.Path.{◌≡◌, refl}
use mathlib.Core.List.{List}
use mathlib.Core.Option.{Option}
use Prim.Native.Nat.{ℕ}
use Rattle.cbor.specs.Tree.{Item, Items, depth, depths}
use Rattle.rfc8990.specs.Message.{Loc, Obj, Pair}
use Rattle.rfc8990.specs.Cddl.{Protocol, Port, OrNull, LocatorItem, ObjectiveItem, Value, PairItem, PairItems}

-- a protocol has none
protocol_flat : {x : Item} {n : ℕ} → Protocol x n → depth x ≡ 0
unfolding depth
protocol_flat Protocol.tcp = refl
protocol_flat Protocol.udp = refl

-- nor has a port
port_flat : {x : Item} {n : ℕ} → Port x n → depth x ≡ 0
unfolding depth
port_flat (Port.port h) = refl

-- nor null
or_null_flat : {P : Item → ℕ → Type 0} {x : Item} {n : Option ℕ} → ((m : ℕ) → P x m → depth x ≡ 0) → OrNull P x n → depth x ≡ 0
unfolding depth
or_null_flat f OrNull.is_null = refl
or_null_flat f (OrNull.is {n = n} i) = f n i

-- a locator has one
pub locator_deep : {x : Item} {l : Loc} → LocatorItem x l → depth x ≡ 1
unfolding depth
locator_deep (LocatorItem.v6 _ i j) = rw (protocol_flat i, port_flat j)
locator_deep (LocatorItem.v4 _ i j) = rw (protocol_flat i, port_flat j)
locator_deep (LocatorItem.domain i j) = rw (protocol_flat i, port_flat j)
locator_deep (LocatorItem.uri i j) = rw (or_null_flat (λ n. protocol_flat) i, or_null_flat (λ n. port_flat) j)

-- an objective has those of its value
objective_deep : {x y : Item} {obj : Obj Value} → ObjectiveItem x obj → ObjectiveItem y obj → depth x ≡ depth y
unfolding depth
objective_deep (ObjectiveItem.bare _ _) (ObjectiveItem.bare _ _) = refl
objective_deep (ObjectiveItem.valued _ _) (ObjectiveItem.valued _ _) = refl

-- a pair's
pair_deep : {x y : Item} {p : Pair Value} → PairItem x p → PairItem y p → depth x ≡ depth y
unfolding depth
pair_deep (PairItem.untagged o) (PairItem.untagged o') = rw (objective_deep o o')
pair_deep (PairItem.tagged o l) (PairItem.tagged o' l') = rw (objective_deep o o', locator_deep l, locator_deep l')

-- those of all
pub pairs_deep : {xs ys : Items} {ps : List (Pair Value)} → PairItems xs ps → PairItems ys ps → depths xs ≡ depths ys
unfolding depth
pairs_deep PairItems.empty PairItems.empty = refl
pairs_deep (PairItems.more i is) (PairItems.more j js) = rw (pair_deep i j, pairs_deep is js)
