-- A message of the grammar, as it is written: with small numbers, and with items as values.
-- Assumes nothing.
use mathlib.Core.List.{List, map}
use mathlib.Core.Option
use mathlib.Core.Option.{Option}
use Prim.Native.Nat.{ℕ, ◌≤◌}
use native.Mathlib.Omega.{arith}
use lib.Dec.{lit<}
use Rattle.base.specs.Lists.{Every}
use Rattle.cbor.specs.Item.{most_levels}
use Rattle.cbor.specs.Tree.{Item, Items, depth, depths, Good, Goods}
use Rattle.rfc8990.specs.Message.{Loc, Obj, Pair, Tgts, Msg, valued_obj, valued_pair, valued}
use Rattle.rfc8990.specs.Cddl.{joined, Protocol, Port, OrNull, LocatorItem, ObjectiveItem, LocatorItems, Value}
use Rattle.rfc8990.specs.Cddl.{PairItem, PairItems, Number, OptionalItems, TgtsItems, MessageItem}
use Rattle.writer_laws.specs.Plain.{value_bytes, plain}
use Rattle.writer_laws.proofs.Script.{Small, Each, Valued}
use Rattle.writer_laws.proofs.Once.{SmallObj, ValuedObj, SmallLoc, SmallPair, ValuedPair, SmallTargets, SmallMsg, ValuedMsg}

-- ---- the numbers
-- a session, a TTL or a waiting time
number_small : {x : Item} {n : ℕ} → Number x n → Small n
number_small (Number.number h) = omega arith

-- an objective's
objective_small : {x : Item} {o : Obj Value} → ObjectiveItem x o → SmallObj (valued_obj value_bytes o)
unfolding valued_obj
objective_small (ObjectiveItem.bare f c) = (omega arith, omega arith)
objective_small (ObjectiveItem.valued f c) = (omega arith, omega arith)

-- a locator's protocol
protocol_small : {x : Item} {n : ℕ} → Protocol x n → Small n
protocol_small Protocol.tcp = lit< tt
protocol_small Protocol.udp = lit< tt

-- and its port
port_small : {x : Item} {n : ℕ} → Port x n → Small n
port_small (Port.port h) = omega arith

-- or null
or_null_small : {P : Item → ℕ → Type 0} {x : Item} {n : Option ℕ} → ((m : ℕ) → P x m → Small m) → OrNull P x n → Each Small n
or_null_small f OrNull.is_null = tt
or_null_small f (OrNull.is {n = n} i) = f n i

-- a locator's
locator_small : {x : Item} {l : Loc} → LocatorItem x l → SmallLoc l
locator_small (LocatorItem.v6 _ i j) = (protocol_small i, port_small j)
locator_small (LocatorItem.v4 _ i j) = (protocol_small i, port_small j)
locator_small (LocatorItem.domain i j) = (protocol_small i, port_small j)
locator_small (LocatorItem.uri i j) = (or_null_small (λ n. protocol_small) i, or_null_small (λ n. port_small) j)

-- those of locators
locators_small : {xs : Items} {ls : List Loc} → LocatorItems xs ls → Every SmallLoc ls
locators_small LocatorItems.empty = tt
locators_small (LocatorItems.more i is) = (locator_small i, locators_small is)

-- a pair's
pair_small : {x : Item} {p : Pair Value} → PairItem x p → SmallPair (valued_pair value_bytes p)
unfolding valued_pair
pair_small (PairItem.untagged o) = (objective_small o, tt)
pair_small (PairItem.tagged o l) = (objective_small o, locator_small l)

-- those of pairs
pairs_small : {xs : Items} {ps : List (Pair Value)} → PairItems xs ps → Every SmallPair (map (valued_pair value_bytes) ps)
pairs_small PairItems.empty = tt
pairs_small (PairItems.more i is) = (pair_small i, pairs_small is)

-- those of an objective that may be left out
optional_small : {xs : Items} {o : Option (Obj Value)} → OptionalItems xs o → Each SmallObj (Option.map (valued_obj value_bytes) o)
optional_small OptionalItems.without = tt
optional_small (OptionalItems.with_one o) = objective_small o

-- those of a Response's locators or divert, and of its objective
tgts_small : {xs : Items} {tgts : Tgts} {o : Option (Obj Value)} → TgtsItems xs tgts o
    → SmallTargets tgts × Each SmallObj (Option.map (valued_obj value_bytes) o)
tgts_small (TgtsItems.locators is o) = (locators_small is, optional_small o)
tgts_small (TgtsItems.divert is o) = (locators_small is, optional_small o)

-- Every message's numbers are small.
pub plain_small : {x : Item} {msg : Msg Value} → MessageItem x msg → SmallMsg (plain msg)
unfolding plain valued
plain_small MessageItem.noop = tt
plain_small (MessageItem.discovery i j o) = (number_small i, objective_small o)
plain_small (MessageItem.response i j t a) = let (x, o) = tgts_small a in (number_small i, number_small t, x, o)
plain_small (MessageItem.request_negotiation i o) = (number_small i, objective_small o)
plain_small (MessageItem.request_synchronization i o) = (number_small i, objective_small o)
plain_small (MessageItem.negotiate i o) = (number_small i, objective_small o)
plain_small (MessageItem.end i e) = number_small i
plain_small (MessageItem.wait i t) = (number_small i, number_small t)
plain_small (MessageItem.synch i o) = (number_small i, objective_small o)
plain_small (MessageItem.flood i j t p) = (number_small i, number_small t, pairs_small p)
plain_small (MessageItem.invalid i) = number_small i
plain_small (MessageItem.invalid_with i) = number_small i

-- ---- the values
-- without fault, and of no more levels than allowed
record Fine (x : Item) : Type 0 where
  good : Good x
  shallow : depth x ≤ most_levels

-- several
record Fines (xs : Items) : Type 0 where
  good : Goods xs
  shallow : depths xs ≤ most_levels

-- an array's items
fine_items : {w : ℕ} {xs : Items} → Fine (Item.array w xs) → Fines xs
unfolding depth
fine_items f = record { good = f.good.1; shallow = omega (arith, f.shallow) }

-- the first of several
fine_first : {x : Item} {xs : Items} → Fines (Items.more x xs) → Fine x
unfolding depth
fine_first f = record { good = f.good.0; shallow = omega (arith, f.shallow) }

-- and the others
fine_rest : {x : Item} {xs : Items} → Fines (Items.more x xs) → Fines xs
unfolding depth
fine_rest f = record { good = f.good.1; shallow = omega (arith, f.shallow) }

-- an array's third item, and what follows it
fine_third : {w : ℕ} {a b x : Item} {xs : Items} → Fine (Item.array w (Items.more a (Items.more b (Items.more x xs)))) → Fine x
fine_third f = fine_first (fine_rest (fine_rest (fine_items f)))

fine_after : {w : ℕ} {a b c : Item} {xs : Items} → Fine (Item.array w (Items.more a (Items.more b (Items.more c xs)))) → Fines xs
fine_after f = fine_rest (fine_rest (fine_rest (fine_items f)))

-- an objective's
objective_valued : {x : Item} {o : Obj Value} → Fine x → ObjectiveItem x o → ValuedObj (valued_obj value_bytes o)
unfolding valued_obj value_bytes
objective_valued f (ObjectiveItem.bare _ _) = Valued.none
objective_valued f (ObjectiveItem.valued {x = x} _ _) = let v = fine_first (fine_after f) in Valued.one x v.good v.shallow

-- a pair's
pair_valued : {x : Item} {p : Pair Value} → Fine x → PairItem x p → ValuedPair (valued_pair value_bytes p)
unfolding valued_pair
pair_valued f (PairItem.untagged o) = objective_valued (fine_first (fine_items f)) o
pair_valued f (PairItem.tagged o l) = objective_valued (fine_first (fine_items f)) o

-- those of pairs
pairs_valued : {xs : Items} {ps : List (Pair Value)} → Fines xs → PairItems xs ps → Every ValuedPair (map (valued_pair value_bytes) ps)
pairs_valued f PairItems.empty = tt
pairs_valued f (PairItems.more i is) = (pair_valued (fine_first f) i, pairs_valued (fine_rest f) is)

-- that of an objective that may be left out
optional_valued : {xs : Items} {o : Option (Obj Value)} → Fines xs → OptionalItems xs o → Each ValuedObj (Option.map (valued_obj value_bytes) o)
optional_valued f OptionalItems.without = tt
optional_valued f (OptionalItems.with_one o) = objective_valued (fine_first f) o

-- the second of two lists
joined_fines : (xs ys : Items) → Fines (joined xs ys) → Fines ys
joined_fines Items.done ys f = f
joined_fines (Items.more x xs) ys f = joined_fines xs ys (fine_rest f)

-- that of a Response's objective
tgts_valued : {xs : Items} {tgts : Tgts} {o : Option (Obj Value)} → Fines xs → TgtsItems xs tgts o → Each ValuedObj (Option.map (valued_obj value_bytes) o)
tgts_valued f (TgtsItems.locators {xs = xs} {ys = ys} is o) = optional_valued (joined_fines xs ys f) o
tgts_valued f (TgtsItems.divert is o) = optional_valued (fine_rest f) o

-- a message's
message_valued : {x : Item} {msg : Msg Value} → Fine x → MessageItem x msg → ValuedMsg (plain msg)
unfolding plain valued value_bytes
message_valued f MessageItem.noop = tt
message_valued f (MessageItem.discovery i j o) = objective_valued (fine_first (fine_after f)) o
message_valued f (MessageItem.response i j t a) = tgts_valued (fine_rest (fine_after f)) a
message_valued f (MessageItem.request_negotiation i o) = objective_valued (fine_third f) o
message_valued f (MessageItem.request_synchronization i o) = objective_valued (fine_third f) o
message_valued f (MessageItem.negotiate i o) = objective_valued (fine_third f) o
message_valued f (MessageItem.end i e) = tt
message_valued f (MessageItem.wait i t) = tt
message_valued f (MessageItem.synch i o) = objective_valued (fine_third f) o
message_valued f (MessageItem.flood i j t p) = pairs_valued (fine_rest (fine_after f)) p
message_valued f (MessageItem.invalid i) = Valued.none
message_valued f (MessageItem.invalid_with {x = x} i) = let v = fine_third f in Valued.one x v.good v.shallow

-- Every message's values are items.
pub plain_valued : {x : Item} {msg : Msg Value} → Good x → depth x ≤ most_levels → MessageItem x msg → ValuedMsg (plain msg)
plain_valued g d i = message_valued (record { good = g; shallow = d }) i
