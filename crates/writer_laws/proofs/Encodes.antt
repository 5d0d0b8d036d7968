-- An item without fault that is a message is encoded as the writer encodes that message: every head is the shortest
-- one.
-- Assumes nothing.
use mathlib.Core.Path.{◌≡◌, refl, ap, ◌∙◌}
use mathlib.Core.List.{List, [], ◌∷◌, ◌++◌, map, flat_map, append_assoc, append-nil}
use mathlib.Core.Option
use mathlib.Core.Option.{Option}
use Prim.Native.Nat.{ℕ, suc, ◌+◌}
use native.Mathlib.Numerals.{one-add}
use native.Mathlib.Omega.{arith}
use lib.Dec.{T, ltb, lit<}
use lib.ListN.{length}
use Rattle.base.specs.Pick.{pick}
use Rattle.cbor.specs.Put.{head}
use Rattle.cbor.specs.Tree.{Item, Items, Right, info_of, head_bytes, count, encode, encodes, Good, Goods}
use Rattle.base.specs.BigEndian.{bytes_of}
use Rattle.rfc8990.specs.Message.{Loc, Obj, Pair, Tgts, Outc, Msg, valued_obj, valued_pair, valued}
use Rattle.rfc8990.specs.Cddl.{uint, list, array, Protocol, Port, OrNull, LocatorItem, LocatorItems, Value, ObjectiveItem, PairItem}
use Rattle.rfc8990.specs.Cddl.{PairItems, Number, Initiator, OptionalItems, joined, TgtsItems, OutcItem, MessageItem}
use Rattle.rfc8990.specs.Encoding.{string, number_or_null, reached, fixed, encode_loc, one_more, encode_obj, maybe_obj, how_many, loc_or_empty}
use Rattle.rfc8990.specs.Encoding.{encode_pair, target_items, encode_targets, encode_outc, preamble, exchange, encode_msg}
use Rattle.message_laws.proofs.Response.{count_joined}
use Rattle.message_laws.proofs.Described.{locators_count, pairs_count}
use Rattle.writer_laws.specs.Plain.{value_bytes, plain}

-- ---- heads
-- a head without fault is the shortest
short_head : {major width arg : ℕ} → T (ltb major 7) → Right major width arg → head_bytes major width arg ≡ head major arg
unfolding head
short_head {major} {arg = n} low r = ap (λ w. head_bytes major w n) (r.short (λ e. omega (arith, lit< {m = major} {n = 7} low)))

-- an item has bytes
pub has_bytes : (x : Item) → one_more (encode x) ≡ 1
unfolding one_more encode head_bytes
has_bytes (Item.number a b c) = refl
has_bytes (Item.string a b c) = refl
has_bytes (Item.array a b) = refl
has_bytes (Item.map a b) = refl
has_bytes (Item.tagged a b c) = refl
has_bytes (Item.simple a b) = refl

-- ---- the parts
-- a session, a TTL or a waiting time
number_encodes : {x : Item} {n : ℕ} → Good x → Number x n → encode x ≡ head 0 n
unfolding encode
number_encodes g (Number.number _) = short_head tt g

-- an initiator
initiator_encodes : {x : Item} {bs : List ℕ} → Good x → Initiator x bs → encode x ≡ string 2 bs
unfolding encode string
initiator_encodes g (Initiator.initiator _) = rw (short_head tt g.0)

-- an objective, with or without a value
objective_encodes : {x : Item} {o : Obj Value} → Good x → ObjectiveItem x o → encode x ≡ encode_obj (valued_obj value_bytes o)
unfolding encode count encode_obj string valued_obj value_bytes one_more
objective_encodes g (ObjectiveItem.bare _ _) =
    rw (short_head tt g.0, short_head tt g.1.0.0, short_head tt g.1.1.0, short_head tt g.1.1.1.0) (simp (append_assoc, append-nil))
objective_encodes g (ObjectiveItem.valued {x = x} _ _) =
    rw (short_head tt g.0, short_head tt g.1.0.0, short_head tt g.1.1.0, short_head tt g.1.1.1.0, has_bytes x)
    (simp (append_assoc, append-nil))

-- a locator's protocol
protocol_encodes : {x : Item} {n : ℕ} → Good x → Protocol x n → encode x ≡ head 0 n
unfolding encode
protocol_encodes g Protocol.tcp = short_head tt g
protocol_encodes g Protocol.udp = short_head tt g

-- and its port
port_encodes : {x : Item} {n : ℕ} → Good x → Port x n → encode x ≡ head 0 n
unfolding encode
port_encodes g (Port.port _) = short_head tt g

-- or null, in one byte
or_null_encodes : {P : Item → ℕ → Type 0} {x : Item} {n : Option ℕ} → ((m : ℕ) → P x m → encode x ≡ head 0 m) → OrNull P x n → encode x ≡ number_or_null n
unfolding encode head_bytes info_of bytes_of pick number_or_null
or_null_encodes f OrNull.is_null = refl
or_null_encodes f (OrNull.is {n = n} i) = f n i

-- each of the four locators
locator_encodes : {x : Item} {l : Loc} → Good x → LocatorItem x l → encode x ≡ encode_loc l
unfolding encode count encode_loc fixed reached string
locator_encodes g (LocatorItem.v6 _ i j) =
    rw (short_head tt g.0, short_head tt g.1.0, short_head tt g.1.1.0.0, protocol_encodes g.1.1.1.0 i, port_encodes g.1.1.1.1.0 j)
    (simp (append_assoc, append-nil))
locator_encodes g (LocatorItem.v4 _ i j) =
    rw (short_head tt g.0, short_head tt g.1.0, short_head tt g.1.1.0.0, protocol_encodes g.1.1.1.0 i, port_encodes g.1.1.1.1.0 j)
    (simp (append_assoc, append-nil))
locator_encodes g (LocatorItem.domain i j) =
    rw (short_head tt g.0, short_head tt g.1.0, short_head tt g.1.1.0.0, protocol_encodes g.1.1.1.0 i, port_encodes g.1.1.1.1.0 j)
    (simp (append_assoc, append-nil))
locator_encodes g (LocatorItem.uri i j) =
    rw (
      short_head tt g.0,
      short_head tt g.1.0,
      short_head tt g.1.1.0.0,
      or_null_encodes (λ n. protocol_encodes g.1.1.1.0) i,
      or_null_encodes (λ n. port_encodes g.1.1.1.1.0) j,
    )
    (simp (append_assoc, append-nil))

-- ---- lists
-- locators
locators_encode : {xs : Items} {ls : List Loc} → Goods xs → LocatorItems xs ls → encodes xs ≡ flat_map encode_loc ls
unfolding encode flat_map
locators_encode g LocatorItems.empty = refl
locators_encode g (LocatorItems.more i is) = rw (locator_encodes g.0 i, locators_encode g.1 is)

-- a pair, with a locator or an empty array
pair_encodes : {x : Item} {p : Pair Value} → Good x → PairItem x p → encode x ≡ encode_pair (valued_pair value_bytes p)
unfolding encode count encode_pair loc_or_empty valued_pair
pair_encodes g (PairItem.untagged o) = rw (short_head tt g.0, objective_encodes g.1.0 o, short_head tt g.1.1.0.0) (simp (append_assoc, append-nil))
pair_encodes g (PairItem.tagged o l) =
    rw (short_head tt g.0, objective_encodes g.1.0 o, locator_encodes g.1.1.0 l) (simp (append_assoc, append-nil))

-- pairs
pairs_encode : {xs : Items} {ps : List (Pair Value)} → Goods xs → PairItems xs ps → encodes xs ≡ flat_map encode_pair (map (valued_pair value_bytes) ps)
unfolding encode flat_map
pairs_encode g PairItems.empty = refl
pairs_encode g (PairItems.more i is) = rw (pair_encodes g.0 i, pairs_encode g.1 is)

-- so many as there are
pub pairs_many : (ps : List (Pair Value)) → length ps ≡ length (map (valued_pair value_bytes) ps)
pairs_many [] = refl
pairs_many (p ∷ ps) = ap suc (pairs_many ps)

-- ---- one list after the other
-- their bytes
joined_encodes : (xs ys : Items) → encodes (joined xs ys) ≡ encodes xs ++ encodes ys
unfolding encode
joined_encodes Items.done ys = refl
joined_encodes (Items.more x xs) ys = rw (joined_encodes xs ys, append_assoc)

-- and both are without fault
joined_goods : (xs ys : Items) → Goods (joined xs ys) → Goods xs × Goods ys
joined_goods Items.done ys g = (tt, g)
joined_goods (Items.more x xs) ys g = let (a, b) = joined_goods xs ys g.1 in ((g.0, a), b)

-- an objective that may be left out
optional_encodes : {ys : Items} {o : Option (Obj Value)} → Goods ys → OptionalItems ys o
    → (encodes ys ≡ maybe_obj (Option.map (valued_obj value_bytes) o)) × (count ys ≡ how_many (Option.map (valued_obj value_bytes) o))
unfolding encode count maybe_obj how_many
optional_encodes g OptionalItems.without = (refl, refl)
optional_encodes g (OptionalItems.with_one i) = (append-nil _ ∙ objective_encodes g.0 i, refl)

-- a Response's locators or divert, and its objective
tgts_encodes : {xs : Items} {tgts : Tgts} {o : Option (Obj Value)} → Goods xs → TgtsItems xs tgts o
    → (encodes xs ≡ encode_targets tgts ++ maybe_obj (Option.map (valued_obj value_bytes) o))
    × (count xs ≡ target_items tgts + how_many (Option.map (valued_obj value_bytes) o))
unfolding encode count encode_targets target_items
tgts_encodes g (TgtsItems.locators {xs = xs} {ys = ys} is i) =
    let (gs, gy) = joined_goods xs ys g in
    let (bytes, many) = optional_encodes gy i in
    (rw (joined_encodes xs ys, locators_encode gs is, bytes), rw (count_joined xs ys, locators_count is, many))
tgts_encodes g (TgtsItems.divert is i) =
    let (bytes, many) = optional_encodes g.1 i in (
      rw (short_head tt g.0.0, short_head tt g.0.1.0, locators_encode g.0.1.1 is, bytes, locators_count is, one-add) (simp append_assoc),
      ap suc many ∙ omega arith,
    )

-- how a negotiation ends
outc_encodes : {x : Item} {e : Outc} → Good x → OutcItem x e → encode x ≡ encode_outc e
unfolding encode count encode_outc string
outc_encodes g OutcItem.accept = rw (short_head tt g.0, short_head tt g.1.0) (simp append-nil)
outc_encodes g OutcItem.decline = rw (short_head tt g.0, short_head tt g.1.0) (simp append-nil)
outc_encodes g OutcItem.reason = rw (short_head tt g.0, short_head tt g.1.0, short_head tt g.1.1.0.0) (simp (append_assoc, append-nil))

-- an array whose first items are a kind and a session
preamble_encodes : {w k kind session : ℕ} {s : Item} (xs : Items) → Good (Item.array w (Items.more (uint k kind) (Items.more s xs))) → Number s session
    → encode (Item.array w (Items.more (uint k kind) (Items.more s xs))) ≡ preamble (suc (suc (count xs))) kind session ++ encodes xs
unfolding encode count preamble
preamble_encodes xs g i = rw (short_head tt g.0, short_head tt g.1.0, number_encodes g.1.1.0 i) (simp append_assoc)

-- a kind, a session and an objective
exchange_encodes : {w k kind session : ℕ} {s x : Item} {o : Obj Value} → Good (array w (uint k kind ∷ s ∷ x ∷ [])) → Number s session → ObjectiveItem x o
    → encode (array w (uint k kind ∷ s ∷ x ∷ [])) ≡ exchange kind session (valued_obj value_bytes o)
unfolding encode count exchange
exchange_encodes {x = x} g i o = preamble_encodes (list (x ∷ [])) g i ∙ rw (objective_encodes g.1.1.1.0 o) (simp append-nil)

-- four items, and n more
four_more : (n : ℕ) → 4 + n ≡ suc (suc (suc (suc n)))
four_more n = omega arith

-- for readers

-- A message's item without fault has the bytes that the writer gives the message.
pub plain_encodes : {x : Item} {msg : Msg Value} → Good x → MessageItem x msg → encode x ≡ encode_msg (plain msg)
unfolding encode count encode_msg one_more plain valued value_bytes
plain_encodes g MessageItem.noop = rw (short_head tt g.0, short_head tt g.1.0) (simp append-nil)
plain_encodes g (MessageItem.discovery {i = y} {x = x} i j o) =
    preamble_encodes (list (y ∷ x ∷ [])) g i
    ∙ rw (initiator_encodes g.1.1.1.0 j, objective_encodes g.1.1.1.1.0 o) (simp (append_assoc, append-nil))
plain_encodes g (MessageItem.response {i = y} {t = z} {xs = xs} i j t is) =
    let (bytes, many) = tgts_encodes g.1.1.1.1.1 is in
    preamble_encodes (Items.more y (Items.more z xs)) g i
    ∙ rw (initiator_encodes g.1.1.1.0 j, number_encodes g.1.1.1.1.0 t, bytes, many) (simp (append_assoc, four_more))
plain_encodes g (MessageItem.request_negotiation i o) = exchange_encodes g i o
plain_encodes g (MessageItem.request_synchronization i o) = exchange_encodes g i o
plain_encodes g (MessageItem.negotiate i o) = exchange_encodes g i o
plain_encodes g (MessageItem.end {x = x} i e) = preamble_encodes (list (x ∷ [])) g i ∙ rw (outc_encodes g.1.1.1.0 e) (simp append-nil)
plain_encodes g (MessageItem.wait {t = x} i t) = preamble_encodes (list (x ∷ [])) g i ∙ rw (number_encodes g.1.1.1.0 t) (simp append-nil)
plain_encodes g (MessageItem.synch i o) = exchange_encodes g i o
plain_encodes g (MessageItem.flood {i = y} {t = z} {xs = xs} i j t is) =
    preamble_encodes (Items.more y (Items.more z xs)) g i
    ∙ rw (initiator_encodes g.1.1.1.0 j, number_encodes g.1.1.1.1.0 t, pairs_encode g.1.1.1.1.1 is, pairs_count is, pairs_many)
    (simp (append_assoc, four_more))
plain_encodes g (MessageItem.invalid i) = preamble_encodes Items.done g i ∙ simp append-nil
plain_encodes g (MessageItem.invalid_with {x = x} i) = preamble_encodes (list (x ∷ [])) g i ∙ rw (has_bytes x) (simp append-nil)
