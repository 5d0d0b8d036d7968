-- Which CBOR items are which message, as the CDDL of RFC 8990 (section 4) has it, with the ranges of numbers (rules
-- 1.3, 1.4). Heads have any width here; which widths are good is said by `Good` of `cbor Tree`.
use Rattle.std.specs.Prelude.{ℕ, ◌≤◌, List, [], ◌∷◌, true, false, ◌≡◌, ◌⊎◌, length}
use Rattle.std.proofs.Math.Option.{Option, none, some}
use Rattle.cbor.specs.Tree.{Item, Items}
use Rattle.rfc8990.specs.Message.{Loc, Obj, Pair, Tgts, Outc, Msg}

-- ---- items
-- an unsigned number
abbrev pub uint : ℕ → ℕ → Item
uint width n = Item.number false width n

-- a byte string
abbrev pub bytes : ℕ → List ℕ → Item
bytes width content = Item.string false width content

-- a text string
abbrev pub text : ℕ → List ℕ → Item
text width content = Item.string true width content

-- null, simple value 22
abbrev pub null : Item
null = Item.simple 0 22

-- items one after the other
abbrev pub list : List Item → Items
list [] = Items.done
list (x ∷ xs) = Items.more x (list xs)

-- an array of these items
abbrev pub array : ℕ → List Item → Item
array width xs = Item.array width (list xs)

-- ---- locator-option
-- transport-proto: IPPROTO_TCP or IPPROTO_UDP
pub data Protocol : Item → ℕ → Type 0 where
  tcp : {w : ℕ} → Protocol (uint w 6) 6
  udp : {w : ℕ} → Protocol (uint w 17) 17

-- port-number
pub data Port : Item → ℕ → Type 0 where
  port : {w n : ℕ} → n ≤ 65535 → Port (uint w n) n

-- rule / null
pub data OrNull (P : Item → ℕ → Type 0) : Item → Option ℕ → Type 0 where
  is_null : OrNull P null none
  is : {x : Item} {n : ℕ} → P x n → OrNull P x (some n)

-- [O_IPv6_LOCATOR, ..], [O_IPv4_LOCATOR, ..], [O_FQDN_LOCATOR, ..], [O_URI_LOCATOR, ..]
pub data LocatorItem : Item → Loc → Type 0 where
  v6 : {w k b : ℕ} {x y : Item} {a : List ℕ} {p q : ℕ} → length a ≡ 16 → Protocol x p → Port y q
      → LocatorItem (array w (uint k 103 ∷ bytes b a ∷ x ∷ y ∷ [])) (Loc.v6 a p q)
  v4 : {w k b : ℕ} {x y : Item} {a : List ℕ} {p q : ℕ} → length a ≡ 4 → Protocol x p → Port y q
      → LocatorItem (array w (uint k 104 ∷ bytes b a ∷ x ∷ y ∷ [])) (Loc.v4 a p q)
  domain : {w k b : ℕ} {x y : Item} {a : List ℕ} {p q : ℕ} → Protocol x p → Port y q
      → LocatorItem (array w (uint k 105 ∷ text b a ∷ x ∷ y ∷ [])) (Loc.domain a p q)
  uri : {w k b : ℕ} {x y : Item} {a : List ℕ} {p q : Option ℕ} → OrNull Protocol x p → OrNull Port y q
      → LocatorItem (array w (uint k 106 ∷ text b a ∷ x ∷ y ∷ [])) (Loc.uri a p q)

-- ---- objective
-- a value, and Invalid's item: an item, or none
abbrev pub Value : Type 0
Value = Option Item

-- [objective-name, objective-flags, loop-count, ?objective-value]
pub data ObjectiveItem : Item → Obj Value → Type 0 where
  bare : {w a b c : ℕ} {name : List ℕ} {flags count : ℕ} → flags ≤ 15 → count ≤ 255
      → ObjectiveItem (array w (text a name ∷ uint b flags ∷ uint c count ∷ []))
      (record { name = name; flags = flags; count = count; value = none })
  valued : {w a b c : ℕ} {name : List ℕ} {flags count : ℕ} {x : Item} → flags ≤ 15 → count ≤ 255
      → ObjectiveItem (array w (text a name ∷ uint b flags ∷ uint c count ∷ x ∷ []))
      (record { name = name; flags = flags; count = count; value = some x })

-- *locator-option; that there is one at least is asked where it is due
pub data LocatorItems : Items → List Loc → Type 0 where
  empty : LocatorItems Items.done []
  more : {x : Item} {l : Loc} {xs : Items} {ls : List Loc} → LocatorItem x l → LocatorItems xs ls
      → LocatorItems (Items.more x xs) (l ∷ ls)

-- [objective, (locator-option / [])]
pub data PairItem : Item → Pair Value → Type 0 where
  untagged : {w v : ℕ} {x : Item} {obj : Obj Value} → ObjectiveItem x obj
      → PairItem (array w (x ∷ array v [] ∷ [])) (obj, none)
  tagged : {w : ℕ} {x y : Item} {obj : Obj Value} {loc : Loc} → ObjectiveItem x obj → LocatorItem y loc
      → PairItem (array w (x ∷ y ∷ [])) (obj, some loc)

-- *[objective, (locator-option / [])]; that there is one at least is asked where it is due
pub data PairItems : Items → List (Pair Value) → Type 0 where
  empty : PairItems Items.done []
  more : {x : Item} {p : Pair Value} {xs : Items} {ps : List (Pair Value)} → PairItem x p → PairItems xs ps
      → PairItems (Items.more x xs) (p ∷ ps)

-- ---- the messages
-- session-id, ttl, waiting-time: 0..4294967295
pub data Number : Item → ℕ → Type 0 where
  number : {w n : ℕ} → n ≤ 4294967295 → Number (uint w n) n

-- initiator: ipv4-address / ipv6-address
pub data Initiator : Item → List ℕ → Type 0 where
  initiator : {w : ℕ} {content : List ℕ} → (length content ≡ 4) ⊎ (length content ≡ 16)
      → Initiator (bytes w content) content

-- ?objective, after a message's other items
pub data OptionalItems : Items → Option (Obj Value) → Type 0 where
  without : OptionalItems Items.done none
  with_one : {x : Item} {obj : Obj Value} → ObjectiveItem x obj → OptionalItems (Items.more x Items.done) (some obj)

-- xs, and then ys
abbrev pub joined : Items → Items → Items
joined Items.done ys = ys
joined (Items.more x xs) ys = Items.more x (joined xs ys)

-- (+locator-option // divert-option), ?objective
pub data TgtsItems : Items → Tgts → Option (Obj Value) → Type 0 where
  locators : {xs ys : Items} {l : Loc} {ls : List Loc} {obj : Option (Obj Value)} → LocatorItems xs (l ∷ ls)
      → OptionalItems ys obj
      → TgtsItems (joined xs ys) (Tgts.locators (l ∷ ls)) obj
  divert : {w k : ℕ} {xs ys : Items} {l : Loc} {ls : List Loc} {obj : Option (Obj Value)} → LocatorItems xs (l ∷ ls)
      → OptionalItems ys obj
      → TgtsItems (Items.more (Item.array w (Items.more (uint k 100) xs)) ys) (Tgts.divert (l ∷ ls)) obj

-- accept-option / decline-option
pub data OutcItem : Item → Outc → Type 0 where
  accept : {w k : ℕ} → OutcItem (array w (uint k 101 ∷ [])) Outc.accept
  decline : {w k : ℕ} → OutcItem (array w (uint k 102 ∷ [])) Outc.decline
  reason : {w k t : ℕ} {content : List ℕ} → OutcItem (array w (uint k 102 ∷ text t content ∷ [])) (Outc.reason content)

-- grasp-message: one case for each kind, and two for Invalid
pub data MessageItem : Item → Msg Value → Type 0 where
  noop : {w k : ℕ} → MessageItem (array w (uint k 0 ∷ [])) Msg.noop
  discovery : {w k session : ℕ} {s i x : Item} {from : List ℕ} {obj : Obj Value} → Number s session → Initiator i from
      → ObjectiveItem x obj
      → MessageItem (array w (uint k 1 ∷ s ∷ i ∷ x ∷ [])) (Msg.discovery session from obj)
  response : {w k session ttl : ℕ} {s i t : Item} {from : List ℕ} {xs : Items} {tgts : Tgts} {obj : Option (Obj Value)}
      → Number s session → Initiator i from → Number t ttl → TgtsItems xs tgts obj
      → MessageItem (Item.array w (Items.more (uint k 2) (Items.more s (Items.more i (Items.more t xs)))))
      (Msg.response session from ttl tgts obj)
  request_negotiation : {w k session : ℕ} {s x : Item} {obj : Obj Value} → Number s session → ObjectiveItem x obj
      → MessageItem (array w (uint k 3 ∷ s ∷ x ∷ [])) (Msg.request_negotiation session obj)
  request_synchronization : {w k session : ℕ} {s x : Item} {obj : Obj Value} → Number s session → ObjectiveItem x obj
      → MessageItem (array w (uint k 4 ∷ s ∷ x ∷ [])) (Msg.request_synchronization session obj)
  negotiate : {w k session : ℕ} {s x : Item} {obj : Obj Value} → Number s session → ObjectiveItem x obj
      → MessageItem (array w (uint k 5 ∷ s ∷ x ∷ [])) (Msg.negotiate session obj)
  end : {w k session : ℕ} {s x : Item} {e : Outc} → Number s session → OutcItem x e
      → MessageItem (array w (uint k 6 ∷ s ∷ x ∷ [])) (Msg.end session e)
  wait : {w k session time : ℕ} {s t : Item} → Number s session → Number t time
      → MessageItem (array w (uint k 7 ∷ s ∷ t ∷ [])) (Msg.wait session time)
  synch : {w k session : ℕ} {s x : Item} {obj : Obj Value} → Number s session → ObjectiveItem x obj
      → MessageItem (array w (uint k 8 ∷ s ∷ x ∷ [])) (Msg.synch session obj)
  flood : {w k session ttl : ℕ} {s i t : Item} {from : List ℕ} {xs : Items} {p : Pair Value} {ps : List (Pair Value)}
      → Number s session → Initiator i from → Number t ttl → PairItems xs (p ∷ ps)
      → MessageItem (Item.array w (Items.more (uint k 9) (Items.more s (Items.more i (Items.more t xs)))))
      (Msg.flood session from ttl (p ∷ ps))
  invalid : {w k session : ℕ} {s : Item} → Number s session
      → MessageItem (array w (uint k 99 ∷ s ∷ [])) (Msg.invalid session none)
  invalid_with : {w k session : ℕ} {s x : Item} → Number s session
      → MessageItem (array w (uint k 99 ∷ s ∷ x ∷ [])) (Msg.invalid session (some x))
