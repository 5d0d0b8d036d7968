-- An item is one message only, and bytes are one item only.
-- Assumes nothing.
use mathlib.Core.Path.{◌≡◌, refl, sym, ap, ap₂, subst}
use mathlib.Core.List.{List, ◌∷◌}
use mathlib.Core.Option.{Option, some}
use Prim.Native.Nat.{ℕ}
use Rattle.cbor.specs.Tree.{Item, Items}
use Rattle.rfc8990.specs.Message.{Loc, Obj, Tgts, Outc, Msg}
use Rattle.rfc8990.specs.Cddl.{uint, joined, Number, Initiator, LocatorItem, LocatorItems, ObjectiveItem}
use Rattle.rfc8990.specs.Cddl.{OptionalItems, TgtsItems, OutcItem, MessageItem, Value}
use Rattle.message_laws.proofs.One.{objective_one, locator_one, locators_one, pairs_one}

-- ---- parts
number_one : {x : Item} {n n' : ℕ} → Number x n → Number x n' → n ≡ n'
number_one (Number.number _) (Number.number _) = refl

initiator_one : {x : Item} {c c' : List ℕ} → Initiator x c → Initiator x c' → c ≡ c'
initiator_one (Initiator.initiator _) (Initiator.initiator _) = refl

outc_one : {x : Item} {e e' : Outc} → OutcItem x e → OutcItem x e' → e ≡ e'
outc_one OutcItem.accept OutcItem.accept = refl
outc_one OutcItem.decline OutcItem.decline = refl
outc_one OutcItem.reason OutcItem.reason = refl

optional_one : {xs : Items} {o o' : Option (Obj Value)} → OptionalItems xs o → OptionalItems xs o' → o ≡ o'
optional_one OptionalItems.without OptionalItems.without = refl
optional_one (OptionalItems.with_one i) (OptionalItems.with_one i') = ap some (objective_one i i')

-- no locator is an objective
not_both : {x : Item} {l : Loc} {o : Obj Value} → LocatorItem x l → ObjectiveItem x o → ⊥
not_both (LocatorItem.v6 _ _ _) = elim [ ]
not_both (LocatorItem.v4 _ _ _) = elim [ ]
not_both (LocatorItem.domain _ _) = elim [ ]
not_both (LocatorItem.uri _ _) = elim [ ]

-- along an equation
over : {A B : Type 0} (P : A → B → Type 0) {x y : A} {b : B} → x ≡ y → P x b → P y b
over P {b = b} e i = subst (λ z. P z b) e i

-- what a list of items begins with, and what follows
same_first : {x y : Item} {xs ys : Items} → Items.more x xs ≡ Items.more y ys → (x ≡ y) × (xs ≡ ys)
same_first e = (cc, cc)

-- locators, and then an objective or none: what follows the locators is no locator
aimed_one : {xs ys xs' ys' : Items} {ls ls' : List Loc} {o o' : Option (Obj Value)} → LocatorItems xs ls → OptionalItems ys o → LocatorItems xs' ls'
    → OptionalItems ys' o'
    → joined xs ys ≡ joined xs' ys' → (ls ≡ ls') × (o ≡ o')
aimed_one LocatorItems.empty i LocatorItems.empty i' e = (refl, optional_one i (over OptionalItems (sym e) i'))
aimed_one LocatorItems.empty OptionalItems.without (LocatorItems.more l ls) i' e = (cc, cc)
aimed_one LocatorItems.empty (OptionalItems.with_one i) (LocatorItems.more l ls) i' e =
    absurd (not_both l (over ObjectiveItem (same_first e).0 i))
aimed_one (LocatorItems.more l ls) i LocatorItems.empty OptionalItems.without e = (cc, cc)
aimed_one (LocatorItems.more l ls) i LocatorItems.empty (OptionalItems.with_one i') e =
    absurd (not_both l (over ObjectiveItem (sym (same_first e).0) i'))
aimed_one (LocatorItems.more l ls) i (LocatorItems.more l' ls') i' e =
    let (here, later) = same_first e in
    let (same, rest) = aimed_one ls i ls' i' later in
    (ap₂ (λ (l : Loc) (ls : List Loc). l ∷ ls) (locator_one l (over LocatorItem (sym here) l')) same, rest)

-- no locator is a divert
no_divert : {w k : ℕ} {zs : Items} {l : Loc} → LocatorItem (Item.array w (Items.more (uint k 100) zs)) l → ⊥
no_divert = elim [ ]

-- so locators are no divert
not_mixed : {w k : ℕ} {xs zs ys' : Items} {l : Loc} {ls : List Loc} (ys : Items) → LocatorItems xs (l ∷ ls)
    → joined xs ys ≡ Items.more (Item.array w (Items.more (uint k 100) zs)) ys' → ⊥
not_mixed ys (LocatorItems.more i is) e = no_divert (over LocatorItem (same_first e).0 i)

-- one divert has one content
same_divert : {w k w' k' : ℕ} {xs ys xs' ys' : Items}
    → Items.more (Item.array w (Items.more (uint k 100) xs)) ys ≡ Items.more (Item.array w' (Items.more (uint k' 100) xs')) ys'
    → (xs ≡ xs') × (ys ≡ ys')
same_divert e = (cc, cc)

-- items are locators or a divert in one way
tgts_one : {xs xs' : Items} {a a' : Tgts} {o o' : Option (Obj Value)} → TgtsItems xs a o → TgtsItems xs' a' o' → xs ≡ xs' → (a ≡ a') × (o ≡ o')
tgts_one (TgtsItems.locators is i) (TgtsItems.locators is' i') e = let (same, rest) = aimed_one is i is' i' e in (ap Tgts.locators same, rest)
tgts_one (TgtsItems.locators {ys = ys} is i) (TgtsItems.divert is' i') e = absurd (not_mixed ys is e)
tgts_one (TgtsItems.divert is i) (TgtsItems.locators {ys = ys} is' i') e = absurd (not_mixed ys is' (sym e))
tgts_one (TgtsItems.divert is i) (TgtsItems.divert is' i') e =
    let (same, rest) = same_divert e in
    (ap Tgts.divert (locators_one is (over LocatorItems (sym same) is')), optional_one i (over OptionalItems (sym rest) i'))

-- ---- messages
-- an item is one message at most
pub message_one : {x : Item} {m m' : Msg Value} → MessageItem x m → MessageItem x m' → m ≡ m'
message_one MessageItem.noop MessageItem.noop = refl
message_one (MessageItem.discovery i j o) (MessageItem.discovery i' j' o') = rw (number_one i i', initiator_one j j', objective_one o o')
message_one (MessageItem.response i j t is) (MessageItem.response i' j' t' is') =
    let (tgts, extra) = tgts_one is is' refl in
    rw (number_one i i', initiator_one j j', number_one t t', tgts, extra)
message_one (MessageItem.request_negotiation i o) (MessageItem.request_negotiation i' o') = rw (number_one i i', objective_one o o')
message_one (MessageItem.request_synchronization i o) (MessageItem.request_synchronization i' o') = rw (number_one i i', objective_one o o')
message_one (MessageItem.negotiate i o) (MessageItem.negotiate i' o') = rw (number_one i i', objective_one o o')
message_one (MessageItem.end i o) (MessageItem.end i' o') = rw (number_one i i', outc_one o o')
message_one (MessageItem.wait i t) (MessageItem.wait i' t') = rw (number_one i i', number_one t t')
message_one (MessageItem.synch i o) (MessageItem.synch i' o') = rw (number_one i i', objective_one o o')
message_one (MessageItem.flood i j t is) (MessageItem.flood i' j' t' is') = rw (number_one i i', initiator_one j j', number_one t t', pairs_one is is')
message_one (MessageItem.invalid i) (MessageItem.invalid i') = rw (number_one i i')
message_one (MessageItem.invalid_with i) (MessageItem.invalid_with i') = rw (number_one i i')
