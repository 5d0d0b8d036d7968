-- Where the items of an array stand, when its head and its first items are known to stand somewhere; and so those of a
-- message.
-- Assumes nothing.
use mathlib.Core.Path.{◌≡◌, refl, sym, ◌∙◌, subst}
use mathlib.Core.List.{List}
use Prim.Native.Nat.{ℕ, suc, ◌+◌}
use native.Mathlib.Omega.{arith}
use lib.ListN.{length, length-append}
use Rattle.cbor.specs.Tree.{Item, Items, head_bytes, count, encode, encodes}
use Rattle.options.specs.declared.Span.{Span}
use Rattle.rfc8990.specs.Cddl.{uint}
use Rattle.message_laws.specs.Stands.{Stands, StandAll, ArrayHead}
use Rattle.message_laws.proofs.Bridge.{split, array_token}
use Rattle.message_laws.specs.Describes.{KindIs, NumberIs, InitiatorIs}
use Rattle.message_laws.proofs.Described.{ends_once, head_once}

-- past an array's head: its items
pub past_head : {s : List ℕ} {p e q n w : ℕ} {xs : Items} → Stands s p e (Item.array w xs) → ArrayHead s p q n
    → StandAll s q e xs × (q ≡ p + length (head_bytes 4 w (count xs)))
unfolding encode
past_head {s} {e = e} {w = w} {xs} a h =
    let t = array_token a in
    let rest = subst (λ (k : ℕ). StandAll s k e xs) (head_once refl t.head h) t.items in
    (rest, omega (arith, a.end, rest.end, length-append (head_bytes 4 w (count xs)) (encodes xs)))

-- past the first item: the others
pub past_item : {s : List ℕ} {p e m : ℕ} {x y : Item} {xs : Items} → StandAll s p e (Items.more x xs) → Stands s p m y
    → StandAll s m e xs × (m ≡ p + length (encode x))
past_item {s} {e = e} {xs = xs} a b =
    let c = split a in
    let same = ends_once refl c.first b in
    (subst (λ (k : ℕ). StandAll s k e xs) same c.rest, sym same ∙ c.first.end)

-- what stands before a message's third item, and the items from there on
pub opened_place : {s : List ℕ} {w k kind p q r session : ℕ} {i : Span} {from : List ℕ} {y z : Item} {xs : Items}
    → Stands s 0 (length s) (Item.array w (Items.more (uint k kind) (Items.more y (Items.more z xs))))
    → KindIs s kind p → NumberIs s p q session → InitiatorIs s q r i from
    → StandAll s r (length s) xs
    × (r ≡ length (head_bytes 4 w (suc (suc (suc (count xs))))) + length (encode (uint k kind)) + length (encode y) + length (encode z))
unfolding encode count
opened_place a kind number initiator =
    let (b₀, e₀) = past_head a kind.opened in
    let (b₁, e₁) = past_item b₀ kind.stands in
    let (b₂, e₂) = past_item b₁ number.stands in
    let (b₃, e₃) = past_item b₂ initiator.stands in
    (b₃, omega arith)
