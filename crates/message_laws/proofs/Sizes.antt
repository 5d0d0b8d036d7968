-- An item of any sort, passed over by its size.
-- Assumes nothing.
use mathlib.Core.Path.{◌≡◌, sym, ap, ap₂, ◌∙◌}
use mathlib.Core.List.{List, ◌++◌}
use Prim.Native.Nat.{ℕ, ◌+◌, ◌-◌, ◌≤◌}
use native.Mathlib.Omega.{arith}
use lib.ListN.{length, drop, take-append-drop}
use lib.Seq.{drop-drop, length-take-le}
use Rattle.base.specs.BigEndian.{Bytes}
use Rattle.base.proofs.Parts.{bytes_drop}
use Rattle.cbor.specs.Item.{first_item, left_under}
use Rattle.cbor.specs.Token.{size_from, size_at}
use Rattle.cbor.specs.Tree.{Item, depth, encode}
use Rattle.cbor.proofs.Exact.{item_exact}
use Rattle.cbor.proofs.Accepts.{item_accepts}
use Rattle.cbor.proofs.Passes.{size_ends}
use Rattle.message_laws.specs.Stands.{Stands}
use Rattle.message_laws.proofs.Bridge.{advances}

-- where a size is read, an item of no more levels than may open stands
pub sized_item : (levels : ℕ) (s : List ℕ) (p : ℕ) → Bytes s → (size_at levels s p ≡ 0 → ⊥)
    → (x : Item) × Stands s p (p + size_at levels s p) x × (depth x ≤ left_under levels)
unfolding size_at
sized_item levels s p b some =
    let n : ℕ = size_from (first_item levels (drop p s)) in
    let i = item_exact levels (drop p s) n (bytes_drop p s b) (size_ends (first_item levels (drop p s)) some) in
    let long : length (encode i.item) ≡ n = ap length (sym i.bytes) ∙ length-take-le n (drop p s) i.within in (
      i.item,
      record {
        good = i.good;
        is = sym (take-append-drop n (drop p s)) ∙ ap₂ (λ (h r : List ℕ). h ++ r) i.bytes (drop-drop n p s);
        end = ap (λ (k : ℕ). p + k) (sym long);
      },
      i.shallow,
    )

-- where an item stands, its size is read
pub item_sized : (levels : ℕ) {s : List ℕ} {p e : ℕ} {x : Item} → Stands s p e x → depth x ≤ left_under levels
    → (size_at levels s p ≡ e - p) × (size_at levels s p ≡ 0 → ⊥)
unfolding size_at size_from
item_sized levels {s} {p} {e} {x} a d =
    let size : size_from (first_item levels (drop p s)) ≡ length (encode x) =
    ap (λ (r : List ℕ). size_from (first_item levels r)) a.is ∙ ap size_from (item_accepts levels x (drop e s) a.good d) in
    (omega (arith, a.end, size), λ z. omega (arith, size, a.end, advances a))
