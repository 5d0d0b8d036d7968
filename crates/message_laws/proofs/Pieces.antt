-- Items that stand where tokens were read, by what the readers test of a token.
-- Assumes nothing.
use mathlib.Core.Path.{◌≡◌, refl, sym, ap, ◌∙◌, subst}
use mathlib.Core.Logic.{inl, inr}
use mathlib.Core.List.{List, ◌++◌, append_assoc}
use mathlib.Core.Bool.{Bool, false, cond}
use Prim.Native.Nat.{ℕ, suc, ◌+◌, ◌-◌, ◌≤◌}
use native.Mathlib.Omega.{arith}
use lib.ListN.{length, take, drop, length-append, length-drop, take-append-drop}
use lib.Seq.{drop-drop, length-take-le}
use lib.Dec.{lit≤}
use borrow.Author.Tests.{eq-eqb, le-leb}
use Rattle.base.specs.Pick.{pick}
use Rattle.base.specs.BigEndian.{Bytes}
use Rattle.base.proofs.Parts.{bytes_drop, bytes_take}
use Rattle.cbor.specs.declared.token.Token.{Token}
use Rattle.cbor.specs.Tree.{Item, Items, head_bytes, Right, count, encode, encodes, Good}
use Rattle.cbor.specs.Token.{token_at, items_in, up_to}
use Rattle.cbor.proofs.HeadExact.{length_head}
use Rattle.cbor.proofs.Tokens.{is_number}
use Rattle.options.specs.Text.{content_in}
use Rattle.message_laws.specs.Stands.{Stands, StandAll, ArrayHead}
use Rattle.message_laws.proofs.Bridge.{Heading, token_heading, string_major}

-- ---- numbers of a token
-- an array that has items has them
pub array_items : (w : Token) (n : ℕ) → w.major ≡ 4 → w.arg ≡ suc n → items_in w ≡ 0 → ⊥
unfolding items_in pick
array_items w n e f z = let y : w.arg ≡ 0 = rw (eq-eqb _ _ e) at z in omega arith

-- a number within a limit
pub number_is : (limit : ℕ) (w : Token) → w.major ≡ 0 → w.arg ≤ limit → up_to limit w ≡ w.arg
unfolding up_to pick
number_is limit w e h = rw (eq-eqb w.major 0 e, le-leb w.arg limit h)

-- ---- items
-- an item of some width
pub record Some (s : List ℕ) (p e : ℕ) (f : ℕ → Item) : Type 0 where
  pub width : ℕ
  pub stands : Stands s p e (f width)

-- an item with what it is
pub record Is (s : List ℕ) (p e : ℕ) (P : Item → Type 0) : Type 0 where
  pub item : Item
  pub stands : Stands s p e item
  pub is : P item

-- the content of a string in bytes is bytes
pub content_bytes : (s : List ℕ) (w : Token) → Bytes s → Bytes (content_in s w)
content_bytes s w b = bytes_take (w.next - w.body) (drop w.body s) (bytes_drop w.body s b)

-- an array, by its head and the items that stand after it
pub head_array : {s : List ℕ} {p q n e : ℕ} {xs : Items} (h : ArrayHead s p q n) → n ≡ count xs → StandAll s q e xs → Stands s p e (Item.array h.width xs)
unfolding encode
head_array {s} {p} {q} {n} {e} {xs} h c a =
    let front : List ℕ = head_bytes 4 h.width (count xs) in
    let head : drop p s ≡ front ++ drop q s = rw (← c) h.is in
    record {
      good = (rw (← c) h.right, a.good);
      is = head ∙ ap (λ (r : List ℕ). front ++ r) a.is ∙ sym (append_assoc front (encodes xs) (drop e s));
      end = omega (arith, h.end, a.end, length-append front (encodes xs), length_head 4 h.width n, length_head 4 h.width (count xs));
    }

module _ {s : List ℕ} {p : ℕ} {w : Token} (h : Heading s p w) where
  -- a head alone is the whole item
  alone : (m : ℕ) (x : Item) → w.major ≡ m → (Right m h.width w.arg → Good x) → encode x ≡ head_bytes m h.width w.arg → Stands s p w.body x
  alone m x e good is =
      let head : drop p s ≡ encode x ++ drop w.body s = rw (is, ← e) h.head in
      let size : length (encode x) ≡ 1 + h.width = ap length is ∙ length_head m h.width w.arg in
      record {
        good = good (rw e at h.right);
        is = head;
        end = omega (arith, h.body);
      }

  -- an unsigned number
  pub number_at : w.major ≡ 0 → Some s p w.next (λ n. Item.number false n w.arg)
  unfolding encode
  number_at e =
      let x : Item = Item.number false h.width w.arg in
      record { width = h.width; stands = subst (λ (k : ℕ). Stands s p k x) (sym (h.leaf (inl (omega arith)))) (alone 0 x e (λ r. r) refl) }

  -- null
  pub null_at : w.major ≡ 7 → w.arg ≡ 22 → h.width ≡ 0 → Stands s p w.next (Item.simple 0 22)
  unfolding encode
  null_at e a z =
      subst (λ (k : ℕ). Stands s p k (Item.simple 0 22)) (sym (h.leaf (inr (omega arith)))) (alone 7 (Item.simple 0 22) e (λ r. rw (z, a) at r) (rw (z, a)))

  -- a string's content is as long as its head says
  pub text_size : (t : Bool) → w.major ≡ cond t 3 2 → w.next - w.body ≡ w.arg
  text_size t e =
      let (low, high) = string_major t in
      omega (arith, h.string (rw e low) (rw e high))

  -- a string of bytes
  pub text_at : (t : Bool) → w.major ≡ cond t 3 2 → Bytes (content_in s w)
      → Some s p w.next (λ n. Item.string t n (content_in s w)) × (length (content_in s w) ≡ w.arg)
  unfolding encode
  text_at t e b =
      let (low, high) = string_major t in
      let next : w.next ≡ w.body + w.arg = h.string (rw e low) (rw e high) in
      let size = text_size t e in
      let left : w.arg ≤ length (drop w.body s) = omega (arith, length-drop w.body s, h.within) in
      let bs : List ℕ = content_in s w in
      let long : length bs ≡ w.arg = rw size (length-take-le w.arg (drop w.body s) left) in
      let front : List ℕ = head_bytes (cond t 3 2) h.width (length bs) in
      let rest : drop w.body s ≡ bs ++ drop w.next s =
      rw (size, next)
      (sym (take-append-drop w.arg (drop w.body s)) ∙ ap (λ (r : List ℕ). take w.arg (drop w.body s) ++ r) (drop-drop w.arg w.body s)) in
      let head : drop p s ≡ front ++ drop w.body s = rw (long, ← e) h.head in (
        record {
          width = h.width;
          stands =
              record {
                good = (rw (long, ← e) h.right, b);
                is = head ∙ ap (λ (r : List ℕ). front ++ r) rest ∙ sym (append_assoc front bs (drop w.next s));
                end = omega (arith, next, h.body, long, length-append front bs, length_head (cond t 3 2) h.width (length bs));
              };
        },
        long,
      )

  -- the head of an array
  pub array_head : w.major ≡ 4 → ArrayHead s p w.next w.arg
  array_head four =
      let next : w.next ≡ w.body = h.leaf (inr (rw four (lit≤ tt))) in
      record {
        width = h.width;
        right = rw four at h.right;
        is = rw (next, ← four) h.head;
        end = omega (arith, h.body, length_head 4 h.width w.arg);
      }

  -- an array, with the items that stand after its head
  pub array_at : {e : ℕ} {xs : Items} → w.major ≡ 4 → w.arg ≡ count xs → StandAll s w.next e xs → Stands s p e (Item.array h.width xs)
  unfolding array_head
  array_at m = head_array (array_head m)

-- a number within its limit
pub number_here : (limit : ℕ) {s : List ℕ} {p : ℕ} (w : Token) → Bytes s → w ≡ token_at s p → up_to limit w ≤ limit
    → Some s p w.next (λ k. Item.number false k (up_to limit w))
number_here limit {s} {p} w b e h =
    let (number, same) = is_number limit w h in
    subst (λ (v : ℕ). Some s p w.next (λ k. Item.number false k v)) (sym same) (number_at (token_heading s p w b e (omega arith)) number)

-- the head of an array, of the part of a message that begins with it
pub lift_head : {m : List ℕ} {base q n : ℕ} → ArrayHead (drop base m) 0 q n → ArrayHead m base (base + q) n
lift_head {m} {base} {q} {n} a =
    record {
      width = a.width;
      right = a.right;
      is = a.is ∙ ap (λ (r : List ℕ). head_bytes 4 a.width n ++ r) (drop-drop q base m);
      end = omega (arith, a.end);
    }
