-- The encoding of an item without fault is made of bytes, and so is UTF-8.
-- Assumes nothing.
use mathlib.Core.Path.{subst}
use mathlib.Core.Logic.{inl, inr}
use mathlib.Core.Bool.{Bool, true, false, cond}
use mathlib.Core.List.{List, [], ◌∷◌, ◌++◌}
use Prim.Native.Nat.{ℕ, zero, suc, ◌+◌, ◌*◌, ◌/◌, ◌%◌, ◌^◌, ◌≤◌, ◌<◌}
use native.Mathlib.Omega.{arith}
use lib.Dec.{ltb, lit<}
use lib.ListN.{length}
use borrow.Author.Tests.{ltb-true}
use Rattle.base.specs.BigEndian.{Bytes, bytes_of}
use Rattle.base.specs.Lists.{Every}
use Rattle.base.proofs.Picks.{pick-case}
use Rattle.utf8.specs.Utf8.{Scalar, scalar_bytes, text_bytes, Utf8}
use Rattle.cbor.specs.Tree.{Item, Items, Sized, info_of, head_bytes, count, encode, encodes, Good, Goods}
use Rattle.cbor.proofs.HeadExact.{info_lt}

-- ---- lists of bytes
-- one list after the other
pub bytes_append : (a b : List ℕ) → Bytes a → Bytes b → Bytes (a ++ b)
bytes_append [] b p q i = q i
bytes_append (x ∷ a) b p q zero = p 0
bytes_append (x ∷ a) b p q (suc i) = bytes_append a b (λ j. p (suc j)) q i

-- one byte in front
pub bytes_more : (x : ℕ) (a : List ℕ) → x < 2 ^ 8 → Bytes a → Bytes (x ∷ a)
bytes_more x a h p zero = h
bytes_more x a h p (suc i) = p i

-- no bytes
pub bytes_none : Bytes []
bytes_none i = lit< tt

-- ---- heads
-- a number's
pub bytes_of_lem : (n v : ℕ) → Bytes (bytes_of n v)
unfolding bytes_of
bytes_of_lem zero v = bytes_none
bytes_of_lem (suc n) v = bytes_append (bytes_of n (v / 256)) (v % 256 ∷ []) (bytes_of_lem n (v / 256)) (bytes_more (v % 256) [] (omega arith) bytes_none)

-- a head's
bytes_head : (major width arg : ℕ) → major < 8 → Sized width arg → Bytes (head_bytes major width arg)
unfolding head_bytes
bytes_head major width arg h z =
    let l : info_of width arg < 28 = info_lt z in
    bytes_more (major * 32 + info_of width arg) (bytes_of width arg) (omega arith) (bytes_of_lem width arg)

-- one of two major types
either : (b : Bool) {x y : ℕ} → x < 8 → y < 8 → cond b x y < 8
either true p q = p
either false p q = q

-- ---- texts
scalar_most : (c : ℕ) → Scalar c → c ≤ 0x10FFFF
scalar_most c (inl l) = omega arith
scalar_most c (inr l) = l.1

bytes_scalar : (c : ℕ) → Scalar c → Bytes (scalar_bytes c)
unfolding scalar_bytes
bytes_scalar c h =
    let most = scalar_most c h in
    all (scalar_bytes c)
    (pick-case P (ltb c 0x80) (λ e. (omega (arith, ltb-true c 0x80 e), tt))
    (λ _. pick-case P (ltb c 0x800) (λ e. (omega (arith, ltb-true c 0x800 e), (omega arith, tt)))
    (λ _. pick-case P (ltb c 0x10000) (λ e. (omega (arith, ltb-true c 0x10000 e), (omega arith, (omega arith, tt))))
    (λ _. (omega arith, (omega arith, (omega arith, (omega arith, tt))))))))
  where
    P : List ℕ → Type 0
    P = Every (λ (x : ℕ). x < 2 ^ 8)

    all : (s : List ℕ) → P s → Bytes s
    all [] g = bytes_none
    all (x ∷ s) g = bytes_more x s g.0 (all s g.1)

bytes_text : (cs : List ℕ) → Every Scalar cs → Bytes (text_bytes cs)
unfolding text_bytes
bytes_text [] g = bytes_none
bytes_text (c ∷ cs) g = bytes_append (scalar_bytes c) (text_bytes cs) (bytes_scalar c g.0) (bytes_text cs g.1)

-- UTF-8 is made of bytes.
pub bytes_utf8 : {s : List ℕ} → Utf8 s → Bytes s
bytes_utf8 (cs, g, is) = subst Bytes is (bytes_text cs g)

-- ---- items
mutual
  unfolding encode

  -- The encoding of an item without fault is made of bytes.
  pub bytes_encode : (x : Item) → Good x → Bytes (encode x)
  bytes_encode (Item.number n w k) g = bytes_head (cond n 1 0) w k (either n (lit< tt) (lit< tt)) g.sized
  bytes_encode (Item.string t w bs) g =
      bytes_append (head_bytes (cond t 3 2) w (length bs)) bs (bytes_head (cond t 3 2) w (length bs) (either t (lit< tt) (lit< tt)) g.0.sized) g.1
  bytes_encode (Item.array w xs) g =
      bytes_append (head_bytes 4 w (count xs)) (encodes xs) (bytes_head 4 w (count xs) (lit< tt) g.0.sized) (bytes_encodes xs g.1)
  bytes_encode (Item.map w xs) g =
      bytes_append (head_bytes 5 w (count xs / 2)) (encodes xs) (bytes_head 5 w (count xs / 2) (lit< tt) g.0.sized) (bytes_encodes xs g.2)
  bytes_encode (Item.tagged w n x) g = bytes_append (head_bytes 6 w n) (encode x) (bytes_head 6 w n (lit< tt) g.0.sized) (bytes_encode x g.1)
  bytes_encode (Item.simple w n) g = bytes_head 7 w n (lit< tt) g.sized

  -- and so are those of several
  bytes_encodes : (xs : Items) → Goods xs → Bytes (encodes xs)
  bytes_encodes Items.done g = bytes_none
  bytes_encodes (Items.more x xs) g = bytes_append (encode x) (encodes xs) (bytes_encode x g.0) (bytes_encodes xs g.1)
