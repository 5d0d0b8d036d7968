-- Different items have different encodings, and none is the start of another's.
-- Assumes nothing.
use Rattle.std.specs.Prelude.{Ok, Err}
use Rattle.cbor.specs.declared.head.Head.{Head}
use Rattle.cbor.specs.Head.{HeadRead, a_head}
use mathlib.Core.Path.{◌≡◌, refl, sym, ap, ap₂, ◌∙◌, subst₃}
use mathlib.Core.List.{List, ◌++◌, append_assoc, append_cancel_left}
use mathlib.Core.Bool.{true, false}
use Prim.Native.Nat.{ℕ, ◌+◌, ◌*◌, ◌/◌}
use native.Mathlib.Omega.{arith}
use lib.ListN.{length, take, drop}
use lib.Seq.{take_at, drop_at}
use Rattle.cbor.specs.Head.{head_at}
use Rattle.cbor.specs.Tree.{Item, Items, head_bytes, Right, count, encode, encodes, Good, Goods}
use Rattle.cbor.proofs.HeadExact.{head_read, same_head, length_head}

-- an item's major type, its head's width and its argument
data Kind : Item → ℕ → ℕ → ℕ → Type 0 where
  positive : {w n : ℕ} → Kind (Item.number false w n) 0 w n
  negative : {w n : ℕ} → Kind (Item.number true w n) 1 w n
  bytes : {w : ℕ} {bs : List ℕ} → Kind (Item.string false w bs) 2 w (length bs)
  text : {w : ℕ} {bs : List ℕ} → Kind (Item.string true w bs) 3 w (length bs)
  array : {w : ℕ} {xs : Items} → Kind (Item.array w xs) 4 w (count xs)
  map : {w : ℕ} {xs : Items} → Kind (Item.map w xs) 5 w (count xs / 2)
  tagged : {w n : ℕ} {x : Item} → Kind (Item.tagged w n x) 6 w n
  simple : {w n : ℕ} → Kind (Item.simple w n) 7 w n

-- what is read of an encoding
record First (x : Item) (s : List ℕ) : Type 0 where
  major : ℕ
  width : ℕ
  arg : ℕ
  kind : Kind x major width arg
  reads : head_at s ≡ a_head major arg (1 + width)

leaf : (major width arg : ℕ) (r : List ℕ) → Right major width arg → head_at (head_bytes major width arg ++ r) ≡ a_head major arg (1 + width)
leaf major width arg r h = head_read major width arg r h ∙ ap (a_head major arg) (length_head major width arg)

node : (major width arg : ℕ) (t r : List ℕ) → Right major width arg → head_at ((head_bytes major width arg ++ t) ++ r) ≡ a_head major arg (1 + width)
node major width arg t r h = rw append_assoc (leaf major width arg (t ++ r) h)

first : (x : Item) (r : List ℕ) → Good x → First x (encode x ++ r)
unfolding encode
first (Item.number true w n) r g = record { major = 1; width = w; arg = n; kind = Kind.negative; reads = leaf 1 w n r g }
first (Item.number false w n) r g = record { major = 0; width = w; arg = n; kind = Kind.positive; reads = leaf 0 w n r g }
first (Item.string true w bs) r g = record { major = 3; width = w; arg = length bs; kind = Kind.text; reads = node 3 w (length bs) bs r g.0 }
first (Item.string false w bs) r g = record { major = 2; width = w; arg = length bs; kind = Kind.bytes; reads = node 2 w (length bs) bs r g.0 }
first (Item.array w xs) r g = record { major = 4; width = w; arg = count xs; kind = Kind.array; reads = node 4 w (count xs) (encodes xs) r g.0 }
first (Item.map w xs) r g = record { major = 5; width = w; arg = count xs / 2; kind = Kind.map; reads = node 5 w (count xs / 2) (encodes xs) r g.0 }
first (Item.tagged w n x) r g = record { major = 6; width = w; arg = n; kind = Kind.tagged; reads = node 6 w n (encode x) r g.0 }
first (Item.simple w n) r g = record { major = 7; width = w; arg = n; kind = Kind.simple; reads = leaf 7 w n r g }

-- two encodings that begin alike have the same head
alike : (x y : Item) (r r' : List ℕ) (g : Good x) → Good y → encode x ++ r ≡ encode y ++ r'
    → Kind y (first x r g).major (first x r g).width (first x r g).arg
alike x y r r' g g' e =
    let a = first x r g in
    let c = first y r' g' in
    let same : a_head a.major a.arg (1 + a.width) ≡ a_head c.major c.arg (1 + c.width) = sym a.reads ∙ ap head_at e ∙ c.reads in
    let (major, arg, len) = same_head same in
    let width : c.width ≡ a.width = omega arith in
    subst₃ (Kind y) (sym major) width (sym arg) c.kind

-- what follows two heads of one width
after : (m w a a' : ℕ) (t r t' r' : List ℕ) → (head_bytes m w a ++ t) ++ r ≡ (head_bytes m w a' ++ t') ++ r' → t ++ r ≡ t' ++ r'
after m w a a' t r t' r' q =
    sym (drop_at (head_bytes m w a) (t ++ r) (1 + w) (length_head m w a))
    ∙ ap (drop (1 + w)) (sym (append_assoc (head_bytes m w a) t r) ∙ q ∙ append_assoc (head_bytes m w a') t' r')
    ∙ drop_at (head_bytes m w a') (t' ++ r') (1 + w) (length_head m w a')

-- the first bytes of two strings of the same length
front : (bs cs r r' : List ℕ) → length cs ≡ length bs → bs ++ r ≡ cs ++ r' → bs ≡ cs
front bs cs r r' e q = sym (take_at bs r (length bs) refl) ∙ ap (take (length bs)) q ∙ take_at cs r' (length bs) e

-- ---- an item of a known head is the one whose encoding begins alike. What it holds is known to be the same where that
-- begins alike
same_positive : (w n : ℕ) (y : Item) → Kind y 0 w n → Item.number false w n ≡ y
same_positive w n _ Kind.positive = refl

same_negative : (w n : ℕ) (y : Item) → Kind y 1 w n → Item.number true w n ≡ y
same_negative w n _ Kind.negative = refl

same_simple : (w n : ℕ) (y : Item) → Kind y 7 w n → Item.simple w n ≡ y
same_simple w n _ Kind.simple = refl

module _ (w : ℕ) (r r' : List ℕ) where
  same_bytes : (bs : List ℕ) (y : Item) (n : ℕ) → n ≡ length bs → Kind y 2 w n → encode (Item.string false w bs) ++ r ≡ encode y ++ r'
      → Item.string false w bs ≡ y
  unfolding encode
  same_bytes bs _ _ e (Kind.bytes {bs = cs}) q = ap (Item.string false w) (front bs cs r r' e (after 2 w (length bs) (length cs) bs r cs r' q))

  same_text : (bs : List ℕ) (y : Item) (n : ℕ) → n ≡ length bs → Kind y 3 w n → encode (Item.string true w bs) ++ r ≡ encode y ++ r' → Item.string true w bs ≡ y
  unfolding encode
  same_text bs _ _ e (Kind.text {bs = cs}) q = ap (Item.string true w) (front bs cs r r' e (after 3 w (length bs) (length cs) bs r cs r' q))

  same_tagged : (n : ℕ) (x y : Item) (m : ℕ) → m ≡ n → ((z : Item) → Good z → encode x ++ r ≡ encode z ++ r' → x ≡ z)
      → Kind y 6 w m → Good y → encode (Item.tagged w n x) ++ r ≡ encode y ++ r' → Item.tagged w n x ≡ y
  unfolding encode
  same_tagged n x _ _ e same (Kind.tagged {n = m} {x = z}) g q = ap₂ (Item.tagged w) (sym e) (same z g.1 (after 6 w n m (encode x) r (encode z) r' q))

  module _ (xs : Items) (same : (ys : Items) → Goods ys → count ys ≡ count xs → encodes xs ++ r ≡ encodes ys ++ r' → xs ≡ ys) where
    same_array : (y : Item) (n : ℕ) → n ≡ count xs → Kind y 4 w n → Good y → encode (Item.array w xs) ++ r ≡ encode y ++ r' → Item.array w xs ≡ y
    unfolding encode
    same_array _ _ e (Kind.array {xs = ys}) g q = ap (Item.array w) (same ys g.1 e (after 4 w (count xs) (count ys) (encodes xs) r (encodes ys) r' q))

    same_map : (y : Item) (n : ℕ) → n ≡ count xs / 2 → Kind y 5 w n → count xs / 2 * 2 ≡ count xs → Good y → encode (Item.map w xs) ++ r ≡ encode y ++ r'
        → Item.map w xs ≡ y
    unfolding encode
    same_map _ _ e (Kind.map {xs = ys}) even g q =
        ap (Item.map w)
        (same ys g.2 (omega (arith, g.1)) (after 5 w (count xs / 2) (count ys / 2) (encodes xs) r (encodes ys) r' q))

mutual
  unfolding first count encode

  pub unique : (x y : Item) (r r' : List ℕ) → Good x → Good y → encode x ++ r ≡ encode y ++ r' → x ≡ y
  unique (Item.number true w n) y r r' g g' e = same_negative w n y (alike (Item.number true w n) y r r' g g' e)
  unique (Item.number false w n) y r r' g g' e = same_positive w n y (alike (Item.number false w n) y r r' g g' e)
  unique (Item.string true w bs) y r r' g g' e = same_text w r r' bs y (length bs) refl (alike (Item.string true w bs) y r r' g g' e) e
  unique (Item.string false w bs) y r r' g g' e = same_bytes w r r' bs y (length bs) refl (alike (Item.string false w bs) y r r' g g' e) e
  unique (Item.array w xs) y r r' g g' e =
      same_array w r r' xs (λ ys h c q. uniques xs ys r r' g.1 h c q) y (count xs) refl (alike (Item.array w xs) y r r' g g' e) g' e
  unique (Item.map w xs) y r r' g g' e =
      same_map w r r' xs (λ ys h c q. uniques xs ys r r' g.2 h c q) y (count xs / 2) refl (alike (Item.map w xs) y r r' g g' e) g.1 g' e
  unique (Item.tagged w n x) y r r' g g' e =
      same_tagged w r r' n x y n refl (λ z h q. unique x z r r' g.1 h q) (alike (Item.tagged w n x) y r r' g g' e) g' e
  unique (Item.simple w n) y r r' g g' e = same_simple w n y (alike (Item.simple w n) y r r' g g' e)

  uniques : (xs ys : Items) (r r' : List ℕ) → Goods xs → Goods ys → count ys ≡ count xs → encodes xs ++ r ≡ encodes ys ++ r' → xs ≡ ys
  uniques Items.done Items.done r r' g g' c e = refl
  uniques Items.done (Items.more y ys) r r' g g' c e = absurd (omega arith)
  uniques (Items.more x xs) Items.done r r' g g' c e = absurd (omega arith)
  uniques (Items.more x xs) (Items.more y ys) r r' g g' c e =
      let q : encode x ++ (encodes xs ++ r) ≡ encode y ++ (encodes ys ++ r') =
      sym (append_assoc (encode x) (encodes xs) r) ∙ e ∙ append_assoc (encode y) (encodes ys) r' in
      let p : x ≡ y = unique x y (encodes xs ++ r) (encodes ys ++ r') g.0 g'.0 q in
      let rest : encodes xs ++ r ≡ encodes ys ++ r' =
      append_cancel_left (encode x) (encodes xs ++ r) (encodes ys ++ r') (q ∙ ap (λ (z : Item). encode z ++ (encodes ys ++ r')) (sym p)) in
      ap₂ Items.more p (uniques xs ys r r' g.1 g'.1 (omega arith) rest)
