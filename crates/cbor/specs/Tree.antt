-- CBOR items as data (RFC 8949, section 3), each head with how many bytes of argument follow its first byte, and their
-- encoding.
use Rattle.std.specs.Prelude.{ℕ, suc, ◌+◌, ◌*◌, ◌/◌, ◌^◌, ◌<◌, ◌≤◌, max, List, ◌∷◌, [], ◌++◌, Bool, cond, ◌≢◌, ◌≡◌}
use Rattle.std.specs.Prelude.{length, take, ltb, eqb}
use Rattle.base.specs.Pick.{pick}
use Rattle.base.specs.BigEndian.{bytes_of, Bytes}

-- the additional information of a head with so many bytes of argument
unfoldable pub info_of : ℕ → ℕ → ℕ
info_of width arg = pick (eqb width 0) arg (pick (eqb width 1) 24 (pick (eqb width 2) 25 (pick (eqb width 4) 26 27)))

-- a head: the major type and the additional information in its first byte, then the bytes of its argument
unfoldable pub head_bytes : ℕ → ℕ → ℕ → List ℕ
head_bytes major width arg = (major * 32 + info_of width arg) ∷ bytes_of width arg

-- an argument that a head with so many bytes of argument can have
pub data Sized : ℕ → ℕ → Type 0 where
  in_first : {n : ℕ} → n < 24 → Sized 0 n
  one : {n : ℕ} → n < 2 ^ 8 → Sized 1 n
  two : {n : ℕ} → n < 2 ^ 16 → Sized 2 n
  four : {n : ℕ} → n < 2 ^ 32 → Sized 4 n
  eight : {n : ℕ} → n < 2 ^ 64 → Sized 8 n

-- how many bytes of argument the shortest head has
unfoldable pub shortest : ℕ → ℕ
shortest arg = pick (ltb arg 24) 0 (pick (ltb arg (2 ^ 8)) 1 (pick (ltb arg (2 ^ 16)) 2 (pick (ltb arg (2 ^ 32)) 4 8)))

-- a head without fault: well-formed (a simple value in two bytes is at least 32), and of major types 0 to 6 the
-- shortest
pub record Right (major width arg : ℕ) : Type 0 where
  pub sized : Sized width arg
  pub simple : major ≡ 7 → width ≡ 1 → 32 ≤ arg
  pub short : major ≢ 7 → width ≡ shortest arg

-- the first len bytes of s are a head without fault
pub record HeadIs (s : List ℕ) (major arg len : ℕ) : Type 0 where
  pub width : ℕ
  pub kind : major < 8
  pub right : Right major width arg
  pub bytes : take len s ≡ head_bytes major width arg
  pub within : len ≤ length s

-- an item of each major type, and items one after the other
mutual
  pub data Item : Type 0 where
    -- n, or -1 - n where negative
    number : (negative : Bool) (width n : ℕ) → Item
    -- bytes, or text
    string : (text : Bool) (width : ℕ) (content : List ℕ) → Item
    array : (width : ℕ) → Items → Item
    -- keys and values in turn
    map : (width : ℕ) → Items → Item
    tagged : (width n : ℕ) → Item → Item
    -- a simple value or a float
    simple : (width n : ℕ) → Item

  pub data Items : Type 0 where
    done : Items
    more : Item → Items → Items

-- how many items there are
unfoldable pub count : Items → ℕ
count Items.done = 0
count (Items.more x xs) = suc (count xs)

-- the bytes of an item: its head, and what its head announces
unfoldable mutual
  pub encode : Item → List ℕ
  encode (Item.number negative width n) = head_bytes (cond negative 1 0) width n
  encode (Item.string text width content) = head_bytes (cond text 3 2) width (length content) ++ content
  encode (Item.array width xs) = head_bytes 4 width (count xs) ++ encodes xs
  encode (Item.map width xs) = head_bytes 5 width (count xs / 2) ++ encodes xs
  encode (Item.tagged width n x) = head_bytes 6 width n ++ encode x
  encode (Item.simple width n) = head_bytes 7 width n

  pub encodes : Items → List ℕ
  encodes Items.done = []
  encodes (Items.more x xs) = encode x ++ encodes xs

-- how many levels of arrays, maps and tags an item has
unfoldable mutual
  pub depth : Item → ℕ
  depth (Item.number negative width n) = 0
  depth (Item.string text width content) = 0
  depth (Item.array width xs) = suc (depths xs)
  depth (Item.map width xs) = suc (depths xs)
  depth (Item.tagged width n x) = suc (depth x)
  depth (Item.simple width n) = 0

  pub depths : Items → ℕ
  depths Items.done = 0
  depths (Items.more x xs) = max (depth x) (depths xs)

-- every head is without fault, strings are bytes, and a map has as many values as keys
abbrev mutual
  pub Good : Item → Type 0
  Good (Item.number negative width n) = Right (cond negative 1 0) width n
  Good (Item.string text width content) = Right (cond text 3 2) width (length content) × Bytes content
  Good (Item.array width xs) = Right 4 width (count xs) × Goods xs
  Good (Item.map width xs) = Right 5 width (count xs / 2) × (count xs / 2 * 2 ≡ count xs) × Goods xs
  Good (Item.tagged width n x) = Right 6 width n × Good x
  Good (Item.simple width n) = Right 7 width n

  pub Goods : Items → Type 0
  Goods Items.done = Unit {0}
  Goods (Items.more x xs) = Good x × Goods xs

-- the first e bytes of s are the encoding of an item without fault, of so many levels at most
pub record ItemIs (left : ℕ) (s : List ℕ) (e : ℕ) : Type 0 where
  pub item : Item
  pub good : Good item
  pub shallow : depth item ≤ left
  pub bytes : take e s ≡ encode item
  pub within : e ≤ length s
