-- Which head is at fault, said without reading: an unfinished item, all of whose heads are good, and then a head with a
-- fault.
use Rattle.std.specs.Prelude.{ℕ, ◌+◌, ◌-◌, ◌*◌, ◌%◌, ◌<◌, ◌≤◌, List, [], ◌∷◌, ◌++◌, ◌≢◌, ◌≡◌, length, eqb}
use Rattle.std.specs.Prelude.{Bool, true, false}
use Rattle.base.specs.Pick.{pick}
use Rattle.refusal.specs.declared.Refusal.{Refusal}
use Rattle.refusal.specs.declared.Refusal.TheVariants as R
use Rattle.cbor.specs.Tree.{Items, head_bytes, Sized, Right, shortest, count, encodes, depths, Goods}

-- additional information that says how many bytes of argument follow the first byte
pub data Announces : ℕ → ℕ → Type 0 where
  one : Announces 24 1
  two : Announces 25 2
  four : Announces 26 4
  eight : Announces 27 8

-- What is wrong with the head at the start of s, where so many levels may open, and its refusal.
pub data Fault (left : ℕ) (s : List ℕ) : Refusal → Type 0 where
  missing : s ≡ [] → Fault left s R.Cut
  reserved : (first : ℕ) (rest : List ℕ) → s ≡ first ∷ rest → 28 ≤ first % 32 → first % 32 < 31
      → Fault left s R.Reserved
  indefinite : (first : ℕ) (rest : List ℕ) → s ≡ first ∷ rest → first % 32 ≡ 31 → Fault left s R.Indefinite
  cut : (first : ℕ) (rest : List ℕ) {width : ℕ} → s ≡ first ∷ rest → Announces (first % 32) width
      → length rest < width → Fault left s R.Cut
  low_simple : (value : ℕ) (rest : List ℕ) → s ≡ head_bytes 7 1 value ++ rest → value < 32 → Fault left s R.Reserved
  long : (major width arg : ℕ) (rest : List ℕ) → s ≡ head_bytes major width arg ++ rest → major < 7 → Sized width arg
      → width ≢ shortest arg → Fault left s R.LongHead
  deep : (major width arg : ℕ) (rest : List ℕ) → s ≡ head_bytes major width arg ++ rest → Right major width arg
      → 4 ≤ major → major < 7 → left ≡ 0 → Fault left s R.TooDeep
  short : (major width arg : ℕ) (rest : List ℕ) → s ≡ head_bytes major width arg ++ rest → Right major width arg
      → 2 ≤ major → major < 4 → length rest < arg → Fault left s R.Cut

-- an array, a map or a tag whose items aren't all there: its head, and the items that are
pub record Begun : Type 0 where
  pub major : ℕ
  pub width : ℕ
  pub arg : ℕ
  pub items : Items

-- how many items an array, a map or a tag holds
unfoldable pub items_held : ℕ → ℕ → ℕ
items_held major arg = pick (eqb major 4) arg (pick (eqb major 5) (2 * arg) 1)

-- begun arrays, maps and tags, each inside the one before it, after the items there
unfoldable pub encode_begun : List Begun → List ℕ
encode_begun [] = []
encode_begun (b ∷ bs) = head_bytes b.major b.width b.arg ++ (encodes b.items ++ encode_begun bs)

-- one that lacks an item, where so many levels may open
pub record Lacking (left : ℕ) (b : Begun) : Type 0 where
  pub right : Right b.major b.width b.arg
  pub low : 4 ≤ b.major
  pub high : b.major < 7
  pub good : Goods b.items
  pub fewer : count b.items < items_held b.major b.arg
  pub shallow : depths b.items + 1 ≤ left

-- each lacks an item, one level deeper than the one before it
abbrev pub Unfinished : ℕ → List Begun → Type 0
Unfinished left [] = Unit {0}
Unfinished left (b ∷ bs) = Lacking left b × Unfinished (left - 1) bs

-- the bytes end inside an item
abbrev pub is_cut : Refusal → Bool
is_cut R.Cut = true
is_cut _ = false

-- the place of a refusal: the head's first byte, but where the bytes end for one that is cut
unfoldable pub place_of : Refusal → ℕ → ℕ → ℕ
place_of refusal head end = pick (is_cut refusal) end head

-- s is an unfinished item and then a head at fault, where so many levels may open
pub record FirstFault (left : ℕ) (s : List ℕ) (refusal : Refusal) (place : ℕ) : Type 0 where
  pub begun : List Begun
  pub unfinished : Unfinished left begun
  pub rest : List ℕ
  pub split : s ≡ encode_begun begun ++ rest
  pub fault : Fault (left - length begun) rest refusal
  pub at : place ≡ place_of refusal (length (encode_begun begun)) (length s)
