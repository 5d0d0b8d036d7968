-- The heads of an item one after the other: `token_at`, a head with its string; `size_at`, an item of any sort passed
-- over.
use Rattle.std.specs.Prelude.{ℕ, ◌+◌, ◌-◌, ◌≤◌, List, ◌≡◌, Ok, Err, length, drop, ltb, leb, eqb}
use Rattle.base.specs.Pick.{pick}
use Rattle.cbor.specs.declared.token.Token.{Token}
use Rattle.cbor.specs.Head.{HeadRead, head_at}
use Rattle.cbor.specs.Item.{ItemRead, first_item}

-- no whole head with its string: its major type is 8, which no head has
unfoldable pub nothing_at : ℕ → Token
nothing_at at = record { at = at; major = 8; arg = 0; body = 0; next = 0 }

-- a head of len bytes at `at`, with so many bytes from there on
unfoldable pub token_of : ℕ → ℕ → ℕ → ℕ → ℕ → Token
token_of at room major arg len =
    let leaf : Token = record { at = at; major = major; arg = arg; body = at + len; next = at + len } in
    let string : Token = record { at = at; major = major; arg = arg; body = at + len; next = at + len + arg } in
    pick (ltb 1 major) (pick (ltb major 4) (pick (leb arg (room - len)) string (nothing_at at)) leaf) leaf

-- a token by what was read of its head
unfoldable pub token_from : ℕ → ℕ → HeadRead → Token
token_from at room (Err why) = nothing_at at
token_from at room (Ok head) = token_of at room head.major head.arg head.len

-- the head at a place with its string
unfoldable pub token_at : List ℕ → ℕ → Token
token_at s at = token_from at (length (drop at s)) (head_at (drop at s))

-- the token at a place, with the bounds that callers count with
pub record TokenIs (s : List ℕ) (at : ℕ) (t : Token) : Type 0 where
  pub is : t ≡ token_at s at
  pub here : t.at ≡ at
  pub start : t.body ≤ t.next
  pub end : t.next ≤ length s

-- an item's size is where it ends, 0 for none
unfoldable pub size_from : ItemRead → ℕ
size_from (Err why) = 0
size_from (Ok end) = end

-- how many bytes the item at a place has, under so many open levels, 0 where none is there
unfoldable pub size_at : ℕ → List ℕ → ℕ → ℕ
size_at levels s at = size_from (first_item levels (drop at s))

-- the size at a place, with the bound that callers count with
pub record SizeIs (levels : ℕ) (s : List ℕ) (at size : ℕ) : Type 0 where
  pub is : size ≡ size_at levels s at
  pub within : size ≤ length s - at

-- how many items an array has, 0 for what is no array
unfoldable pub items_in : Token → ℕ
items_in t = pick (eqb t.major 4) t.arg 0

-- an unsigned number, limit + 1 for what is none or exceeds the limit
unfoldable pub up_to : ℕ → Token → ℕ
up_to limit t = pick (eqb t.major 0) (pick (leb t.arg limit) t.arg (limit + 1)) (limit + 1)
