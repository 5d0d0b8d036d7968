-- The bytes that are to be accepted as a node's own names (refusal 16, rules 8.4).
use Rattle.std.specs.Prelude.{ℕ, ◌≤◌, List, [], ◌∷◌, length}
use Rattle.base.specs.Lists.{Every}
use Rattle.cbor.specs.Tree.{Item, Items}
use Rattle.rfc8990.specs.Cddl.{text}
use Rattle.rfc8990.specs.Limits.{Utf8, Short}
use Rattle.rfc8990.specs.Accepted.{OneItem}
use Rattle.names.specs.Names.{most_names}

-- items that are texts of these contents, heads of any width; which widths are good is said by `Good` of `cbor Tree`
pub data TextItems : Items → List (List ℕ) → Type 0 where
  empty : TextItems Items.done []
  more : {w : ℕ} {content : List ℕ} {xs : Items} {contents : List (List ℕ)} → TextItems xs contents
      → TextItems (Items.more (text w content) xs) (content ∷ contents)

-- an array of texts
pub data TextArray : Item → List (List ℕ) → Type 0 where
  array : {w : ℕ} {xs : Items} {contents : List (List ℕ)} → TextItems xs contents → TextArray (Item.array w xs) contents

-- the names that bytes hold
pub record OwnNames (s : List ℕ) : Type 0 where
  -- s is one item that passes refusals 1 to 7: its encoding and nothing more, at most 2,048 bytes and 8 levels, every
  -- head without fault
  pub one : OneItem s
  -- an array whose items are the names' texts, in their order
  pub names : List (List ℕ)
  pub are : TextArray one.item names
  -- 0 to 16 of them
  pub few : length names ≤ most_names
  -- each of them UTF-8, and of at most 64 bytes
  pub utf8 : Every Utf8 names
  pub short : Every Short names
