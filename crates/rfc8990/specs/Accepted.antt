-- The bytes that are to be accepted: the encodings of the messages of RFC 8990 (rules 1) within the limits (rules 2).
use Rattle.std.specs.Prelude.{ℕ, ◌≤◌, List, ◌≡◌, length}
use Rattle.cbor.specs.Item.{most_levels}
use Rattle.cbor.specs.Tree.{Item, Good, depth, encode}
use Rattle.rfc8990.specs.Message.{Msg}
use Rattle.rfc8990.specs.Cddl.{MessageItem, Value}
use Rattle.rfc8990.specs.Limits.{TextsGood, NamesGood}
use Rattle.rfc8990.specs.Limits.{most_bytes}

-- s is the encoding of one item, within the limits on bytes, levels and heads
pub record OneItem (s : List ℕ) : Type 0 where
  pub item : Item
  pub bytes : encode item ≡ s
  pub most : length s ≤ most_bytes
  pub good : Good item
  pub shallow : depth item ≤ most_levels

-- and that item is a message
pub record IsMessage (s : List ℕ) : Type 0 where
  pub one : OneItem s
  pub msg : Msg Value
  pub is : MessageItem one.item msg

-- and its texts and names are within their limits
pub record Accepted (s : List ℕ) : Type 0 where
  pub message : IsMessage s
  pub texts : TextsGood message.msg
  pub names : NamesGood message.msg
