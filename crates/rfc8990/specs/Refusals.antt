-- The rows of the table of refusals (rules 3.1), in the order of the tests (rules 3.2), said of the bytes alone: which
-- refusal is due.
use Rattle.std.specs.Prelude.{ℕ, ◌<◌, ◌≤◌, List, ◌⊎◌, ◌≢◌, ◌≡◌, length}
use Rattle.refusal.specs.declared.Refusal.{Refusal}
use Rattle.refusal.specs.Refusal.{number_of}
use Rattle.cbor.specs.Item.{most_levels}
use Rattle.cbor.specs.Tree.{Item, Items, ItemIs}
use Rattle.cbor.specs.Fault.{FirstFault}
use Rattle.rfc8990.specs.Message.{Msg}
use Rattle.rfc8990.specs.Cddl.{uint, MessageItem, Value}
use Rattle.rfc8990.specs.Limits.{TextsGood, NamesGood}
use Rattle.rfc8990.specs.Limits.{most_bytes}
use Rattle.rfc8990.specs.Accepted.{OneItem, IsMessage}

-- s has as many bytes as a message may have
pub record Fits (s : List ℕ) : Type 0 where
  pub some : length s ≢ 0
  pub most : length s ≤ most_bytes

-- an array whose first item is the unsigned number n
pub data LedBy (n : ℕ) : Item → Type 0 where
  led : {w v : ℕ} {xs : Items} → LedBy n (Item.array w (Items.more (uint v n) xs))

-- an array whose first item is an unsigned number that is no kind
pub data UnknownKind : Item → Type 0 where
  unknown : {w v n : ℕ} {xs : Items} → 9 < n → n ≢ 99 → UnknownKind (Item.array w (Items.more (uint v n) xs))

-- refusal n is due of s
pub data Row (s : List ℕ) : ℕ → Type 0 where
  -- 0 bytes, or too many
  size : (length s ≡ 0) ⊎ (most_bytes < length s) → Row s 1
  -- 2 to 6: the first head at fault (`Fault` of `cbor` says what is wrong for which number)
  head : {refusal : Refusal} {place : ℕ} → Fits s → FirstFault most_levels s refusal place → Row s (number_of refusal)
  -- bytes after the item
  more : {e : ℕ} → length s ≤ most_bytes → ItemIs most_levels s e → e < length s → Row s 7
  -- one item of no known kind
  kind : (one : OneItem s) → UnknownKind one.item → Row s 8
  -- one item that is no message for another reason
  shape : (one : OneItem s) → (UnknownKind one.item → ⊥)
      → ((msg : Msg Value) → MessageItem one.item msg → ⊥) → Row s 9
  -- a message with a text that isn't UTF-8
  text : (m : IsMessage s) → (TextsGood m.msg → ⊥) → Row s 11
  -- a message with good texts, and with a long name
  name : (m : IsMessage s) → TextsGood m.msg → (NamesGood m.msg → ⊥) → Row s 10
