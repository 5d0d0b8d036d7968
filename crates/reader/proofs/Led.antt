-- A message that was read is an array led by the number of its kind. For readers: the statement at the end stands
-- alone.
-- Assumes nothing.
use Rattle.std.specs.Prelude.{Ok}
use mathlib.Core.Path.{◌≡◌}
use mathlib.Core.List.{List}
use Prim.Native.Nat.{ℕ}
use Rattle.cbor.specs.Tree.{Item}
use Rattle.rfc8990.specs.Message.{Msg}
use Rattle.rfc8990.specs.Cddl.{MessageItem, Value}
use Rattle.rfc8990.specs.Accepted.{Accepted}
use Rattle.rfc8990.specs.Refusals.{LedBy}
use Rattle.message.specs.declared.Message.{Message}
use Rattle.message.specs.Fields.{kind_of}
use Rattle.message_laws.specs.Describes.{Describes}
use Rattle.reader.specs.Read.{read_of}
use Rattle.reader.proofs.Exact.{accepted_described}

kind_leads : {s : List ℕ} {m : Message} {msg : Msg Value} {x : Item} → Describes s m msg → MessageItem x msg → LedBy (kind_of m) x
kind_leads Describes.noop MessageItem.noop = LedBy.led
kind_leads (Describes.discovery _ _ _ _) (MessageItem.discovery _ _ _) = LedBy.led
kind_leads (Describes.response _ _ _ _ _ _) (MessageItem.response _ _ _ _) = LedBy.led
kind_leads (Describes.request_negotiation _ _ _) (MessageItem.request_negotiation _ _) = LedBy.led
kind_leads (Describes.request_synchronization _ _ _) (MessageItem.request_synchronization _ _) = LedBy.led
kind_leads (Describes.negotiate _ _ _) (MessageItem.negotiate _ _) = LedBy.led
kind_leads (Describes.end _) (MessageItem.end _ _) = LedBy.led
kind_leads Describes.wait (MessageItem.wait _ _) = LedBy.led
kind_leads (Describes.synch _ _ _) (MessageItem.synch _ _) = LedBy.led
kind_leads (Describes.flood _ _ _ _ _ _) (MessageItem.flood _ _ _ _) = LedBy.led
kind_leads (Describes.invalid _ _ _ _) (MessageItem.invalid _) = LedBy.led
kind_leads (Describes.invalid _ _ _ _) (MessageItem.invalid_with _) = LedBy.led

-- for readers

-- What is read as m is one array whose first item is the number of m's kind.
pub read_kind : (s : List ℕ) (m : Message) → read_of s ≡ Ok m → (a : Accepted s) → LedBy (kind_of m) a.message.one.item
read_kind s m q a = kind_leads (accepted_described s m q a) a.message.is
