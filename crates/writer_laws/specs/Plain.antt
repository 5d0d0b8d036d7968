-- A message of the grammar as it is written: each value is the bytes of its item.
use Rattle.std.specs.Prelude.{ℕ, List, []}
use Rattle.std.proofs.Math.Option.{none, some}
use Rattle.cbor.specs.Tree.{encode}
use Rattle.rfc8990.specs.Message.{Msg, valued}
use Rattle.rfc8990.specs.Cddl.{Value}

-- no bytes where there is none
unfoldable pub value_bytes : Value → List ℕ
value_bytes none = []
value_bytes (some x) = encode x

-- the message with such values
unfoldable pub plain : Msg Value → Msg (List ℕ)
plain msg = valued value_bytes msg
