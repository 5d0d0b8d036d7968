-- A node's answer: what its arguments are, and what it is to be read as a message.
use Rattle.std.specs.Prelude.{Ok}
use Rattle.std.specs.Prelude.{ℕ, ◌^◌, ◌<◌, List, ◌≡◌, length}
use Rattle.base.specs.BigEndian.{Bytes}
use Rattle.rfc8990.specs.Message.{Msg}
use Rattle.rfc8990.specs.Cddl.{Value}
use Rattle.message.specs.declared.Message.{Message}
use Rattle.reader.specs.Read.{read_of}
use Rattle.rfc8990.specs.Accepted.{Accepted}
use Rattle.message_laws.specs.Describes.{Describes}

-- what the types of `answer`'s arguments say
pub record Arguments (session : ℕ) (initiator : List ℕ) (ttl : ℕ) (address : List ℕ) (port : ℕ) : Type 0 where
  pub session_fits : session < 2 ^ 32
  pub initiator_bytes : Bytes initiator
  pub ttl_fits : ttl < 2 ^ 32
  pub address_bytes : Bytes address
  pub address_length : length address ≡ 16
  pub port_fits : port < 2 ^ 16

-- the bytes are accepted as the message and as no other, and what is read of them describes it
pub record ReadAs (bs : List ℕ) (msg : Msg Value) : Type 0 where
  pub accepted : Accepted bs
  pub same : (a : Accepted bs) → a.message.msg ≡ msg
  pub message : Message
  pub read : read_of bs ≡ Ok message
  pub describes : Describes bs message msg
