-- Bytes that are accepted are the writer's encoding of their message.
-- Assumes nothing.
use mathlib.Core.Path.{◌≡◌, sym, ap, ◌∙◌}
use mathlib.Core.List.{List}
use Prim.Native.Nat.{ℕ}
use Rattle.rfc8990.specs.Accepted.{Accepted}
use Rattle.description.specs.declared.Description.{Description}
use Rattle.rfc8990.specs.Encoding.{encode_msg}
use Rattle.description.specs.Meaning.{msg_of}
use Rattle.writer.specs.Write.{draft_of}
use Rattle.writer_laws.specs.Plain.{plain}
use Rattle.writer_laws.proofs.Encodes.{plain_encodes}

-- for readers

-- What was read, encoded again, is what it was.
pub read_encoded : (s : List ℕ) (a : Accepted s) → encode_msg (plain a.message.msg) ≡ s
read_encoded s a = sym (plain_encodes a.message.one.good a.message.is) ∙ a.message.one.bytes

-- So any description that speaks of that message is drafted as the bytes that were read.
pub read_drafted : (s source list : List ℕ) (d : Description) (a : Accepted s) → msg_of source list d ≡ plain a.message.msg → draft_of source list d ≡ s
unfolding draft_of
read_drafted s source list d a e = ap encode_msg e ∙ read_encoded s a
