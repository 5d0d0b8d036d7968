-- What was read, described and written again. For readers: each statement stands alone.
-- Assumes nothing.
use mathlib.Core.Path.{◌≡◌}
use mathlib.Core.List.{List, ◌++◌}
use Prim.Native.Nat.{ℕ, ◌≤◌, ◌<◌}
use lib.ListN.{length, drop}
use Rattle.base.specs.BigEndian.{Bytes}
use Rattle.message.specs.declared.Message.{Message}
use Rattle.reader.specs.Read.{read_of}
use Rattle.rfc8990.specs.Accepted.{Accepted}
use Rattle.reader.proofs.Exact.{accepted_exactly, accepted_described}
use Rattle.std.specs.Prelude.{Ok, Err}
use Rattle.refusal.specs.declared.Refusal.TheVariants.{WriteOutput}
use Rattle.writer.specs.Write.{write_answer, write_out}
use Rattle.forms.specs.Describe.{description_of}
use Rattle.forms.specs.Rows.{rows_end}
use Rattle.writer_laws.specs.Plain.{plain}
use Rattle.writer_laws.specs.Says.{Says}
use Rattle.writer_laws.proofs.Write.{read_written, refused_19}
use Rattle.writer_laws.specs.Lent.{rows_lent}
use Rattle.writer_laws.proofs.ByKind.{kind_says}

-- for readers

-- The description of a message that was read says that message, with the rows in a list that has room for them.
pub described_says : (s list : List ℕ) (m : Message) → read_of s ≡ Ok m → rows_end m list ≤ length list → (a : Accepted s)
    → Says s (rows_lent s m list) (description_of m) (plain a.message.msg)
described_says s list m q room a =
    kind_says s list (accepted_described s m q a) a.message.is a.message.one.shallow a.message.one.bytes room

-- So what was read, described and written again is the same bytes, where the output has room for them.
pub described_written : (s list out : List ℕ) (m : Message) → Bytes s → read_of s ≡ Ok m → rows_end m list ≤ length list → length s ≤ length out
    → (write_answer s (rows_lent s m list) (description_of m) out ≡ Ok (length s))
    × (write_out s (rows_lent s m list) (description_of m) out ≡ s ++ drop (length s) out)
described_written s list out m b q room =
    let a = (accepted_exactly s b).0 (m, q) in
    read_written s s (rows_lent s m list) (description_of m) out a (described_says s list m q room a)

-- And 19 is answered where it hasn't.
pub described_short : (s list out : List ℕ) (m : Message) → Bytes s → read_of s ≡ Ok m → rows_end m list ≤ length list → length out < length s
    → write_answer s (rows_lent s m list) (description_of m) out ≡ Err WriteOutput
described_short s list out m b q room short =
    let a = (accepted_exactly s b).0 (m, q) in
    (refused_19 s (rows_lent s m list) (description_of m) out b).1 (s, a, described_says s list m q room a, short)
