-- `cbor::put::spell` meets its contract. The loop's invariant: the bytes that are left, put into the buffer as it is,
-- give what all of them give in the buffer as it was.
use mathlib.Core.Path.{◌≡◌}
use lib.Seq.{sets}
use Rattle.base.specs.BigEndian.{bytes_of}
use Rattle.cbor.proofs.put.spell.Given as goal

abbrev pub invariant-loop-i : goal.invariant-loop-i
invariant-loop-i l = sets l.out l.at (bytes_of l.i l.rest) ≡ sets l.initial.out l.at (bytes_of l.n l.value)
