-- `cbor::head::big_endian` meets its contract. The loop's invariant: the bytes passed spell `value`, a number of that
-- many bytes.
use mathlib.Core.Path.{◌≡◌}
use Prim.Native.Nat.{◌<◌, ◌*◌, ◌^◌}
use Rattle.base.specs.BigEndian.{big_endian}
use Rattle.cbor.proofs.head.big_endian.Given as goal

abbrev pub invariant-loop-b : goal.invariant-loop-b
invariant-loop-b l = (l.value ≡ big_endian l.b-items l.b-index) × (l.value < 2 ^ (8 * l.b-index))
