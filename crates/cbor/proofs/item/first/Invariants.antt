-- `cbor::item::first` meets its contract. `Inv` of `Turn` is the loop's invariant. The measure counts two for each byte
-- left and one for each open level around the innermost: a turn passes a byte, and opens one level at most, or closes
-- one.
use Prim.Native.Nat.{◌+◌, ◌-◌, ◌*◌}
use lib.ListN.{length}
use Rattle.cbor.proofs.Turn.{Inv}
use Rattle.cbor.proofs.item.first.Given as goal

abbrev pub invariant-loop-lacking : goal.invariant-loop-lacking
invariant-loop-lacking l = Inv l.levels l.s l.most l.outer l.depth l.lacking l.at

abbrev pub decreases-loop-lacking : goal.decreases-loop-lacking
decreases-loop-lacking l = 2 * (length l.s - l.at) + l.depth
