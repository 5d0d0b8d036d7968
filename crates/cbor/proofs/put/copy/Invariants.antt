-- `cbor::put::copy` meets its contract. The loop's invariant: as many bytes as there were turns are those of s.
use mathlib.Core.Path.{◌≡◌}
use lib.ListN.{take}
use Rattle.cbor.proofs.put.copy.Given as goal

abbrev pub invariant-loop-i : goal.invariant-loop-i
invariant-loop-i l = take l.i l.to ≡ take l.i l.s
