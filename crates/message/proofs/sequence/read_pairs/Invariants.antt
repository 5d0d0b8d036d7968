-- `message::sequence::read_pairs` meets its contract.
use Prim.Native.Nat.{◌-◌}
use Rattle.message.proofs.Fits.{Paired}
use Rattle.message.proofs.sequence.read_pairs.Given as goal

abbrev pub invariant-loop : goal.invariant-loop
invariant-loop l = Paired l.s l.n l.from l.fn.first_bad l.fn.first_long (l.n - l.counter) l.at l.bad l.long
