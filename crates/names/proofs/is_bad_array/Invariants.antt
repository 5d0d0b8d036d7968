-- `names::is_bad_array` meets its contract. The loop's invariant: the names from here on are good exactly if all are.
use mathlib.Core.Path.{◌≡◌}
use Prim.Native.Nat.{◌-◌}
use Rattle.names.specs.Names.{good_names}
use Rattle.names.proofs.is_bad_array.Given as goal

abbrev pub invariant-loop : goal.invariant-loop
invariant-loop l = good_names l.s (l.end - l.counter) l.at ≡ good_names l.s l.end l.initial.at
