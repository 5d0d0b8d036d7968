-- `names::is_named` meets its contract. The loop's invariant: the name is one of those from here on exactly if it is
-- one of all.
use mathlib.Core.Path.{◌≡◌}
use Prim.Native.Nat.{◌-◌}
use Rattle.names.specs.Names.{named_from}
use Rattle.names.proofs.is_named.Given as goal

abbrev pub invariant-loop : goal.invariant-loop
invariant-loop l = named_from l.s l.name (l.end - l.counter) l.at ≡ named_from l.s l.name l.end l.initial.at
