-- `cbor::put::copy` meets its contract. The loop's invariant: as many bytes as there were turns are those of s.
use mathlib.Core.Path.{refl, ◌∙◌}
use native.Mathlib.Omega.{arith}
use Rattle.cbor.proofs.Stores.{copy_turn, copy_done}
use Rattle.cbor.proofs.put.copy.Goals as goal

pub loop-i-init : goal.loop-i-init
loop-i-init c = refl

pub loop-i-preserved : goal.loop-i-preserved
loop-i-preserved c = copy_turn _ _ _ (omega arith) c.loop-i-test.true c.loop-i.invariant

pub returns : goal.returns
returns c = copy_done _ _ _ c.loop-i-test.false (c.loop-i.auto.to ∙ c.requires) c.loop-i.invariant
