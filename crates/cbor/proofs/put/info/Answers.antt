-- `cbor::put::info` meets its contract: the definition's tests are the code's.
use native.Mathlib.Omega.{arith}
use Rattle.base.specs.Pick.{pick}
use Rattle.base.proofs.Tests.{tests}
use Rattle.cbor.specs.Tree.{info_of}
use Rattle.cbor.proofs.Stores.{in_first_lt}
use Rattle.cbor.proofs.put.info.Goals as goal

pub overflow_cast-result : goal.overflow_cast-result
overflow_cast-result c = omega (arith, in_first_lt _ (rw c.if-width-eq0.true at c.requires))

pub returns-then-width-eq0 : goal.returns-then-width-eq0
unfolding info_of pick
returns-then-width-eq0 c = search tests

pub returns-then-width-eq1 : goal.returns-then-width-eq1
unfolding info_of pick
returns-then-width-eq1 c = search tests

pub returns-then-width-eq2 : goal.returns-then-width-eq2
unfolding info_of pick
returns-then-width-eq2 c = search tests

pub returns-then-width-eq4 : goal.returns-then-width-eq4
unfolding info_of pick
returns-then-width-eq4 c = search tests

pub returns : goal.returns
unfolding info_of pick
returns c = search tests
