-- `cbor::put::head_len` meets its contract: the definition's tests are the code's. The first two answers are said by
-- `omega`, so that a slip in 24 is named.
use Prim.Native.Nat.{◌^◌}
use native.Mathlib.Omega.{arith}
use borrow.Author.Tests.{lt-ltb, le-ltb}
use Rattle.base.specs.Pick.{pick}
use Rattle.base.proofs.Tests.{tests}
use Rattle.cbor.specs.Tree.{shortest}
use Rattle.cbor.proofs.put.head_len.Goals as goal

pub returns-then-arg-lt24 : goal.returns-then-arg-lt24
unfolding shortest pick
returns-then-arg-lt24 c = rw (lt-ltb c.args.arg 24 (omega arith))

pub returns-then-arg-lt256 : goal.returns-then-arg-lt256
unfolding shortest pick
returns-then-arg-lt256 c = rw (le-ltb c.args.arg 24 (omega arith), lt-ltb c.args.arg (2 ^ 8) (omega arith))

pub returns-then-arg-lt65536 : goal.returns-then-arg-lt65536
unfolding shortest pick
returns-then-arg-lt65536 c = search tests

pub returns-then-arg-lt4294967296 : goal.returns-then-arg-lt4294967296
unfolding shortest pick
returns-then-arg-lt4294967296 c = search tests

pub returns : goal.returns
unfolding shortest pick
returns c = search tests
