-- `cbor::token::token_of` meets its contract.
use Rattle.base.proofs.Tests.{tests}
use Rattle.base.specs.Pick.{pick}
use Rattle.cbor.specs.Token.{token_of}
use Rattle.cbor.proofs.token.token_of.Goals as goal

pub returns-then-arg-left : goal.returns-then-arg-left
unfolding token_of pick
returns-then-arg-left c = search tests

pub returns-then-major-lt4 : goal.returns-then-major-lt4
unfolding token_of pick
returns-then-major-lt4 c = rw c.nothing_at.ensures (search tests)

pub returns-else-major-lt4 : goal.returns-else-major-lt4
unfolding token_of pick
returns-else-major-lt4 c = search tests

pub returns-else-major-gt1 : goal.returns-else-major-gt1
unfolding token_of pick
returns-else-major-gt1 c = search tests
