-- `cbor::token::nothing_at` meets its contract.
use Rattle.base.proofs.Tests.{tests}
use Rattle.cbor.specs.Token.{nothing_at}
use Rattle.cbor.proofs.token.nothing_at.Goals as goal

pub returns : goal.returns
unfolding nothing_at
returns c = search tests
