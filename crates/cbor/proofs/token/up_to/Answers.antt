-- `cbor::token::up_to` meets its contract.
use Rattle.base.proofs.Tests.{tests}
use Rattle.base.specs.Pick.{pick}
use Rattle.cbor.specs.Token.{up_to}
use Rattle.cbor.proofs.token.up_to.Goals as goal

pub returns-then-t-most : goal.returns-then-t-most
unfolding up_to pick
returns-then-t-most c = search tests

pub returns-then-t-eq0 : goal.returns-then-t-eq0
unfolding up_to pick
returns-then-t-eq0 c = search tests

pub returns : goal.returns
unfolding up_to pick
returns c = search tests
