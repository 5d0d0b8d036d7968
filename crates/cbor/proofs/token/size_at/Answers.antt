-- `cbor::token::size_at` meets its contract.
use native.Mathlib.Nat.{le_of_lt}
use Rattle.cbor.proofs.Tokens.{size_none, size_found}
use Rattle.cbor.proofs.token.size_at.Goals as goal

pub returns-then-s-at : goal.returns-then-s-at
returns-then-s-at c = size_none _ _ _ (le_of_lt c.if-s-at.true)

pub returns : goal.returns
returns c = size_found _ _ _ _ _ c.first.ensures c.unwrap_or.ensures
