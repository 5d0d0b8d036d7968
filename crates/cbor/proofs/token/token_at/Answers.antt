-- `cbor::token::token_at` meets its contract.
use mathlib.Core.Path.{refl}
use native.Mathlib.Nat.{le_of_lt}
use native.Mathlib.Omega.{arith}
use Rattle.std.specs.Prelude.{Ok, Err}
use Rattle.cbor.specs.Token.{token_from}
use Rattle.cbor.proofs.Tokens.{token_none, token_found, head_fits}
use Rattle.cbor.proofs.token.token_at.Goals as goal

pub returns-then-s-at : goal.returns-then-s-at
returns-then-s-at c = token_none _ _ _ (le_of_lt c.if-s-at.true) c.nothing_at.ensures

pub token_of-requires : goal.token_of-requires
token_of-requires c = (
  head_fits c.args.s.now c.args.at _ _ _ _ c.in-Ok.ensures refl,
  omega (arith, c.well_formed, c.if-s-at.false),
)

pub returns-in-Err : goal.returns-in-Err
unfolding token_from
returns-in-Err c = token_found _ _ _ (Err _) _ c.in-Err.ensures refl c.nothing_at-in-Err.ensures

pub returns-in-Ok : goal.returns-in-Ok
unfolding token_from
returns-in-Ok c =
    token_found _ _ _ (Ok _) _ c.in-Ok.ensures refl c.token_of.ensures
