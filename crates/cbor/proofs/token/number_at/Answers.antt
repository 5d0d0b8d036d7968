-- `cbor::token::number_at` meets its contract.
use mathlib.Core.Path.{refl}
use Prim.Native.Nat.{◌+◌}
use native.Mathlib.Omega.{arith}
use Rattle.cbor.proofs.Common.{small_head, two_bytes, three_bytes}
use Rattle.cbor.proofs.Tokens.{token_told}
use Rattle.cbor.proofs.token.number_at.Goals as goal

pub returns-then-first-lt24 : goal.returns-then-first-lt24
returns-then-first-lt24 c =
    token_told c.args.s.now c.args.at _ _ _ _ _
    (small_head c.args.s.now c.args.at c.if-at-s.true c.if-first-lt24.true) refl c.token_of.ensures

pub overflow_cast-high : goal.overflow_cast-high
overflow_cast-high c = omega (arith, c.type_inv.s (c.args.at + 1))

pub returns-then-high-ge24 : goal.returns-then-high-ge24
returns-then-high-ge24 c =
    token_told c.args.s.now c.args.at _ _ _ _ _
    (two_bytes c.args.s.now c.args.at c.if-first-eq24.true c.if-high-ge24.true) refl c.token_of-then-high-ge24.ensures

pub returns-then-high-gt0 : goal.returns-then-high-gt0
returns-then-high-gt0 c =
    token_told c.args.s.now c.args.at _ _ _ _ _
    (three_bytes c.args.s.now c.args.at (omega arith) c.if-first-eq25.true c.if-high-gt0.true) c.two.ensures
    c.token_of-then-high-gt0.ensures

pub returns : goal.returns
returns c = c.token_at.ensures
