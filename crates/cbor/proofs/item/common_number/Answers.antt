-- `cbor::item::common_number` meets its contract.
use mathlib.Core.Logic.{inl}
use native.Mathlib.Omega.{arith}
use Rattle.cbor.proofs.Common.{leaf_passed, byte_passed, two_passed, four_passed, eight_passed}
use Rattle.cbor.proofs.item.common_number.Goals as goal

pub returns-then-info-lt24 : goal.returns-then-info-lt24
returns-then-info-lt24 c left =
    let a = c.args in
    leaf_passed a.s.now a.at left (omega (arith, c.requires.room)) c.if-info-lt24.true (inl c.requires.number) (omega (arith, c.requires.number))

pub returns-then-s-at-ge24 : goal.returns-then-s-at-ge24
returns-then-s-at-ge24 c left = byte_passed c.args.s.now c.args.at left (omega arith) (omega arith) c.requires.number c.if-s-at-ge24.true

pub returns-then-s-at-gt0 : goal.returns-then-s-at-gt0
returns-then-s-at-gt0 c left = two_passed c.args.s.now c.args.at left (omega arith) (omega arith) c.requires.number c.if-s-at-gt0.true

pub returns-then-two-gt0 : goal.returns-then-two-gt0
returns-then-two-gt0 c left =
    four_passed c.args.s.now c.args.at left (omega arith) (omega arith) c.requires.number (omega (arith, c.two.ensures, c.if-two-gt0.true))

pub returns-then-two-gt0-2 : goal.returns-then-two-gt0-2
returns-then-two-gt0-2 c left =
    eight_passed c.args.s.now c.args.at left (omega (arith, c.requires.room, c.if-rest-gt7.true)) (omega arith) c.requires.number
    (omega (arith, c.two-then-rest-gt7.ensures, c.two-then-rest-gt7-2.ensures, c.if-two-gt0-2.true))
