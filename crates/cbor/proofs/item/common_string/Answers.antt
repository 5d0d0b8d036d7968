-- `cbor::item::common_string` meets its contract.
use native.Mathlib.Omega.{arith}
use Rattle.cbor.proofs.Common.{string_passed, byte_string_passed}
use Rattle.cbor.proofs.item.common_string.Goals as goal

pub returns-then-info-rest : goal.returns-then-info-rest
returns-then-info-rest c left =
    let string = c.requires.string in
    string_passed c.args.s.now c.args.at left string.0 string.1 c.if-info-lt24.true (omega (arith, c.requires.room, c.if-info-rest.true))

pub returns-then-len-rest : goal.returns-then-len-rest
returns-then-len-rest c left =
    let string = c.requires.string in
    byte_string_passed c.args.s.now c.args.at left string.0 string.1 (omega (arith, c.if-info-lt24.false, c.if-info-lt25.true)) c.if-len-ge24.true
    (omega (arith, c.requires.room, c.if-len-rest.true))
