-- `cbor::item::common_simple` meets its contract.
use mathlib.Core.Path.{◌≡◌, refl}
use mathlib.Core.Logic.{inr}
use Prim.Native.Nat.{◌%◌}
use native.Mathlib.Omega.{arith}
use lib.ListN.{get_or}
use Rattle.base.specs.Pick.{pick}
use Rattle.cbor.specs.Head.{width_of}
use Rattle.cbor.proofs.Common.{leaf_passed, simple_passed, float_passed}
use Rattle.cbor.proofs.item.common_simple.Goals as goal

pub returns-then-info-lt24 : goal.returns-then-info-lt24
returns-then-info-lt24 c left =
    let a = c.args in
    leaf_passed a.s.now a.at left (omega (arith, c.requires.room)) c.if-info-lt24.true (inr c.requires.simple) (c.type_inv.s a.at).fits

pub returns-then-s-at-ge32 : goal.returns-then-s-at-ge32
returns-then-s-at-ge32 c left =
    let a = c.args in
    simple_passed a.s.now a.at left (omega (arith, c.requires.room)) (omega arith) c.requires.simple (c.type_inv.s a.at).fits c.if-s-at-ge32.true

pub returns-then-rest-gt1 : goal.returns-then-rest-gt1
unfolding width_of pick
returns-then-rest-gt1 c left =
    let a = c.args in
    let info : get_or a.s.now a.at 0 % 32 ≡ 25 = omega arith in
    float_passed a.s.now a.at left 2 (omega (arith, c.requires.room, c.if-rest-gt1.true)) (omega arith) (rw info refl) (omega arith)
    c.requires.simple (c.type_inv.s a.at).fits

pub returns-then-rest-gt3 : goal.returns-then-rest-gt3
unfolding width_of pick
returns-then-rest-gt3 c left =
    let a = c.args in
    let info : get_or a.s.now a.at 0 % 32 ≡ 26 = omega arith in
    float_passed a.s.now a.at left 4 (omega (arith, c.requires.room, c.if-rest-gt3.true)) (omega arith) (rw info refl) (omega arith)
    c.requires.simple (c.type_inv.s a.at).fits

pub returns-then-rest-gt7 : goal.returns-then-rest-gt7
unfolding width_of pick
returns-then-rest-gt7 c left =
    let a = c.args in
    let info : get_or a.s.now a.at 0 % 32 ≡ 27 = omega arith in
    float_passed a.s.now a.at left 8 (omega (arith, c.requires.room, c.if-rest-gt7.true)) (omega arith) (rw info refl) (omega arith)
    c.requires.simple (c.type_inv.s a.at).fits
