-- `cbor::item::common_at` meets its contract.
use mathlib.Core.Path.{refl}
use mathlib.Core.Bool.{false}
use native.Mathlib.Omega.{arith}
use Rattle.base.specs.Pick.{pick}
use Rattle.cbor.specs.Item.{items_of}
use Rattle.cbor.proofs.Common.{small_passed, array_opened, byte_tag_opened, by_byte}
use Rattle.cbor.proofs.item.common_at.Goals as goal

pub returns-then-first-lt24 : goal.returns-then-first-lt24
returns-then-first-lt24 c = small_passed c.args.s.now c.args.at c.args.left (omega arith) c.if-first-lt24.true

pub returns-then-first-lt64 : goal.returns-then-first-lt64
returns-then-first-lt64 c = c.common_number.ensures c.args.left

pub returns-then-first-lt128 : goal.returns-then-first-lt128
returns-then-first-lt128 c = c.common_string.ensures c.args.left

pub returns-then-first-lt152 : goal.returns-then-first-lt152
unfolding items_of pick
returns-then-first-lt152 c =
    let args = c.args in
    (_, false, array_opened args.s.now args.at args.left c.if-first-lt128.false c.if-first-lt152.true c.if-left-eq0.false, refl)

pub returns-then-first-lt216 : goal.returns-then-first-lt216
returns-then-first-lt216 c = by_byte c.args.s.now c.args.at c.args.left _ (omega arith) c.common_other.ensures c.if-left-eq0.false

pub returns-then-first-ge224 : goal.returns-then-first-ge224
returns-then-first-ge224 c = c.common_simple.ensures c.args.left

pub returns-then-s-at-ge24 : goal.returns-then-s-at-ge24
unfolding items_of pick
returns-then-s-at-ge24 c =
    let args = c.args in
    let room = c.if-rest-gt0.true in (
      _,
      false,
      byte_tag_opened args.s.now args.at args.left (omega (arith, room)) c.if-first.true c.if-s-at-ge24.true c.if-left-eq0.false,
      refl,
    )
