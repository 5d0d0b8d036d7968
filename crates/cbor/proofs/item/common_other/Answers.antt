-- `cbor::item::common_other` meets its contract.
use mathlib.Core.Path.{refl}
use mathlib.Core.Bool.{true, false}
use native.Mathlib.Omega.{arith}
use Rattle.base.specs.Pick.{pick}
use Rattle.cbor.specs.Item.{items_of}
use Rattle.cbor.proofs.Common.{map_opened, tag_opened}
use Rattle.cbor.proofs.item.common_other.Goals as goal

pub returns-in-160-to-183 : goal.returns-in-160-to-183
unfolding items_of pick
returns-in-160-to-183 c left s may = (_, true, map_opened c.args.first s left (omega arith) (omega arith) may, refl)

pub returns-in-192-to-215 : goal.returns-in-192-to-215
unfolding items_of pick
returns-in-192-to-215 c left s may = (_, false, tag_opened c.args.first s left (omega arith) (omega arith) may, refl)
