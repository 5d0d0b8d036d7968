-- `host::table::put_number` meets its contract: the library's eight bytes are copied into a part that is lent.
use mathlib.Core.Path.{◌∙◌}
use native.Mathlib.Omega.{arith}
use Rattle.base.specs.BigEndian.{bytes_of}
use Rattle.base.proofs.Digits.{high_first}
use Rattle.base.proofs.Parts.{lent_sets}
use Rattle.host.proofs.table.put_number.Goals as goal

pub returns : goal.returns
unfolding bytes_of
returns c = lent_sets _ _ _ (omega arith) (c.copy_from_slice.ensures.after ∙ c.to_be_bytes.ensures ∙ high_first 8 c.args.x)
