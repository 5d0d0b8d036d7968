-- `host::table::number_at` meets its contract: `big_endian` of eight bytes is the sum that the library gives.
use native.Mathlib.Nat.{add-zero}
use native.Mathlib.Omega.{arith}
use lib.Seq.{get_or-drop}
use Rattle.base.specs.BigEndian.{big_endian}
use Rattle.host.proofs.table.number_at.Goals as goal

pub returns : goal.returns
unfolding big_endian
returns c = simp (get_or-drop, add-zero) (omega (arith, c.from_be_bytes.ensures))
