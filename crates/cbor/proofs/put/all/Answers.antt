-- `cbor::put::all` meets its contract: bytes that fit are copied into a part that is lent.
use native.Mathlib.Omega.{arith}
use Rattle.base.proofs.Clauses.{value_out}
use Rattle.cbor.proofs.Stores.{all_over, lent_stored}
use Rattle.cbor.proofs.put.all.Goals as goal

pub returns-then-room-at : goal.returns-then-room-at
returns-then-room-at c = value_out (all_over _ _ _ (omega arith))

pub returns-then-room-at-2 : goal.returns-then-room-at-2
returns-then-room-at-2 c = value_out (all_over _ _ _ (omega arith))

pub returns : goal.returns
returns c = value_out (lent_stored _ _ _ (omega arith) c.copy.ensures)
