-- `encode::put::byte` meets its contract.
use Rattle.encode.proofs.Puts.{byte_over, byte_in}
use Rattle.encode.proofs.put.byte.Goals as goal

pub returns-then-out-at : goal.returns-then-out-at
returns-then-out-at c = byte_over _ _ _ c.if-out-at.true

pub returns : goal.returns
returns c = byte_in _ _ _
