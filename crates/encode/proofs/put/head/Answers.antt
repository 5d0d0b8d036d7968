-- `encode::put::head` meets its contract.
use Rattle.encode.proofs.Puts.{head_in}
use Rattle.encode.proofs.put.head.Goals as goal

pub returns : goal.returns
returns c = head_in _ _ _ _ _ _ c.requires c.head.ensures.value c.head.ensures.out_after
