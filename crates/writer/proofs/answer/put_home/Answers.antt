-- `writer::answer::put_home` meets its contract.
use lib.Dec.{lit<}
use Rattle.rfc8990.specs.Encoding.{fixed, reached}
use Rattle.encode.proofs.Puts.{then, head_in}
use Rattle.writer.proofs.answer.put_home.Goals as goal

pub returns : goal.returns
unfolding fixed reached
returns c =
    then (then (then
    (then (head_in _ _ _ 4 _ _ (lit< tt) c.head-a.ensures.value c.head-a.ensures.out_after)
    (head_in _ _ _ 0 _ _ (lit< tt) c.head-b.ensures.value c.head-b.ensures.out_after)) c.put_string-c.ensures)
    (head_in _ _ _ 0 _ _ (lit< tt) c.head-d.ensures.value c.head-d.ensures.out_after))
    (head_in _ _ _ 0 _ _ (lit< tt) c.head.ensures.value c.head.ensures.out_after)
