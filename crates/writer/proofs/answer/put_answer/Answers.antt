-- `writer::answer::put_answer` meets its contract.
use lib.Dec.{lit<}
use Rattle.rfc8990.specs.Encoding.{preamble}
use Rattle.encode.proofs.Puts.{then, head_in}
use Rattle.writer.proofs.Response.{answer_is}
use Rattle.writer.proofs.answer.put_answer.Goals as goal

pub returns : goal.returns
unfolding preamble
returns c =
    rw answer_is
    (then (then (then (then (then
    (head_in _ _ _ 4 _ _ (lit< tt) c.head-a.ensures.value c.head-a.ensures.out_after)
    (head_in _ _ _ 0 _ _ (lit< tt) c.head-b.ensures.value c.head-b.ensures.out_after))
    (head_in _ _ _ 0 _ _ (lit< tt) c.head-c.ensures.value c.head-c.ensures.out_after))
    c.put_string-d.ensures)
    (head_in _ _ _ 0 _ _ (lit< tt) c.head-e.ensures.value c.head-e.ensures.out_after))
    c.put_home.ensures)
