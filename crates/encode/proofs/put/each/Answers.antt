-- `encode::put::each` meets its contract. The loop's invariant: the rows passed are put.
use Rattle.encode.proofs.PutRows.{rows_none, rows_turn, rows_done}
use Rattle.encode.proofs.put.each.Goals as goal

pub loop-i-init : goal.loop-i-init
loop-i-init g c row h = rows_none row (λ i. i) _ _

pub loop-i-preserved : goal.loop-i-preserved
loop-i-preserved g c row h = rows_turn row (λ i. i) _ (c.loop-i.invariant row h) (h _ _ _ _ _ c.put_row-end.ensures)

pub returns : goal.returns
returns g c row h = rows_done row (λ i. i) _ _ c.loop-i.auto.i-end c.loop-i-test.false (c.loop-i.invariant row h)
