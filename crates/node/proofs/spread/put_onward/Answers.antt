-- `node::spread::put_onward` meets its contract.
use Rattle.writer.specs.Lower.{onward}
use Rattle.node.proofs.Sends.{onward_given}
use Rattle.node.proofs.Outcomes.{sent_length}
use Rattle.base.proofs.Clauses.{value_out}
use Rattle.node.proofs.spread.put_onward.Goals as goal

pub returns : goal.returns
returns c =
    let args = c.args in
    let pre = c.requires in
    let lower = c.lower-sent in
    value_out (sent_length _ _ (onward args.message.now args.s.objective) args.out.now lower.ensures.value lower.ensures.out_after
    (onward_given args.message.now args.out.now args.s pre.read pre.counts pre.fits) c.unwrap_or.ensures)
