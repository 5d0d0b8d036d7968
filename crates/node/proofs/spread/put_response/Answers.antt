-- `node::spread::put_response` meets its contract.
use mathlib.Core.Path.{ap, ◌∙◌}
use mathlib.Core.List.{List}
use Prim.Native.Nat.{ℕ}
use Rattle.writer.specs.Write.{answer_answer, answer_out}
use Rattle.node.specs.Call.{response}
use Rattle.node.proofs.Sends.{held_sized, part_held, response_given}
use Rattle.node.proofs.Outcomes.{sent_length}
use borrow.Author.Rules.{rules}
use Rattle.base.proofs.Clauses.{value_out}
use Rattle.node.proofs.spread.put_response.Goals as goal

pub returns : goal.returns
unfolding response
returns c =
    let args = c.args in
    value_out (sent_length _ _ (response args.node args.message.now args.s) args.out.now
    (c.answer-sent.ensures.value
    ∙ ap (λ (z : List ℕ). answer_answer args.s.session z args.node.ttl args.node.address args.node.port args.out.now)
    (part_held args.message.now args.s.initiator))
    (c.answer-sent.ensures.out_after
    ∙ ap (λ (z : List ℕ). answer_out args.s.session z args.node.ttl args.node.address args.node.port args.out.now)
    (part_held args.message.now args.s.initiator))
    (response_given args.node args.message.now args.out.now args.s (search rules)
    (held_sized c.requires.within)
    c.requires.fits)
    c.unwrap_or.ensures)
