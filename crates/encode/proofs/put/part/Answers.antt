-- `encode::put::part` meets its contract.
use Rattle.encode.proofs.Puts.{all_in}
use Rattle.encode.proofs.Spans.{part_none, part_rest, part_in}
use Rattle.encode.proofs.put.part.Goals as goal

pub returns-then-source-from : goal.returns-then-source-from
returns-then-source-from c = part_none _ _ c.args.source.now c.args.s c.if-source-from.true

pub returns-then-room-len : goal.returns-then-room-len
returns-then-room-len c =
    part_rest c.args.source.now c.args.s c.if-room-len.true
    (all_in c.all.ensures.value c.all.ensures.out_after)

pub returns : goal.returns
returns c =
    part_in c.args.source.now c.args.s (all_in c.all-2.ensures.value c.all-2.ensures.out_after)
