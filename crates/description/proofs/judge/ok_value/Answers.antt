-- `description::judge::ok_value` meets its contract.
use Rattle.description.proofs.Judging.{value_none, value_rest, value_in}
use Rattle.description.proofs.judge.ok_value.Goals as goal

pub returns-then-source-from : goal.returns-then-source-from
returns-then-source-from c = value_none c.args.source.now c.args.s c.if-source-from.true

pub returns-then-room-len : goal.returns-then-room-len
returns-then-room-len c = value_rest c.args.source.now c.args.s _
    c.if-room-len.true c.ok_bytes.ensures

pub returns : goal.returns
returns c =
    value_in c.args.source.now c.args.s _ c.ok_bytes-2.ensures
