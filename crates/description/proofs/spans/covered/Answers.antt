-- `description::spans::covered` meets its contract.
use Rattle.description.proofs.Held.{held_none, length_held, length_held_in}
use mathlib.Core.Path.{sym, ap}
use lib.ListN.{length}
use Rattle.description.proofs.spans.covered.Goals as goal

pub returns-then-source-from : goal.returns-then-source-from
returns-then-source-from c = sym (ap length (held_none c.args.source.now c.args.s c.if-source-from.true))

pub returns-then-room-s : goal.returns-then-room-s
returns-then-room-s c = length_held c.args.source.now c.args.s c.if-room-s.true

pub returns : goal.returns
returns c = length_held_in c.args.source.now c.args.s c.if-room-s.false
