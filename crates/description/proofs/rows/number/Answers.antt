-- `description::rows::number` meets its contract.
use mathlib.Core.Path.{sym}
use lib.ListN.{get_or-eq_default}
use Rattle.description.proofs.rows.number.Goals as goal

pub returns : goal.returns
returns c = sym (get_or-eq_default c.args.list.now 0 c.if-k-list.false)
