-- `cbor::item::step_at` meets its contract.
use mathlib.Core.Path.{sym, subst}
use lib.ListN.{length}
use Rattle.cbor.proofs.Bounds.{HeadOk, head_ok}
use Rattle.cbor.proofs.item.step_at.Goals as goal

pub step_of-requires : goal.step_of-requires
step_of-requires c =
    let s = c.args.s.now in
    (subst (HeadOk (length s)) (sym c.in_ok-head.ensures) (head_ok s)).1
