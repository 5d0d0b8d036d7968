-- `message::sequence::read_pairs` meets its contract.
use Prim.Native.Nat.{◌+◌, ◌-◌}
use native.Mathlib.Omega.{arith}
use Rattle.std.proofs.lemmas.Result.{err_from_is_err_and}
use Rattle.options.proofs.Fits.{pair_within}
use Rattle.message.proofs.Fits.{paired_end, paired_bad, paired_next}
use Rattle.message.proofs.sequence.read_pairs.Goals as goal

pub returns-in_err-p : goal.returns-in_err-p
returns-in_err-p c =
    let loop = c.loop in
    let p = err_from_is_err_and c.from_residual.result c.from_residual.ensures.1 in
    rw (p.1, p.2)
    (paired_bad _ _ _ _ _ (c.args.n - loop.counter) (c.args.n - (loop.counter + 1)) loop.at loop.bad loop.long _ _ (omega arith) c.read_at.ensures
    c.in_err-p.was loop.invariant)

pub overflow_add-at : goal.overflow_add-at
overflow_add-at c =
    omega (arith, c.well_formed, pair_within c.args.s.now _ c.loop.at _ _ c.read_at.ensures c.in_ok-p.was)

pub loop-preserved : goal.loop-preserved
loop-preserved c =
    let loop = c.loop in
    paired_next _ _ _ _ _ (c.args.n - loop.counter) (c.args.n - (loop.counter + 1)) loop.at loop.bad loop.long _ _ _ _ (omega arith)
    c.read_at.ensures c.in_ok-p.was c.or-bad.ensures c.or-long.ensures loop.invariant

pub returns : goal.returns
returns c =
    paired_end _ _ _ _ _ (c.args.n - c.loop.counter) c.loop.at c.loop.bad c.loop.long (omega arith) c.loop.invariant
