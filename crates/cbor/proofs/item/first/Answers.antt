-- `cbor::item::first` meets its contract. `Inv` of `Turn` is the loop's invariant. The measure counts two for each byte
-- left and one for each open level around the innermost: a turn passes a byte, and opens one level at most, or closes
-- one.
use Prim.Native.Nat.{◌-◌}
use native.Mathlib.Omega.{arith}
use Rattle.cbor.proofs.Turn.{turn_passed, turn_opened, begun, done, closed, fits, stopped, passed, opened}
use Rattle.cbor.proofs.item.first.Goals as goal

pub loop-lacking-init : goal.loop-lacking-init
loop-lacking-init c =
    begun c.args.levels c.args.s.now _ c.left_under-most.ensures

pub returns-then-depth-eq0 : goal.returns-then-depth-eq0
returns-then-depth-eq0 c =
    done _ c.args.s.now _ c.loop-lacking.outer c.loop-lacking.depth c.loop-lacking.lacking c.loop-lacking.at c.loop-lacking.invariant
    c.if-lacking-eq0.true c.if-depth-eq0.true

pub loop-lacking-preserved-then-lacking-eq0 : goal.loop-lacking-preserved-then-lacking-eq0
loop-lacking-preserved-then-lacking-eq0 c =
    closed _ c.args.s.now _ c.loop-lacking.outer c.loop-lacking.depth c.loop-lacking.lacking c.loop-lacking.at c.loop-lacking.invariant
    (c.loop-lacking.depth - 1)
    c.if-lacking-eq0.true (omega arith)

pub overflow_add-place : goal.overflow_add-place
overflow_add-place c =
    let inv = c.loop-lacking.invariant in
    let ok = fits c.args.s.now (c.left_under-most.result - c.loop-lacking.depth) c.loop-lacking.at _ c.in-Err.ensures in
    omega (arith, inv.within, inv.most_is, ok)

pub returns-in-Err : goal.returns-in-Err
returns-in-Err c =
    stopped _ _ _ c.loop-lacking.outer c.loop-lacking.depth c.loop-lacking.lacking c.loop-lacking.at c.loop-lacking.invariant c.if-lacking-eq0.false _ _
    c.in-Err.ensures

pub overflow_add-at : goal.overflow_add-at
overflow_add-at c =
    let inv = c.loop-lacking.invariant in
    let ok = fits c.args.s.now (c.left_under-most.result - c.loop-lacking.depth) c.loop-lacking.at _ (turn_passed c.in-Passed.is c.in-Ok.ensures) in
    omega (arith, inv.within, inv.most_is, ok)

pub loop-lacking-smaller-in-Passed : goal.loop-lacking-smaller-in-Passed
loop-lacking-smaller-in-Passed c =
    let inv = c.loop-lacking.invariant in
    let ok = fits c.args.s.now (c.left_under-most.result - c.loop-lacking.depth) c.loop-lacking.at _ (turn_passed c.in-Passed.is c.in-Ok.ensures) in
    omega (arith, inv.within, inv.most_is, ok)

pub loop-lacking-preserved-in-Passed : goal.loop-lacking-preserved-in-Passed
loop-lacking-preserved-in-Passed c =
    passed _ _ _ c.loop-lacking.outer c.loop-lacking.depth c.loop-lacking.lacking c.loop-lacking.at c.loop-lacking.invariant c.if-lacking-eq0.false _
    (turn_passed c.in-Passed.is c.in-Ok.ensures)

pub overflow_add-at-in-Opened : goal.overflow_add-at-in-Opened
overflow_add-at-in-Opened c =
    let inv = c.loop-lacking.invariant in
    let (n, pairs, gives, counts) = turn_opened c.in-Opened.is c.in-Ok.ensures in
    let ok = fits c.args.s.now (c.left_under-most.result - c.loop-lacking.depth) c.loop-lacking.at _ gives in
    omega (arith, inv.within, inv.most_is, ok)

pub bounds-outer-depth-in-Opened : goal.bounds-outer-depth-in-Opened
bounds-outer-depth-in-Opened c =
    let inv = c.loop-lacking.invariant in
    let (n, pairs, gives, counts) = turn_opened c.in-Opened.is c.in-Ok.ensures in
    let ok = fits c.args.s.now (c.left_under-most.result - c.loop-lacking.depth) c.loop-lacking.at _ gives in
    omega (arith, inv.within, inv.most_is, ok)

pub loop-lacking-smaller : goal.loop-lacking-smaller
loop-lacking-smaller c =
    let inv = c.loop-lacking.invariant in
    let (n, pairs, gives, counts) = turn_opened c.in-Opened.is c.in-Ok.ensures in
    let ok = fits c.args.s.now (c.left_under-most.result - c.loop-lacking.depth) c.loop-lacking.at _ gives in
    omega (arith, inv.within, inv.most_is, ok)

pub loop-lacking-preserved : goal.loop-lacking-preserved
loop-lacking-preserved c =
    let (n, pairs, gives, counts) = turn_opened c.in-Opened.is c.in-Ok.ensures in
    opened _ _ _ c.loop-lacking.outer c.loop-lacking.depth c.loop-lacking.lacking c.loop-lacking.at c.loop-lacking.invariant c.if-lacking-eq0.false _ n pairs _
    gives (omega arith) counts
