-- `options::locators::read_more` meets its contract: what is left of the loop is the whole.
use Prim.Native.Nat.{◌+◌, ◌-◌}
use native.Mathlib.Omega.{arith}
use Rattle.options.proofs.Fits.{locator_fits}
use Rattle.options.proofs.Series.{turns_end, turns_stop, turns_bad, turns_next}
use Rattle.options.proofs.locators.read_more.Goals as goal

pub returns-then-text_led : goal.returns-then-text_led
returns-then-text_led c =
    let loop = c.loop-i in
    turns_stop _ _ _ _ _ _ (c.args.n - loop.i) (c.args.n - (loop.i + 1)) loop.at loop.bad _ (omega arith) c.text_led.ensures c.if-text_led.true
    loop.invariant.1

pub returns-in-Err : goal.returns-in-Err
returns-in-Err c =
    let loop = c.loop-i in
    turns_bad _ _ _ _ _ _ (c.args.n - loop.i) (c.args.n - (loop.i + 1)) loop.at loop.bad _ _ _ (omega arith) c.text_led.ensures c.if-text_led.false
    c.read_in.ensures c.in-Err.is loop.invariant.1

pub overflow_add-at : goal.overflow_add-at
overflow_add-at c =
    let loop = c.loop-i in
    omega (arith, c.well_formed, loop.invariant.0, locator_fits c.args.s.now _ loop.at _ _ c.read_in.ensures c.in-Ok.is)

pub loop-i-preserved : goal.loop-i-preserved
loop-i-preserved c =
    let loop = c.loop-i in
    let read = c.read_in.ensures in
    let found = c.in-Ok.is in (
      omega (arith, loop.invariant.0, locator_fits c.args.s.now _ loop.at _ _ read found),
      turns_next _ c.args.s.now _ _ _ _ (c.args.n - loop.i) (c.args.n - (loop.i + 1)) loop.at loop.bad _ _ _ (omega arith) read found
          c.or-bad.ensures loop.invariant.1,
    )

pub returns : goal.returns
returns c = turns_end _ _ _ _ _ _ (c.args.n - c.loop-i.i) c.loop-i.at c.loop-i.bad (omega arith) c.loop-i.invariant.1
