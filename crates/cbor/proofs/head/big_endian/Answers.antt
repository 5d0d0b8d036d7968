-- `cbor::head::big_endian` meets its contract.
use mathlib.Core.Path.{◌≡◌, refl, sym, ◌∙◌}
use Prim.Native.Nat.{◌≤◌}
use native.Mathlib.Numerals.{add-one}
use native.Mathlib.Nat.{le_refl}
use native.Mathlib.Omega.{arith}
use lib.Dec.{lit<}
use lib.Seq.{length-take-le, get_or-take}
use Rattle.base.proofs.Digits.{below_more, below_word, front_read}
use Rattle.base.specs.BigEndian.{big_endian}
use Rattle.cbor.proofs.head.big_endian.Goals as goal

pub returns-then-n-eq1 : goal.returns-then-n-eq1
unfolding big_endian
returns-then-n-eq1 c = rw c.if-n-eq1.true (omega (arith, c.from.ensures))

pub returns-then-n-eq2 : goal.returns-then-n-eq2
unfolding big_endian
returns-then-n-eq2 c = rw c.if-n-eq2.true (omega (arith, c.two.ensures))

pub loop-b-init : goal.loop-b-init
unfolding big_endian
loop-b-init c = (refl, omega arith)

pub overflow_mul-value : goal.overflow_mul-value
overflow_mul-value c =
    let long = length-take-le c.args.n c.args.s.now c.requires.1 in
    omega (arith, below_word _ _ (omega (arith, long, c.loop-b-test.true)) (below_more c.loop-b.b-index c.loop-b.value 0 c.loop-b.invariant.1 (lit< tt)))

pub loop-b-preserved : goal.loop-b-preserved
unfolding big_endian
loop-b-preserved c =
    let e = c.loop-b.invariant.0 in
    let long = length-take-le c.args.n c.args.s.now c.requires.1 in
    let here = get_or-take c.args.n c.args.s.now c.loop-b.b-index 0 (omega (arith, long, c.loop-b-test.true)) in
    let byte = c.type_inv.s c.loop-b.b-index in (
      rw (add-one, c.from-in-loop-b.ensures) (cc),
      below_more c.loop-b.b-index c.loop-b.value _ c.loop-b.invariant.1
          (omega (arith, byte.fits, here, c.from-in-loop-b.ensures)),
    )

pub returns : goal.returns
returns c =
    let long = length-take-le c.args.n c.args.s.now c.requires.1 in
    let e : c.loop-b.b-index ≡ c.args.n = omega (arith, long, c.loop-b-test.false) in
    rw e at c.loop-b.invariant.0 ∙ front_read c.args.n c.args.n c.args.s.now (le_refl c.args.n)
