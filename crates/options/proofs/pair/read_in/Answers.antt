-- `options::pair::read_in` meets its contract.
use native.Mathlib.Omega.{arith}
use Rattle.options.proofs.Fits.{objective_fits}
use Rattle.options.proofs.pair.read_in.Goals as goal

pub overflow_add-at : goal.overflow_add-at
overflow_add-at c =
    omega (arith, c.requires, c.array_at-a.ensures, objective_fits 3 c.args.s.now _ c.array_at-a.result.next _ _ c.read_in.ensures c.in_ok-o.was)

pub read_tag-requires : goal.read_tag-requires
read_tag-requires c = (
  c.requires,
  omega (arith, c.array_at-a.ensures, objective_fits 3 c.args.s.now _ c.array_at-a.result.next _ _ c.read_in.ensures c.in_ok-o.was),
)
