-- The first item ends within the bytes: no fact on the elements is asked.
-- Assumes nothing.
use Rattle.cbor.specs.Item.{ItemRead}
use mathlib.Core.List.{List, [], ◌∷◌, ◌++◌}
use Prim.Native.Nat.{ℕ, zero, suc, ◌+◌, ◌-◌, ◌≤◌, zero-le}
use native.Mathlib.Nat.{zero-add}
use native.Mathlib.Omega.{arith}
use lib.ListN.{length, drop, length-drop}
use Rattle.cbor.specs.Item.{step_at, left_under, run, enough, first_item}
use Rattle.cbor.specs.Token.{size_from}
use Rattle.cbor.proofs.Bounds.{step_ok}
use Rattle.cbor.proofs.Runs.{next_both}

run_within : (most f at : ℕ) (s stack : List ℕ) → size_from (run most f at s stack) ≤ at + length s
unfolding run size_from
run_within most zero at s stack = zero-le
run_within most (suc f) at s [] = omega arith
run_within most (suc f) at s (zero ∷ stack) = run_within most f at s stack
run_within most (suc f) at s (suc n ∷ stack) =
    next_both (λ (x _ : ItemRead). size_from x ≤ at + length s) at s (n ∷ stack) (n ∷ stack) (run most f) (run most f) _
    (step_at (most - length stack) s) (step_ok _ s)
    (λ _ _. zero-le) (λ len new lo hi one. omega (arith, run_within most f (at + len) (drop len s) (new ++ n ∷ stack), length-drop len s))

pub size_within : (levels : ℕ) (s : List ℕ) → size_from (first_item levels s) ≤ length s
unfolding first_item
size_within levels s = rw zero-add at (run_within (left_under levels) (enough s (1 ∷ [])) 0 s (1 ∷ []))
