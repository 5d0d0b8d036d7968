-- The node call on what the host keeps, from the step by value.
-- Assumes nothing.
use Prim.Native.Nat.{ℕ}
use mathlib.Core.Path.{◌≡◌, refl, ap, ◌∙◌}
use mathlib.Core.List.{List}
use native.Mathlib.Omega.{arith}
use borrow.Author.Tests.{ne_eqb}
use Rattle.std.specs.Prelude.{Result, Ok, Err}
use Rattle.base.specs.Pick.{pick}
use Rattle.refusal.specs.declared.Refusal.{Refusal}
use Rattle.refusal.specs.Refusal.{number_of, answer_number}
use Rattle.refusal.proofs.Refusals.{some_number}
use Rattle.node_state.specs.declared.Record.{Record}
use Rattle.node.specs.Call.{Call}
use Rattle.host.specs.Records.{node_of, numbers_after, RecordAnswer, keeps, put_over}
use Rattle.host.specs.Call.{left_of, left_by, call_left}
use Rattle.grasp.specs.Call.{host_call}

-- a record in place
pub left_in_place : (r : Record) (bytes : List ℕ) (c : Call) (answer : List ℕ) (k : Result Record Refusal) (table out after : List ℕ) (n : ℕ) (next : Record)
    → left_by r k table out after ≡ call_left r bytes c answer → keeps n next ≡ put_over r k
    → left_of n next table out after ≡ call_left r bytes c answer
unfolding put_over
left_in_place r bytes c answer (Ok node) table out after n next e kept = ap (λ (a : RecordAnswer). left_of a.refusal a.node table out after) kept ∙ e
left_in_place r bytes c answer (Err refusal) table out after n next e kept = ap (λ (a : RecordAnswer). left_of a.refusal a.node table out after) kept ∙ e

-- a record as numbers
pub host_left : (address numbers bytes : List ℕ) (c : Call) (answer : List ℕ) (r : Record) (k : Result Record Refusal) (table out after : List ℕ) (n : ℕ)
    (numbers' : List ℕ) → r ≡ node_of address numbers → left_by r k table out after ≡ call_left r bytes c answer → n ≡ answer_number k
    → numbers' ≡ numbers_after k numbers → left_of n numbers' table out after ≡ host_call address numbers bytes c answer
unfolding host_call numbers_after pick
host_left address numbers bytes c answer r (Ok node) table out after n numbers' is e same kept = rw (← is, ← e, same, kept) refl
host_left address numbers bytes c answer r (Err refusal) table out after n numbers' is e same kept =
    let some : number_of refusal ≡ 0 → ⊥ = λ z. let k = some_number refusal in omega arith in
    rw (← is, ← e, same, kept, ne_eqb (number_of refusal) 0 some) refl
