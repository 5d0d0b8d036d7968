-- `encode::put::each` meets its contract. The loop's invariant: the rows passed are put.
use Rattle.std.proofs.Common.{ℕ, List}
use Rattle.encode.specs.Put.{Wrote}
use Rattle.encode.proofs.PutRows.{first_rows}
use Rattle.encode.proofs.put.each.Given as goal

abbrev pub invariant-loop-i : goal.invariant-loop-i
invariant-loop-i g l =
    (row : ℕ → List ℕ) → ((o o' : _) (end i r : ℕ) → goal.F-post g l.put_row o end i r o' → Wrote o.now o'.now end (row i) r)
    → Wrote l.initial.out l.out l.at (first_rows row (λ i. i) l.i) l.end
