-- `forms::rows::fill_series` meets its contract. The loop's invariant: what is left of the rows is the whole.
use mathlib.Core.Path.{◌≡◌}
use Rattle.std.proofs.Common.{ℕ, List}
use Rattle.forms.proofs.Turns.{Filling}
use Rattle.forms.proofs.rows.fill_series.Given as goal

abbrev pub invariant-loop-i : goal.invariant-loop-i
invariant-loop-i g l =
    (next : ℕ → ℕ) (row : ℕ → ℕ → List ℕ → List ℕ)
    → ((at i r : ℕ) (o o' : _) → goal.F-post g l.fill_row at i o r o' → (r ≡ next at) × (o'.now ≡ row at i o.now))
    → Filling next row l.n l.initial.at l.initial.list l.i l.at l.list
