-- The bytes that a span covers.
-- Assumes nothing.
use Prim.Native.Nat.{ℕ, ◌-◌, ◌≤◌, ◌<◌}
use mathlib.Core.Path.{◌≡◌, sym, ap, ◌∙◌}
use mathlib.Core.List.{List, []}
use native.Mathlib.Nat.{le_of_lt}
use native.Mathlib.Omega.{arith}
use lib.ListN.{length, take, drop, length-take, length-drop, drop_of_length-le}
use lib.Seq.{take_all, take-nil}
use Rattle.options.specs.Text.{held}
use Rattle.options.specs.declared.Span.{Span}

module _ (source : List ℕ) (s : Span) where
  pub held_none : length source < s.at → held source s ≡ []
  held_none h = ap (take s.len) (drop_of_length-le source (le_of_lt h)) ∙ take-nil s.len

  pub held_rest : length source - s.at < s.len → held source s ≡ drop s.at source
  held_rest h = take_all s.len (drop s.at source) (omega (arith, length-drop s.at source))

  pub length_held : length source - s.at < s.len → length source - s.at ≡ length (held source s)
  length_held h = sym (ap length (held_rest h) ∙ length-drop s.at source)

  pub length_held_in : s.len ≤ length source - s.at → s.len ≡ length (held source s)
  length_held_in h = simp (length-take, length-drop) (omega arith)
