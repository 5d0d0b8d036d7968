-- The bytes of a slice and of a span, put.
-- Assumes nothing.
use Prim.Native.Nat.{ℕ, ◌+◌, ◌-◌, ◌<◌}
use mathlib.Core.List.{List}
use native.Mathlib.Nat.{add-sub_cancel_left}
use lib.ListN.{length, take, drop}
use Rattle.base.proofs.Parts.{rest_is}
use Rattle.options.specs.Text.{held}
use Rattle.options.specs.declared.Span.{Span}
use Rattle.encode.specs.Put.{Wrote}
use Rattle.description.proofs.Held.{held_none, held_rest}
use Rattle.encode.proofs.Puts.{still}

-- a span outside the source, one that reaches past its end, and one inside
pub part_none : (l : List ℕ) (at : ℕ) (source : List ℕ) (s : Span) → length source < s.at → Wrote l l at (held source s) at
part_none l at source s h = rw (held_none source s h) (still l at)

pub part_rest : {l l' : List ℕ} {at r : ℕ} (source : List ℕ) (s : Span) → length source - s.at < s.len
    → Wrote l l' at (take (length source - s.at) (drop s.at source)) r → Wrote l l' at (held source s) r
part_rest source s h w = rw (held_rest source s h) (rw (rest_is s.at source) at w)

pub part_in : {l l' : List ℕ} {at r : ℕ} (source : List ℕ) (s : Span)
    → Wrote l l' at (take (s.at + s.len - s.at) (drop s.at source)) r → Wrote l l' at (held source s) r
part_in source s w = rw (add-sub_cancel_left s.at s.len) at w
