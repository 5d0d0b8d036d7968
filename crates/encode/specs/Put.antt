-- Bytes put into a buffer. No step asks for room: a step that would end after the buffer answers more than the buffer's
-- length.
use Rattle.std.specs.Prelude.{ℕ, ◌+◌, ◌≤◌, ◌<◌, ◌≡◌, List, length, replicate, leb}
use Rattle.std.proofs.lemmas.List.Edits.{sets}
use Rattle.base.specs.Pick.{pick}
use Rattle.cbor.specs.Put.{written, end_within}

-- ---- `message`: bs at the front of the buffer, which is cleared where they don't fit
-- where they end
unfoldable pub front_end : List ℕ → List ℕ → ℕ
front_end l bs = end_within (length l) (length bs)

-- the buffer then
unfoldable pub front_put : List ℕ → List ℕ → List ℕ
front_put l bs = pick (leb (length bs) (length l)) (written bs l) (replicate (length l) 0)

-- ---- a step among several, of which one that doesn't fit promises nothing of the bytes: from l, bs put at `at` gave
-- l', and ends at r
pub record Wrote (l l' : List ℕ) (at : ℕ) (bs : List ℕ) (r : ℕ) : Type 0 where
  pub same : length l' ≡ length l
  pub fits : at + length bs ≤ length l → (r ≡ at + length bs) × (l' ≡ sets l at bs)
  pub over : length l < at + length bs → length l < r
