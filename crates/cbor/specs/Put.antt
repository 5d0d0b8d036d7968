-- The shortest head (RFC 8949, section 4.1), and bytes stored from a position of a buffer on.
use Rattle.std.specs.Prelude.{ℕ, ◌+◌, List, ◌++◌, length, drop, leb, ltb}
use Rattle.std.proofs.lemmas.List.Edits.{sets}
use Rattle.base.specs.Pick.{pick}
use Rattle.cbor.specs.Tree.{head_bytes, shortest}

-- the shortest head
unfoldable pub head : ℕ → ℕ → List ℕ
head major arg = head_bytes major (shortest arg) arg

-- bytes at the front of an output, the rest as it was
abbrev pub written : List ℕ → List ℕ → List ℕ
written bs out = bs ++ drop (length bs) out

-- where a step that would end at a place of so many bytes ends: there, or one past them
abbrev pub end_within : ℕ → ℕ → ℕ
end_within room end = pick (leb end room) end (room + 1)

-- bs stored from `at` on, and nothing where they don't fit: where they end
unfoldable pub all_end : List ℕ → ℕ → List ℕ → ℕ
all_end l at bs = end_within (length l) (at + length bs)

-- the buffer then
unfoldable pub all_put : List ℕ → ℕ → List ℕ → List ℕ
all_put l at bs = pick (leb (at + length bs) (length l)) (sets l at bs) l

-- the shortest head of major types 0 to 6 stored likewise, and none of another: where it ends
unfoldable pub head_end : List ℕ → ℕ → ℕ → ℕ → ℕ
head_end l at major arg = pick (ltb 6 major) (length l + 1) (all_end l at (head major arg))

-- the buffer then
unfoldable pub head_put : List ℕ → ℕ → ℕ → ℕ → List ℕ
head_put l at major arg = pick (ltb 6 major) l (all_put l at (head major arg))
