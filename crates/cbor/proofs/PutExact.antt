-- The shortest head written (RFC 8949, section 4.1): it is read back, no head of that argument is shorter, and where it
-- stands in the buffer.
-- Assumes nothing.
use Rattle.cbor.specs.Head.{a_head}
use mathlib.Core.Path.{◌≡◌, sym, ◌∙◌}
use mathlib.Core.Logic.{◌⊎◌}
use mathlib.Core.List.{List, ◌++◌}
use Prim.Native.Nat.{ℕ, ◌+◌, ◌^◌, ◌≤◌, ◌<◌}
use native.Mathlib.Omega.{arith}
use lib.ListN.{length, take, drop}
use lib.Seq.{sets-eq}
use Rattle.cbor.specs.Head.{head_at}
use Rattle.cbor.specs.Tree.{head_bytes, shortest, Sized}
use Rattle.cbor.specs.Put.{head, head_end, head_put}
use Rattle.cbor.proofs.HeadExact.{length_head, head_read, shortest_right, no_shorter}
use Rattle.cbor.proofs.Stores.{length_shortest, not_stored, stored}

-- for readers

-- what is written is read
pub head_reads_back : (major arg : ℕ) (rest : List ℕ) → major < 7 → arg < 2 ^ 64
    → head_at (head major arg ++ rest) ≡ a_head major arg (length (head major arg))
unfolding head
head_reads_back major arg rest m h = head_read major (shortest arg) arg rest (shortest_right major arg m h)

-- no head with that argument is shorter
pub shortest_head : (major width arg : ℕ) → Sized width arg → length (head major arg) ≤ length (head_bytes major width arg)
shortest_head major width arg h = simp (length_shortest, length_head) (omega (arith, no_shorter width arg h))

-- where it fits, it stands from `at` on, and the rest is as it was
pub head_stands : (l : List ℕ) (at major arg : ℕ) → major < 7 → at + length (head major arg) ≤ length l
    → (head_end l at major arg ≡ at + length (head major arg))
    × (head_put l at major arg ≡ take at l ++ head major arg ++ drop (at + length (head major arg)) l)
head_stands l at major arg m h =
    let r = stored l at major arg (omega arith) h in
    (sym r.0, sym r.1 ∙ sets-eq (head major arg) l at h)

-- elsewhere all is as it was
pub head_left_out : (l : List ℕ) (at major arg : ℕ) → (6 < major) ⊎ (length l < at + length (head major arg))
    → (head_end l at major arg ≡ length l + 1) × (head_put l at major arg ≡ l)
head_left_out l at major arg h = let r = not_stored l at major arg h in (sym r.0, sym r.1)
