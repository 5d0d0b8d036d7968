-- The pairs of a message read at another place, in bytes that go on alike.
-- Assumes nothing.
use mathlib.Core.Path.{◌≡◌, refl}
use mathlib.Core.List.{List}
use Prim.Native.Nat.{ℕ, zero, suc, ◌+◌}
use native.Mathlib.Nat.{add-zero, add_assoc}
use native.Mathlib.Omega.{arith}
use lib.ListN.{drop}
use Rattle.options.specs.Text.{Noted}
use Rattle.std.specs.Prelude.{None}
use Rattle.std.specs.Prelude.{Ok, Err}
use Rattle.options.specs.Part.{Read}
use Rattle.options.specs.declared.pair.Pair.{Pair}
use Rattle.message.proofs.Fits.{ran_same}
use Rattle.base.specs.Pick.{pick}
use Rattle.options.specs.Text.{first_of}
use Rattle.options.specs.Pair.{pair_in, pair_at}
use Rattle.options.proofs.Texts.{none_first}
use Rattle.options.proofs.Moved.{PairMoves, pair_moves}
use Rattle.message.specs.Sequence.{PairsRead, pairs_ended, pair_then, pairs_from}

-- pairs without fault have none before them
pub none_before : (s : List ℕ) (n at : ℕ) (bad long : Noted) (end : ℕ) → pairs_from s n at bad long ≡ pairs_ended end None None → (bad ≡ None) × (long ≡ None)
unfolding pairs_from pair_then
none_before s zero at bad long end q = let (_, none, short) = ran_same q in (none, short)
none_before s (suc n) at bad long end q = by (pair_at s at) (none_before s n) q
  where
    by : (x : Read Pair) → ((at : ℕ) (bad long : Noted) (end : ℕ) → pairs_from s n at bad long ≡ pairs_ended end None None → (bad ≡ None) × (long ≡ None))
        → pair_then (pairs_from s n) at bad long x ≡ pairs_ended end None None → (bad ≡ None) × (long ≡ None)
    by (Err e) before q = absurd (cc)
    by (Ok r) before q =
        let (z, z') = before (at + r.size) (first_of bad r.bad) (first_of long r.long) end q in
        ((none_first bad r.bad z).0, (none_first long r.long z').0)

-- the pairs read from `at'` on have no fault, and are as long as from `at` to `end`
abbrev pub PairsMove : ℕ → ℕ → ℕ → PairsRead → Type 0
PairsMove at end at' x = (size : ℕ) × (end ≡ at + size) × (x ≡ pairs_ended (at' + size) None None)

-- The pairs without fault that are read of s from `at` on are read of l from `at'` on, where both go on alike, and have
-- the same size.
pub pairs_move : (s l : List ℕ) (n at at' end : ℕ) → ((x : ℕ) → drop (at' + x) l ≡ drop (at + x) s) → pairs_from s n at None None ≡ pairs_ended end None None
    → PairsMove at end at' (pairs_from l n at' None None)
unfolding pairs_from pair_then
pairs_move s l zero at at' end same q = (0, let z = (ran_same q).0 in omega arith, rw (add-zero at') refl)
pairs_move s l (suc n) at at' end same q =
    let first : drop at' l ≡ drop at s = rw (add-zero at', add-zero at) at (same 0) in
    rw first
    (by (pair_in at (drop at s)) (pair_in at' (drop at s)) (pair_moves at at' (drop at s))
    (λ size. pairs_move s l n (at + size) (at' + size) end (λ x. rw (add_assoc at' size x, add_assoc at size x) (same (size + x)))) q)
  where
    by : (x y : Read Pair) → PairMoves x y
        → ((size : ℕ) → pairs_from s n (at + size) None None ≡ pairs_ended end None None
        → PairsMove (at + size) end (at' + size) (pairs_from l n (at' + size) None None))
        → pair_then (pairs_from s n) at None None x ≡ pairs_ended end None None → PairsMove at end at' (pair_then (pairs_from l n) at' None None y)
    by (Err e) y moves rest q = absurd (let z : ◌≡◌ {A = ℕ} 0 1 = cc in omega arith)
    by (Ok r) y moves rest q =
        let (z, z') = none_before s n (at + r.size) r.bad r.long end q in
        let (o', t', e) = moves z z' in
        let (size', ends, runs) = rest r.size (rw (z, z') at q) in
        (r.size + size', omega arith, rw (e, ← add_assoc at' r.size size') runs)
