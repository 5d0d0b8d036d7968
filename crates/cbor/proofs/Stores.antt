-- Bytes stored, and a head byte by byte: the turns of `spell`, and the ends of `head`.
-- Assumes nothing.
use mathlib.Core.Path.{◌≡◌, refl, sym, ◌∙◌}
use mathlib.Core.Logic.{◌⊎◌, inl, inr}
use mathlib.Core.List.{List, [], ◌∷◌, ◌++◌}
use Prim.Native.Nat.{ℕ, suc, ◌+◌, ◌*◌, ◌-◌, ◌/◌, ◌%◌, ◌^◌, ◌<◌, ◌≤◌}
use native.Mathlib.Nat.{add-zero}
use native.Mathlib.Numerals.{add-one}
use native.Mathlib.Omega.{arith}
use lib.ListN.{length, take, drop, get_or, set}
use lib.Seq.{take_all, take-suc, take-suc-set, sets, set_comm}
use lib.Dec.{ltb, lit<}
use borrow.Author.Tests.{lt-ltb, le-ltb, le-leb, lt-leb}
use Rattle.base.specs.Pick.{pick}
use Rattle.base.specs.BigEndian.{bytes_of}
use Rattle.base.proofs.Picks.{both}
use Rattle.base.proofs.Parts.{lent_sets}
use Rattle.base.proofs.Digits.{length_bytes}
use Rattle.cbor.specs.Tree.{head_bytes, info_of, Sized, shortest}
use Rattle.cbor.specs.Put.{head, all_end, all_put, head_end, head_put}
use Rattle.cbor.proofs.HeadExact.{length_head, shortest_right}

-- the last element stored first
sets_last : (l : List ℕ) (at : ℕ) (vs : List ℕ) (v : ℕ) → sets l at (vs ++ (v ∷ [])) ≡ sets (set l (at + length vs) v) at vs
sets_last l at [] v = rw (add-zero at)
sets_last l at (a ∷ vs) v =
    let e : suc at + length vs ≡ at + suc (length vs) = omega arith in
    sets_last (set l at a) (suc at) vs v ∙ rw (e, set_comm l at (at + suc (length vs)) a v (λ q. omega arith))

bytes_last : (l : List ℕ) (at n v : ℕ) → sets l at (bytes_of (suc n) v) ≡ sets (set l (at + n) (v % 256)) at (bytes_of n (v / 256))
unfolding bytes_of
bytes_last l at n v = sets_last l at (bytes_of n (v / 256)) (v % 256) ∙ rw (length_bytes n (v / 256))

-- a turn of the loop: the lowest byte stored, the others left to be
pub spell_turn : (l : List ℕ) (at left rest : ℕ) → 0 < left
    → sets (set l (at + (left - 1)) (rest % 256)) at (bytes_of (left - 1) (rest / 256)) ≡ sets l at (bytes_of left rest)
spell_turn l at left rest h =
    let e : suc (left - 1) ≡ left = omega arith in
    sym (bytes_last l at (left - 1) rest) ∙ rw e

-- and its end: no byte is left to be stored
pub spell_end : (l : List ℕ) (at left rest : ℕ) → left ≤ 0 → l ≡ sets l at (bytes_of left rest)
unfolding bytes_of
spell_end l at left rest h = let e : left ≡ 0 = omega arith in rw e

-- a copy, at its place i
pub copy_turn : (to s : List ℕ) (i : ℕ) → i < length to → i < length s → take i to ≡ take i s → take (i + 1) (set to i (get_or s i 0)) ≡ take (i + 1) s
copy_turn to s i h k e = rw (add-one i, take-suc-set to i (get_or s i 0) h, take-suc s i 0 k, e)

pub copy_done : (to s : List ℕ) (i : ℕ) → length s ≤ i → length to ≡ length s → take i to ≡ take i s → to ≡ s
copy_done to s i h g e = sym (take_all i to (omega arith)) ∙ e ∙ take_all i s h

-- the first byte holds an argument below 24
pub in_first_lt : (arg : ℕ) → Sized 0 arg → arg < 24
in_first_lt arg (Sized.in_first h) = h

-- the shortest head has room for its argument
pub sized_len : (arg len : ℕ) → len ≡ 1 + shortest arg → arg < 2 ^ 64 → Sized (len - 1) arg
sized_len arg len e h = let w : len - 1 ≡ shortest arg = omega arith in rw w (shortest_right 0 arg (lit< tt) h).sized

-- the first byte stored, and then the argument's
put_head : (l : List ℕ) (at major arg : ℕ)
    → sets (set l at (major * 32 + info_of (shortest arg) arg)) (at + 1) (bytes_of (shortest arg) arg) ≡ sets l at (head major arg)
unfolding head head_bytes
put_head l at major arg = rw (add-one at)

pub length_shortest : (major arg : ℕ) → length (head major arg) ≡ 1 + shortest arg
unfolding head
length_shortest major arg = length_head major (shortest arg) arg

-- ---- bytes that don't fit, and bytes that are stored
module _ (l : List ℕ) (at : ℕ) (bs : List ℕ) where
  pub all_over : length l < at + length bs → (length l + 1 ≡ all_end l at bs) × (l ≡ all_put l at bs)
  unfolding all_end all_put pick
  all_over h = rw (lt-leb (at + length bs) (length l) h) (refl, refl)

  pub all_stored : at + length bs ≤ length l → (at + length bs ≡ all_end l at bs) × (sets l at bs ≡ all_put l at bs)
  unfolding all_end all_put pick
  all_stored h = rw (le-leb (at + length bs) (length l) h) (refl, refl)

-- bytes that fit, in the place of a part that was lent
pub lent_stored : (l bs : List ℕ) (at : ℕ) {to : List ℕ} → at + length bs ≤ length l → to ≡ bs
    → (at + length bs ≡ all_end l at bs) × (take at l ++ (to ++ drop (at + length bs - at) (drop at l)) ≡ all_put l at bs)
lent_stored l bs at h e = let r = all_stored l at bs h in (r.0, lent_sets l bs at h e ∙ r.1)

-- ---- the ends of `head`
module _ (l : List ℕ) (at major arg : ℕ) where
  -- where the head has no place, the buffer is left as it was
  pub not_stored : (6 < major) ⊎ (length l < at + length (head major arg)) → (length l + 1 ≡ head_end l at major arg) × (l ≡ head_put l at major arg)
  unfolding head_end head_put pick
  not_stored (inl h) = rw (lt-ltb 6 major h) (refl, refl)
  not_stored (inr h) =
      let r = all_over l at (head major arg) h in
      (both (λ (n : ℕ). length l + 1 ≡ n) (ltb 6 major) refl r.0, both (λ (t : List ℕ). l ≡ t) (ltb 6 major) refl r.1)

  pub stored : major ≤ 6 → at + length (head major arg) ≤ length l
      → (at + length (head major arg) ≡ head_end l at major arg) × (sets l at (head major arg) ≡ head_put l at major arg)
  unfolding head_end head_put pick
  stored m h = rw (le-ltb 6 major m) (all_stored l at (head major arg) h)

  -- what the code finds, with the head's length and the additional information that it computes
  pub head_over : (len : ℕ) → len ≡ 1 + shortest arg → length l < at + len → (length l + 1 ≡ head_end l at major arg) × (l ≡ head_put l at major arg)
  head_over len e h = not_stored (inr (rw (length_shortest major arg, ← e) h))

  pub head_stored : (l' : List ℕ) (len info : ℕ) → len ≡ 1 + shortest arg → info ≡ info_of (len - 1) arg → major ≤ 6 → at + len ≤ length l
      → l' ≡ sets (set l at (major * 32 + info)) (at + 1) (bytes_of (len - 1) arg) → (at + len ≡ head_end l at major arg) × (l' ≡ head_put l at major arg)
  head_stored l' len info e i m h p =
      let w : len - 1 ≡ shortest arg = omega arith in
      let n : length (head major arg) ≡ len = length_shortest major arg ∙ sym e in
      let r = stored m (rw n h) in
      (rw n at r.0, p ∙ rw (i, w) (put_head l at major arg) ∙ r.1)
