-- Parts of a slice as lists, and lists stored into one.
-- Assumes nothing.
use mathlib.Core.Path.{◌≡◌, sym, ap, ◌∙◌}
use mathlib.Core.List.{List, [], ◌∷◌, ◌++◌, append_assoc}
use Prim.Native.Nat.{ℕ, suc, ◌+◌, ◌-◌, ◌≤◌}
use native.Mathlib.Nat.{add-sub_cancel_left, add-zero, add-suc, suc-add, le_of_eq}
use native.Mathlib.Decide.{dec_lt}
use native.Mathlib.Omega.{arith}
use lib.Dec.{lit<}
use lib.ListN.{length, take, drop, set, length-drop, length-take, drop_of_length-le, get_or-eq_default}
use lib.Seq.{sets, sets-eq, drop-drop, take_all, get_or-take, get_or-drop}
use Rattle.base.specs.BigEndian.{Bytes}

-- `&s[k..]`
pub rest_is : (k : ℕ) (s : List ℕ) → take (length s - k) (drop k s) ≡ drop k s
rest_is k s = take_all (length s - k) (drop k s) (le_of_eq (length-drop k s))

-- nothing is left past the end
pub drop_past : (s : List ℕ) (at : ℕ) → length s ≤ at → drop at s ≡ []
drop_past s at h = drop_of_length-le s h

-- parts of bytes are bytes
pub bytes_drop : (n : ℕ) (s : List ℕ) → Bytes s → Bytes (drop n s)
bytes_drop n s b i = rw (get_or-drop n s i 0) (b (n + i))

pub bytes_take : (n : ℕ) (s : List ℕ) → Bytes s → Bytes (take n s)
bytes_take n s b i =
    elim (dec_lt i
    n) [ yes h ↦ rw (get_or-take n s i 0 h) (b i) | no h ↦ rw (get_or-eq_default (take n s) 0 {n = i} (simp length-take (omega arith))) (lit< tt) ]

-- two lists stored one after the other
pub sets_append : (l : List ℕ) (at : ℕ) (a b : List ℕ) → sets (sets l at a) (at + length a) b ≡ sets l at (a ++ b)
sets_append l at [] b = ap (λ (k : ℕ). sets l k b) (add-zero at)
sets_append l at (x ∷ a) b =
    ap (λ (k : ℕ). sets (sets (set l at x) (suc at) a) k b) (add-suc at (length a) ∙ sym (suc-add at (length a))) ∙ sets_append (set l at x) (suc at) a b

-- a list in the place of a part that was lent
pub lent_sets : (l bs : List ℕ) (at : ℕ) {to : List ℕ} → at + length bs ≤ length l → to ≡ bs
    → take at l ++ (to ++ drop (at + length bs - at) (drop at l)) ≡ sets l at bs
lent_sets l bs at h e =
    rw (e, add-sub_cancel_left at (length bs), drop-drop (length bs) at l, ← append_assoc (take at l) bs (drop (at + length bs) l))
    (sym (sets-eq bs l at h))
