-- The walk refuses exactly at the first fault: `refusal_sound`, a refusal is that of an unfinished item followed by a
-- head at fault, and `refusal_complete`, such bytes are refused so.
-- Assumes nothing.
use Rattle.std.specs.Prelude.{Ok}
use Rattle.refusal.specs.declared.Refusal.{Refusal}
use Rattle.refusal.specs.declared.Refusal.TheVariants as R
use Rattle.refusal.specs.Refusal.{refused}
use mathlib.Core.Path.{◌≡◌, ap, ap₂, ◌∙◌, subst}
use mathlib.Core.Logic.{inl, inr}
use mathlib.Core.List.{List, [], ◌∷◌, ◌++◌, append_assoc}
use Prim.Native.Nat.{ℕ, suc, ◌+◌, ◌-◌, ◌≤◌, ◌<◌}
use native.Mathlib.Nat.{zero-add, le_refl}
use native.Mathlib.Omega.{arith}
use lib.ListN.{length, length-append}
use borrow.Author.Tests.{le-leb, lt-leb, eq-eqb, ne_eqb}
use Rattle.base.specs.Pick.{pick}
use Rattle.base.specs.BigEndian.{Bytes}
use Rattle.cbor.specs.Head.{head_at}
use Rattle.cbor.specs.Item.{opens, step_of, step_from, step_at, items_of, left_under, next, enough, first_item}
use Rattle.cbor.specs.Tree.{Items, head_bytes, count, encode, encodes}
use Rattle.cbor.specs.Fault.{Fault, Begun, items_held, encode_begun, Unfinished, place_of, FirstFault}
use Rattle.cbor.proofs.Runs.{runs, runs_step}
use Rattle.cbor.proofs.HeadExact.{head_read}
use Rattle.cbor.proofs.HeadFault.{missing_refused, reserved_refused, indefinite_refused, cut_refused, low_simple_refused, long_refused}
use Rattle.cbor.proofs.Accepts.{enter, passes}
use Rattle.cbor.proofs.Steps.{opens_held}
use Rattle.cbor.proofs.Exact.{place_shift, Goes, parse}

-- ---- what is refused has a first fault
-- the one item that is looked for
alone : (most : ℕ) (refusal : Refusal) (place : ℕ) (s : List ℕ) (p : ℕ) → Goes most (refused refusal place) (1 ∷ []) s p → FirstFault most s refusal p
unfolding encode count
alone most refusal place s p (inl l) = absurd l.below
alone most refusal place s p (inr (k, lt, l)) = none l.items (omega (arith, l.counted)) l.is l.sum
  where
    none : (xs : Items) → count xs ≡ 0 → s ≡ encodes xs ++ l.rest → p ≡ length (encodes xs) + l.after → FirstFault most s refusal p
    none Items.done c e sum = rw (e, sum, zero-add) (subst (λ (n : ℕ). FirstFault n l.rest refusal l.after) (omega arith) l.below)
    none (Items.more x xs) c e sum = absurd (omega arith)

pub refusal_sound : (levels : ℕ) (s : List ℕ) (refusal : Refusal) (place : ℕ) → Bytes s → first_item levels s ≡ refused refusal place
    → FirstFault (left_under levels) s refusal place
unfolding first_item
refusal_sound levels s refusal place b q =
    let most = left_under levels in
    let (p, sum, l) = parse most (refused refusal place) (enough s (1 ∷ [])) 0 s (1 ∷ []) b (le_refl (enough s (1 ∷ []))) q in
    let e : place ≡ p = omega arith in
    rw e (alone most refusal place s p l)

-- ---- and a first fault is refused
deep_refused : (left room major arg len : ℕ) → 4 ≤ major → major < 7 → left ≡ 0
    → step_of left room major arg len ≡ refused R.TooDeep (place_of R.TooDeep 0 room)
unfolding step_of place_of pick
deep_refused left room major arg len lo hi none = rw (ne_eqb major 7 (omega arith), le-leb 4 major lo, eq-eqb left 0 none)

short_refused : (left room major arg len : ℕ) → 2 ≤ major → major < 4 → room - len < arg
    → step_of left room major arg len ≡ refused R.Cut (place_of R.Cut 0 room)
unfolding step_of place_of pick
short_refused left room major arg len lo hi less =
    rw (ne_eqb major 7 (omega arith), lt-leb 4 major hi, le-leb 2 major lo, lt-leb arg (room - len) less)

fault_step : (left : ℕ) (s : List ℕ) (refusal : Refusal) → Fault left s refusal → step_at left s ≡ refused refusal (place_of refusal 0 (length s))
unfolding step_at step_from
fault_step left s refusal (Fault.missing e) = rw (missing_refused e)
fault_step left s refusal (Fault.reserved first rest e lo hi) = rw (reserved_refused first rest e lo hi)
fault_step left s refusal (Fault.indefinite first rest e h) = rw (indefinite_refused first rest e h)
fault_step left s refusal (Fault.cut first rest e lo h) = rw (cut_refused first rest e lo h)
fault_step left s refusal (Fault.low_simple value rest e h) = rw (low_simple_refused value rest e h)
fault_step left s refusal (Fault.long major width arg rest e m sized h) = rw (long_refused major width arg rest e m sized h)
fault_step left s refusal (Fault.deep major width arg rest e right lo hi none) =
    rw (ap head_at e ∙ head_read major width arg rest right) (deep_refused left (length s) major arg _ lo hi none)
fault_step left s refusal (Fault.short major width arg rest e right lo hi less) =
    rw (ap head_at e ∙ head_read major width arg rest right)
    (short_refused left (length s) major arg (length (head_bytes major width arg)) lo hi
    (omega (arith, ap length e ∙ length-append (head_bytes major width arg) rest)))

-- what the head of one that lacks an item opens
opened : (left room major arg len : ℕ) → 4 ≤ major → major < 7 → 1 ≤ left → step_of left room major arg len ≡ Ok (opens major arg len)
unfolding step_of pick
opened left room major arg len lo hi some = rw (ne_eqb major 7 (omega arith), le-leb 4 major lo, ne_eqb left 0 (omega arith))

module _ (most : ℕ) (refusal : Refusal) where
  reaches : (bs : List Begun) (at k : ℕ) (rest st : List ℕ) → Unfinished (most - length st) bs → Fault (most - length st - length bs) rest refusal
      → runs most at (encode_begun bs ++ rest) (suc k ∷ st)
      ≡ refused refusal (at + place_of refusal (length (encode_begun bs)) (length (encode_begun bs ++ rest)))
  unfolding encode_begun next
  reaches [] at k rest st u f =
      let e : most - length st - 0 ≡ most - length st = omega arith in
      runs_step most at k rest st
      ∙ ap (next (runs most) at rest (k ∷ st)) (fault_step (most - length st) rest refusal (subst (λ (n : ℕ). Fault n rest refusal) e f))
  reaches (b ∷ bs) at k rest st (u, us) f =
      let head = head_bytes b.major b.width b.arg in
      let inner = encodes b.items in
      let tail = encode_begun bs ++ rest in
      let (n, pairs, is, held) = opens_held b.major b.arg (length head) in
      let m = items_held b.major b.arg - suc (count b.items) in
      let lacks : items_of n pairs ≡ count b.items + suc m = omega (arith, held, u.fewer) in
      let one : most - length st - 1 ≡ most - length (k ∷ st) = omega arith in
      let levels : most - length st - length (b ∷ bs) ≡ most - length (k ∷ st) - length bs = omega arith in
      let regroup : encode_begun (b ∷ bs) ++ rest ≡ head ++ (inner ++ tail) = simp append_assoc in
      let whole : length (head ++ (inner ++ tail)) ≡ length head + (length inner + length tail) = simp length-append in
      rw regroup
      (enter most at k head (inner ++ tail) st b.major b.arg _ (head_read b.major b.width b.arg (inner ++ tail) u.right) n pairs
      (opened (most - length st) _ b.major b.arg _ u.low u.high (omega (arith, u.shallow)) ∙ ap Ok is)
      ∙ ap (λ (n : ℕ). runs most (at + length head) (inner ++ tail) (n ∷ k ∷ st)) lacks
      ∙ passes most b.items (suc m) (at + length head) tail (k ∷ st) u.good (omega (arith, u.shallow))
      ∙ reaches bs (at + length head + length inner) m rest (k ∷ st) (subst (λ (n : ℕ). Unfinished n bs) one us)
      (subst (λ (n : ℕ). Fault n rest refusal) levels f)
      ∙ ap (refused refusal)
      (omega (
        arith,
        place_shift refusal (length inner) (length (encode_begun bs)) (length tail),
        place_shift refusal (length head) (length inner + length (encode_begun bs)) (length inner + length tail),
        ap₂ (place_of refusal) (heads b bs) whole,
      )))
    where
      heads : (b : Begun) (bs : List Begun)
          → length (encode_begun (b ∷ bs)) ≡ length (head_bytes b.major b.width b.arg) + (length (encodes b.items) + length (encode_begun bs))
      heads b bs = simp length-append

pub refusal_complete : (levels : ℕ) (s : List ℕ) (refusal : Refusal) (place : ℕ) → FirstFault (left_under levels) s refusal place
    → first_item levels s ≡ refused refusal place
unfolding first_item
refusal_complete levels s refusal place f =
    let most = left_under levels in
    let none : most ≡ most - 0 = omega arith in
    rw (f.split, f.at)
    (reaches most refusal f.begun 0 0 f.rest [] (subst (λ (n : ℕ). Unfinished n f.begun) none f.unfinished)
    (subst (λ (n : ℕ). Fault (n - length f.begun) f.rest refusal) none f.fault)
    ∙ rw (← f.split, zero-add))
