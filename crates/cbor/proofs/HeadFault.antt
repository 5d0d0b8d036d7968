-- A head is refused exactly where it is at fault (RFC 8949, section 3): `head_fault`, a refusal names the fault, and,
-- for each fault, that it is refused.
-- Assumes nothing.
use Rattle.std.specs.Prelude.{Ok, Err}
use Rattle.refusal.specs.declared.Refusal.{Refusal}
use Rattle.refusal.specs.declared.Refusal.TheVariants as R
use Rattle.refusal.specs.Refusal.{refused}
use Rattle.cbor.specs.Head.{HeadRead}
use mathlib.Core.Path.{◌≡◌, refl, sym, ap, ◌∙◌, subst}
use mathlib.Core.Logic.{◌≢◌}
use mathlib.Core.List.{List, [], ◌∷◌, ◌++◌}
use Prim.Native.Nat.{ℕ, ◌+◌, ◌%◌, ◌≤◌, ◌<◌}
use native.Mathlib.Numerals.{add-one}
use native.Mathlib.Decide.{dec_lt}
use native.Mathlib.Omega.{arith}
use lib.ListN.{length, drop, take-append-drop}
use lib.Dec.{ltb, eqb, lit<}
use borrow.Author.Tests.{lt-ltb, le-leb, lt-leb, eq-eqb, ne_eqb, ltb-false, eqb-true, eqb-false}
use Rattle.base.specs.Pick.{pick}
use Rattle.base.specs.BigEndian.{Bytes}
use Rattle.base.proofs.Picks.{pick-case}
use Rattle.cbor.specs.Head.{width_of, least_of, initial_of, judged, head_from, head_by, head_of, head_at}
use Rattle.cbor.specs.Tree.{head_bytes, shortest, Sized}
use Rattle.cbor.specs.Fault.{Announces, Fault, place_of}
use Rattle.cbor.proofs.HeadExact.{judged_case, first_case, short_least, short_width, written, Whole, whole}

-- ---- what additional information announces
announced : (info : ℕ) → info < 28 → 0 < width_of info → Announces info (width_of info)
unfolding width_of
announced info low =
    pick-case P (ltb info 24) (λ _ some. absurd (omega arith))
    (λ t. pick-case P (eqb info 24) (λ e _. rw (eqb-true info 24 e) Announces.one)
    (λ t₁. pick-case P (eqb info 25) (λ e _. rw (eqb-true info 25 e) Announces.two)
    (λ t₂. pick-case P (eqb info 26) (λ e _. rw (eqb-true info 26 e) Announces.four)
    (λ t₃ _.
    let last : info ≡ 27 = omega (arith, ltb-false info 24 t, eqb-false info 24 t₁, eqb-false info 25 t₂, eqb-false info 26 t₃) in
    rw last Announces.eight))))
  where
    P : ℕ → Type 0
    P w = 0 < w → Announces info w

announces_width : {info width : ℕ} → Announces info width → (info < 28) × (width_of info ≡ width)
unfolding width_of pick
announces_width Announces.one = (lit< tt, refl)
announces_width Announces.two = (lit< tt, refl)
announces_width Announces.four = (lit< tt, refl)
announces_width Announces.eight = (lit< tt, refl)

-- a fault of the head at the start of s, and its place
abbrev pub FaultIs : ℕ → List ℕ → Refusal → ℕ → Type 0
FaultIs left s refusal place = Fault left s refusal × (place ≡ place_of refusal 0 (length s))

-- where the head is refused
abbrev IfRefused : ℕ → List ℕ → HeadRead → Type 0
IfRefused left s (Ok head) = Unit {0}
IfRefused left s (Err why) = FaultIs left s why.refusal why.place

fault_is : (left : ℕ) (s : List ℕ) → Bytes s → IfRefused left s (head_at s)
unfolding head_at place_of pick
fault_is left [] b = (Fault.missing refl, refl)
fault_is left (first ∷ s) b =
    first_case
    (IfRefused left (first ∷ s))
    first
    s
    (λ low high. (Fault.reserved first s refl low high, refl))
    (λ e. (Fault.indefinite first s refl e, refl))
    (λ lt short. (Fault.cut first s refl (announced (first % 32) lt (omega arith)) short, add-one (length s)))
    (λ lt room. judged_is (whole first s b lt room))
  where
    judged_is : {major arg width : ℕ} → Whole (first ∷ s) major arg width → IfRefused left (first ∷ s) (judged major arg width)
    judged_is {major} {arg} {width} w =
        let split : first ∷ s ≡ head_bytes major width arg ++ drop (1 + width) (first ∷ s) = rw (← w.bytes) (sym (take-append-drop (1 + width) (first ∷ s))) in
        judged_case
        (IfRefused left (first ∷ s))
        major
        arg
        width
        (λ m e low. (Fault.low_simple arg (drop (1 + width) (first ∷ s)) (cc) low, refl))
        (λ ne low. (
          Fault.long major width arg (drop (1 + width) (first ∷ s)) split (omega (arith, ne)) w.sized (λ z. omega (arith, short_least width arg z)),
          refl,
        ))
        (λ _ _. tt)

-- every refusal of a head is a fault of it
pub head_fault : (left : ℕ) (s : List ℕ) (refusal : Refusal) (place : ℕ) → Bytes s → head_at s ≡ refused refusal place → FaultIs left s refusal place
head_fault left s refusal place b e = subst (IfRefused left s) e (fault_is left s b)

-- ---- and every fault of a head is refused
pub missing_refused : {s : List ℕ} → s ≡ [] → head_at s ≡ refused R.Cut (place_of R.Cut 0 (length s))
unfolding head_at place_of pick
missing_refused e = rw e

pub reserved_refused : {s : List ℕ} (first : ℕ) (rest : List ℕ) → s ≡ first ∷ rest → 28 ≤ first % 32 → first % 32 < 31
    → head_at s ≡ refused R.Reserved (place_of R.Reserved 0 (length s))
unfolding head_at head_of head_by initial_of place_of pick
reserved_refused first rest e low high = rw (e, ne_eqb (first % 32) 31 (omega arith), le-leb 28 (first % 32) low)

pub indefinite_refused : {s : List ℕ} (first : ℕ) (rest : List ℕ) → s ≡ first ∷ rest → first % 32 ≡ 31
    → head_at s ≡ refused R.Indefinite (place_of R.Indefinite 0 (length s))
unfolding head_at head_of head_by initial_of place_of pick
indefinite_refused first rest e h = rw (e, eq-eqb (first % 32) 31 h)

pub cut_refused : {s : List ℕ} (first : ℕ) (rest : List ℕ) {width : ℕ} → s ≡ first ∷ rest → Announces (first % 32) width → length rest < width
    → head_at s ≡ refused R.Cut (place_of R.Cut 0 (length s))
unfolding head_at head_of head_by head_from initial_of place_of pick
cut_refused first rest e announces short =
    let (low, same) = announces_width announces in
    rw (
      e,
      ne_eqb (first % 32) 31 (omega arith),
      lt-leb 28 (first % 32) low,
      lt-ltb (length rest) (width_of (first % 32)) (rw same short),
      add-one (length rest),
    )

pub low_simple_refused : {s : List ℕ} (value : ℕ) (rest : List ℕ) → s ≡ head_bytes 7 1 value ++ rest → value < 32
    → head_at s ≡ refused R.Reserved (place_of R.Reserved 0 (length s))
unfolding judged place_of pick
low_simple_refused value rest e low = ap head_at e ∙ written 7 1 value rest (Sized.one (omega arith)) ∙ rw (lt-ltb value 32 low)

pub long_refused : {s : List ℕ} (major width arg : ℕ) (rest : List ℕ) → s ≡ head_bytes major width arg ++ rest → major < 7 → Sized width arg
    → width ≢ shortest arg
    → head_at s ≡ refused R.LongHead (place_of R.LongHead 0 (length s))
unfolding judged place_of pick
long_refused major width arg rest e m sized other =
    let low : arg < least_of width = elim (dec_lt arg (least_of width)) [
      | yes l ↦ l
      | no l ↦ absurd (other (short_width sized (omega arith)))
    ] in
    ap head_at e ∙ written major width arg rest sized ∙ rw (ne_eqb major 7 (omega arith), lt-ltb arg (least_of width) low)
