-- What the walk answers where more follows, and with which numbers it refuses: no fact on the elements is asked.
-- Assumes nothing.
use Rattle.std.specs.Prelude.{Ok, Err}
use Rattle.refusal.specs.declared.Refusal.TheVariants as R
use Rattle.refusal.specs.Refusal.{number_of, refused}
use Rattle.cbor.specs.declared.item.Step.{Step}
use Rattle.cbor.specs.declared.item.Step.TheVariants.{Passed, Opened}
use Rattle.cbor.specs.Head.{HeadRead, a_head}
use Rattle.cbor.specs.Head.{InitialRead}
use Rattle.cbor.specs.Item.{ItemRead, StepRead}
use mathlib.Core.Path.{◌≡◌, refl, ap}
use mathlib.Core.Logic.{◌≢◌}
use mathlib.Core.List.{List, [], ◌∷◌, ◌++◌}
use Prim.Native.Nat.{ℕ, zero, suc, ◌+◌, ◌-◌, ◌/◌, ◌%◌, ◌≤◌}
use native.Mathlib.Omega.{arith}
use lib.ListN.{length, drop, length-append, length-drop, get_or-append}
use lib.Seq.{drop-append-le}
use lib.Dec.{ltb, leb, eqb, lit≤}
use borrow.Author.Tests.{ltb-false, le-ltb, leb-true, le-leb}
use Rattle.base.specs.Pick.{pick}
use Rattle.base.specs.BigEndian.{big_endian}
use Rattle.base.proofs.Picks.{pick-case, both, one_test}
use Rattle.cbor.specs.Head.{width_of, initial_of, arg_of, head_from, head_by, head_of, head_at}
use Rattle.cbor.specs.Item.{opens, step_of, step_from, step_at, items_of, left_under, next, run, enough, first_item}
use Rattle.cbor.proofs.Bounds.{StepOk, step_ok}
use Rattle.cbor.proofs.HeadExact.{judged_case}

-- ---- heads
-- the answer y where more follows, by the answer x: the same, but for 2
abbrev HeadStays : HeadRead → HeadRead → Type 0
HeadStays (Err why) y = (2 ≤ number_of why.refusal) × (number_of why.refusal ≤ 6) × (why.refusal ≢ R.Cut → y ≡ refused why.refusal why.place)
HeadStays (Ok head) y = y ≡ a_head head.major head.arg head.len

-- the bytes of an argument are read as they were
pub big_endian_stays : (n : ℕ) (s t : List ℕ) → n ≤ length s → big_endian (s ++ t) n ≡ big_endian s n
unfolding big_endian
big_endian_stays zero s t h = refl
big_endian_stays (suc n) s t h = rw (big_endian_stays n s t (omega arith), get_or-append s t 0 n h)

head_stays : (s t : List ℕ) → HeadStays (head_at s) (head_at (s ++ t))
unfolding head_at head_of head_by head_from initial_of arg_of pick
head_stays [] t = (lit≤ tt, lit≤ tt, λ other. absurd (other refl))
head_stays (first ∷ s) t = both By (eqb (first % 32) 31) (lit≤ tt, lit≤ tt, λ _. refl) (both By (leb 28 (first % 32)) (lit≤ tt, lit≤ tt, λ _. refl) begins)
  where
    By : InitialRead → Type 0
    By i = HeadStays (head_by first s i) (head_by first (s ++ t) i)

    major : ℕ
    major = first / 32

    width : ℕ
    width = width_of (first % 32)

    begins : By (Ok (record { major = major; width = width }))
    begins =
        pick-case (λ x. HeadStays x (head_from first major width (s ++ t))) (ltb (length s) width) (λ _. (lit≤ tt, lit≤ tt, λ other. absurd (other refl)))
        (λ e.
        let within = ltb-false (length s) width e in
        rw (le-ltb (length (s ++ t)) width (omega (arith, length-append s t)), big_endian_stays width s t within)
        (judged_case (λ x. HeadStays x x) major (arg_of first width s) width (λ _ _ _. (lit≤ tt, lit≤ tt, λ _. refl))
        (λ _ _. (lit≤ tt, lit≤ tt, λ _. refl)) (λ _ _. refl)))

-- ---- steps
abbrev StepStays : StepRead → StepRead → Type 0
StepStays (Err why) y = (2 ≤ number_of why.refusal) × (number_of why.refusal ≤ 6) × (why.refusal ≢ R.Cut → y ≡ refused why.refusal why.place)
StepStays (Ok (Passed len)) y = y ≡ Ok (Passed len)
StepStays (Ok (Opened len n pairs)) y = y ≡ Ok (Opened len n pairs)

step_of_stays : (left room room' major arg len : ℕ) → room ≤ room' → StepStays (step_of left room major arg len) (step_of left room' major arg len)
unfolding step_of opens pick
step_of_stays left room room' major arg len more =
    one_test StepStays (eqb major 7) refl
    (one_test StepStays (leb 4 major)
    (one_test StepStays (eqb left 0) (lit≤ tt, lit≤ tt, λ _. refl) (one_test Same (eqb major 4) refl (one_test Same (eqb major 5) refl refl)))
    (one_test StepStays (leb 2 major) string refl))
  where
    Same : Step → Step → Type 0
    Same x y = StepStays (Ok x) (Ok y)

    string : StepStays (pick (leb arg (room - len)) (Ok (Passed (len + arg))) (refused R.Cut room))
        (pick (leb arg (room' - len)) (Ok (Passed (len + arg))) (refused R.Cut room'))
    string =
        pick-case (λ x. StepStays x (pick (leb arg (room' - len)) (Ok (Passed (len + arg))) (refused R.Cut room'))) (leb arg (room - len))
        (λ e. rw (le-leb arg (room' - len) (omega (arith, leb-true arg (room - len) e))) refl)
        (λ _. (lit≤ tt, lit≤ tt, λ other. absurd (other refl)))

step_stays : (left : ℕ) (s t : List ℕ) → StepStays (step_at left s) (step_at left (s ++ t))
unfolding step_at step_from
step_stays left s t = go (head_at s) (head_at (s ++ t)) (head_stays s t)
  where
    go : (x y : HeadRead) → HeadStays x y → StepStays (step_from left (length s) x) (step_from left (length (s ++ t)) y)
    go (Err why) y h = (h.0, h.1, λ other. ap (step_from left (length (s ++ t))) (h.2 other))
    go (Ok head) y h = rw h (step_of_stays left (length s) (length (s ++ t)) head.major head.arg head.len (omega (arith, length-append s t)))

-- ---- the walk
abbrev pub Stays : ItemRead → ItemRead → Type 0
Stays (Err why) y = (2 ≤ number_of why.refusal) × (number_of why.refusal ≤ 6) × (why.refusal ≢ R.Cut → y ≡ refused why.refusal why.place)
Stays (Ok e) y = y ≡ Ok e

module _ (most : ℕ) (t : List ℕ) where
  stepped : (f g at left : ℕ) (s stack : List ℕ)
      → ((len : ℕ) (new : List ℕ) → 1 ≤ len → len ≤ length s → length new ≤ 1
      → Stays (run most f (at + len) (drop len s) (new ++ stack)) (run most g (at + len) (drop len s ++ t) (new ++ stack)))
      → (x y : StepRead) → StepOk left (length s) x → StepStays x y → Stays (next (run most f) at s stack x) (next (run most g) at (s ++ t) stack y)
  unfolding next
  stepped f g at left s stack rec (Err why) y ok h = (h.0, h.1, λ other. ap (next (run most g) at (s ++ t) stack) (h.2 other))
  stepped f g at left s stack rec (Ok (Passed len)) y ok h = rw (h, drop-append-le len s t ok.1) (rec len [] ok.0 ok.1 (lit≤ tt))
  stepped f g at left s stack rec (Ok (Opened len n pairs)) y ok h =
      rw (h, drop-append-le len s t ok.0.1) (rec len (items_of n pairs ∷ []) ok.0.0 ok.0.1 (lit≤ tt))

  run_stays : (f g at : ℕ) (s stack : List ℕ) → enough s stack ≤ f → enough (s ++ t) stack ≤ g → Stays (run most f at s stack) (run most g at (s ++ t) stack)
  unfolding run enough
  run_stays zero g at s stack hf hg = absurd (omega arith)
  run_stays (suc f) zero at s stack hf hg = absurd (omega arith)
  run_stays (suc f) (suc g) at s [] hf hg = refl
  run_stays (suc f) (suc g) at s (zero ∷ stack) hf hg = run_stays f g at s stack (omega arith) (omega arith)
  run_stays (suc f) (suc g) at s (suc n ∷ stack) hf hg =
      stepped f g at (most - length stack) s (n ∷ stack)
      (λ len new lo hi one.
      let d = length-drop len s in
      let a = length-append new (n ∷ stack) in
      let b = length-append s t in
      let c = length-append (drop len s) t in
      run_stays f g (at + len) (drop len s) (new ++ n ∷ stack) (omega arith) (omega arith))
      (step_at (most - length stack) s) (step_at (most - length stack) (s ++ t)) (step_ok (most - length stack) s) (step_stays (most - length stack) s t)

-- The first item, by its answer: where more follows, the same but for 2.
pub item_stays : (levels : ℕ) (s t : List ℕ) → Stays (first_item levels s) (first_item levels (s ++ t))
unfolding first_item
item_stays levels s t = run_stays (left_under levels) t (enough s (1 ∷ [])) (enough (s ++ t) (1 ∷ [])) 0 s (1 ∷ []) (omega arith) (omega arith)
