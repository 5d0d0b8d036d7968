-- The walk of `specs/Item.antt` with its count of turns out of the way: `runs` has as many as it needs, and obeys the
-- three equations that `run` states, `runs_end`, `runs_close` and `runs_step`. And `runs_many`: a count that exceeds
-- the bytes left may be any other such count.
-- Assumes nothing.
use Rattle.std.specs.Prelude.{Ok, Err}
use Rattle.refusal.specs.declared.Refusal.{Refusal}
use Rattle.refusal.specs.Refusal.{refused}
use Rattle.cbor.specs.declared.item.Step.TheVariants.{Passed, Opened}
use Rattle.cbor.specs.Item.{ItemRead, StepRead}
use mathlib.Core.Path.{◌≡◌, refl, ap, ◌∙◌}
use mathlib.Core.List.{List, [], ◌∷◌, ◌++◌, append_assoc}
use Prim.Native.Nat.{ℕ, zero, suc, ◌+◌, ◌-◌, ◌*◌, ◌≤◌, ◌<◌, zero-le}
use native.Mathlib.Nat.{le_refl}
use native.Mathlib.Omega.{arith}
use lib.ListN.{length, drop, length-drop, length-append}
use Rattle.cbor.specs.Item.{step_at, items_of, next, run, enough}
use Rattle.cbor.proofs.Bounds.{StepOk, step_ok}

abbrev pub runs : ℕ → ℕ → List ℕ → List ℕ → ItemRead
runs most at s stack = run most (enough s stack) at s stack

-- two walks are related after a step where they are so on fewer bytes and at most one level more
module _ (R : ItemRead → ItemRead → Type 0) (at : ℕ) (s st st' : List ℕ) (go go' : ℕ → List ℕ → List ℕ → ItemRead) where
  pub next_both : (left : ℕ) (x : StepRead) → StepOk left (length s) x → ((refusal : Refusal) (place : ℕ) → R (refused refusal place) (refused refusal place))
      → ((len : ℕ) (new : List ℕ) → 1 ≤ len → len ≤ length s → length new ≤ 1
      → R (go (at + len) (drop len s) (new ++ st)) (go' (at + len) (drop len s) (new ++ st')))
      → R (next go at s st x) (next go' at s st' x)
  unfolding next
  next_both left (Err why) h same agree = same why.refusal (at + why.place)
  next_both left (Ok (Passed len)) h same agree = agree len [] h.0 h.1 zero-le
  next_both left (Ok (Opened len n pairs)) h same agree = agree len (items_of n pairs ∷ []) h.0.0 h.0.1 (le_refl 1)

module _ (most : ℕ) where
  -- any count of turns that is large enough gives the same
  any_turns : (f g at : ℕ) (s stack : List ℕ) → enough s stack ≤ f → enough s stack ≤ g → run most f at s stack ≡ run most g at s stack
  unfolding run enough
  any_turns zero g at s stack hf hg = absurd (omega arith)
  any_turns (suc f) zero at s stack hf hg = absurd (omega arith)
  any_turns (suc f) (suc g) at s [] hf hg = refl
  any_turns (suc f) (suc g) at s (zero ∷ stack) hf hg = any_turns f g at s stack (omega arith) (omega arith)
  any_turns (suc f) (suc g) at s (suc n ∷ stack) hf hg =
      next_both ◌≡◌ at s (n ∷ stack) (n ∷ stack) (run most f) (run most g) _ _ (step_ok _ s) (λ _ _. refl)
      (λ len new lo hi one.
      let d = length-drop len s in
      let a = length-append new (n ∷ stack) in
      any_turns f g (at + len) (drop len s) (new ++ n ∷ stack) (omega arith) (omega arith))

  pub runs_end : (at : ℕ) (s : List ℕ) → runs most at s [] ≡ Ok at
  unfolding run enough
  runs_end at s = refl

  pub runs_close : (at : ℕ) (s stack : List ℕ) → runs most at s (0 ∷ stack) ≡ runs most at s stack
  unfolding run enough
  runs_close at s stack = any_turns (2 * length s + length (0 ∷ stack)) (enough s stack) at s stack (omega arith) (omega arith)

  pub runs_step : (at n : ℕ) (s stack : List ℕ)
      → runs most at s (suc n ∷ stack) ≡ next (runs most) at s (n ∷ stack) (step_at (most - length stack) s)
  unfolding run enough
  runs_step at n s stack =
      let turns = 2 * length s + length (suc n ∷ stack) in
      next_both ◌≡◌ at s (n ∷ stack) (n ∷ stack) (run most turns) (runs most) _ _ (step_ok _ s) (λ _ _. refl)
      (λ len new lo hi one.
      let d = length-drop len s in
      let a = length-append new (n ∷ stack) in
      any_turns turns (enough (drop len s) (new ++ n ∷ stack)) (at + len) (drop len s) (new ++ n ∷ stack) (omega arith) (omega arith))

  -- a count that exceeds the bytes left is never used up, so that it may be any other
  many : (f at : ℕ) (s above : List ℕ) (c c' : ℕ) (below : List ℕ) → length s < c → length s < c'
      → run most f at s (above ++ c ∷ below) ≡ run most f at s (above ++ c' ∷ below)
  unfolding run
  many zero at s above c c' below h h' = refl
  many (suc f) at s [] zero c' below h h' = absurd (omega arith)
  many (suc f) at s [] (suc c) zero below h h' = absurd (omega arith)
  many (suc f) at s [] (suc c) (suc c') below h h' =
      next_both ◌≡◌ at s (c ∷ below) (c' ∷ below) (run most f) (run most f) _ _ (step_ok _ s) (λ _ _. refl)
      (λ len new lo hi one. let d = length-drop len s in many f (at + len) (drop len s) new c c' below (omega arith) (omega arith))
  many (suc f) at s (zero ∷ above) c c' below h h' = many f at s above c c' below h h'
  many (suc f) at s (suc n ∷ above) c c' below h h' =
      let same_levels : length (above ++ c ∷ below) ≡ length (above ++ c' ∷ below) = simp length-append in
      ap (λ (k : ℕ). next (run most f) at s (n ∷ above ++ c ∷ below) (step_at (most - k) s)) same_levels
      ∙ next_both ◌≡◌ at s (n ∷ above ++ c ∷ below) (n ∷ above ++ c' ∷ below) (run most f) (run most f) _ _ (step_ok _ s) (λ _ _. refl)
      (λ len new lo hi one.
      let d = length-drop len s in
      rw (← append_assoc new (n ∷ above) (c ∷ below), ← append_assoc new (n ∷ above) (c' ∷ below))
      (many f (at + len) (drop len s) (new ++ n ∷ above) c c' below (omega arith) (omega arith)))

  pub runs_many : (at : ℕ) (s : List ℕ) (c c' : ℕ) (stack : List ℕ) → length s < c → length s < c' → runs most at s (c ∷ stack) ≡ runs most at s (c' ∷ stack)
  unfolding enough
  runs_many at s c c' stack h h' = many _ at s [] c c' stack h h'
