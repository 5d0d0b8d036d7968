-- A turn of `item::first`'s loop, on plain values. `Inv` is the loop's invariant: the walk from the position on, with
-- the counts in use as its stack, is the walk of the whole.
-- Assumes nothing.
use Rattle.std.specs.Prelude.{Ok, Some}
use Rattle.refusal.specs.declared.Refusal.{Refusal}
use Rattle.refusal.specs.Refusal.{refused}
use Rattle.cbor.specs.declared.item.Step.TheVariants.{Passed, Opened}
use Rattle.cbor.specs.Item.{StepRead}
use mathlib.Core.Path.{◌≡◌, refl, sym, ap, ◌∙◌, subst}
use mathlib.Core.Logic.{◌⊎◌, inl, inr}
use mathlib.Core.Bool.{Bool}
use mathlib.Core.List.{List, [], ◌∷◌}
use Prim.Native.Nat.{ℕ, zero, suc, ◌+◌, ◌-◌, ◌^◌, ◌≤◌, ◌<◌, zero-le}
use native.Mathlib.Numerals.{add-one}
use native.Mathlib.Omega.{arith}
use lib.ListN.{replicate, length, drop, set, get_or, length-drop, length-set}
use lib.Seq.{get_or-set_same, get_or-set_other, drop-drop}
use Rattle.cbor.specs.Item.{step_at, items_of, left_under, next, first_item}
use Rattle.cbor.specs.declared.item.Turn.{Turn}
use Rattle.cbor.specs.declared.item.Turn.TheVariants as T
use Rattle.cbor.specs.Turn.{Counts, TurnIs, CommonIs}
use Rattle.cbor.proofs.Bounds.{StepOk, step_ok}
use Rattle.cbor.proofs.Runs.{runs, runs_end, runs_close, runs_step, runs_many}

-- the first d counts as a stack
pub stack_of : List ℕ → ℕ → List ℕ
stack_of counts zero = []
stack_of counts (suc d) = get_or counts d 0 ∷ stack_of counts d

length_stack : (counts : List ℕ) (d : ℕ) → length (stack_of counts d) ≡ d
unfolding stack_of
length_stack counts zero = refl
length_stack counts (suc d) = ap suc (length_stack counts d)

-- a store at d or above leaves the first d
stack_set : (counts : List ℕ) (d i v : ℕ) → d ≤ i → stack_of (set counts i v) d ≡ stack_of counts d
unfolding stack_of
stack_set counts zero i v h = refl
stack_set counts (suc d) i v h =
    rw (get_or-set_other counts i d v 0 (omega arith), stack_set counts d i v (omega arith))

-- a store at d is the top of d + 1
stack_push : (counts : List ℕ) (d v : ℕ) → d < length counts → stack_of (set counts d v) (suc d) ≡ v ∷ stack_of counts d
unfolding stack_of
stack_push counts d v h = rw (get_or-set_same counts d v 0 h, stack_set counts d d v (omega arith))

pub record Inv (levels : ℕ) (s : List ℕ) (most : ℕ) (outer : List ℕ) (depth lacking at : ℕ) : Type 0 where
  pub most_is : most ≡ left_under levels
  pub eight : length outer ≡ 8
  pub shallow : depth ≤ most
  pub within : at ≤ length s
  pub same : runs most at (drop at s) (lacking ∷ stack_of outer depth) ≡ first_item levels s

pub begun : (levels : ℕ) (s : List ℕ) (most : ℕ) → most ≡ left_under levels → Inv levels s most (replicate 8 0) 0 1 0
unfolding stack_of first_item
begun levels s most e = record { most_is = e; eight = refl; shallow = zero-le; within = zero-le; same = rw e refl }

-- a count as `items` gives it
counted : (most at : ℕ) (r : List ℕ) (m k : ℕ) (below : List ℕ) → length r < 2 ^ 63 → (m ≡ k) ⊎ ((2 ^ 63 ≤ m) × (2 ^ 63 ≤ k))
    → runs most at r (m ∷ below) ≡ runs most at r (k ∷ below)
counted most at r m k below short (inl e) = ap (λ (n : ℕ). runs most at r (n ∷ below)) e
counted most at r m k below short (inr h) = runs_many most at r m k below (omega arith) (omega arith)

-- an answer lies within the bytes left, and opens a level only where one may
pub fits : (s : List ℕ) (left at : ℕ) (x : StepRead) → step_at left (drop at s) ≡ x → StepOk left (length s - at) x
fits s left at x answer = rw (length-drop at s) at (subst (StepOk left (length (drop at s))) answer (step_ok left (drop at s)))

-- a turn that passes, or opens a level, is a step that does
pub turn_passed : {step : StepRead} {turn : Turn} {len : ℕ} → turn ≡ T.Passed len → TurnIs step (Ok turn) → step ≡ Ok (Passed len)
turn_passed {step} e is = subst (λ turn. TurnIs step (Ok turn)) e is

pub turn_opened : {step : StepRead} {turn : Turn} {len m : ℕ} → turn ≡ T.Opened len m → TurnIs step (Ok turn)
    → (n : ℕ) × (pairs : Bool) × (step ≡ Ok (Opened len n pairs)) × Counts n pairs m
turn_opened {step} e is = subst (λ turn. TurnIs step (Ok turn)) e is

-- a common head is a step
pub turn_common : (left : ℕ) (s : List ℕ) (turn : Turn) → CommonIs left s (Some turn) → TurnIs (step_at left s) (Ok turn)
unfolding Counts
turn_common left s (T.Passed len) is = is
turn_common left s (T.Opened len n) (m, pairs, gives, many) = (m, pairs, gives, inl many)

module _ (levels : ℕ) (s : List ℕ) (most : ℕ) (outer : List ℕ) (depth lacking at : ℕ) (i : Inv levels s most outer depth lacking at) where
  -- the innermost level lacks nothing more, and there is no other
  pub done : lacking ≡ 0 → depth ≡ 0 → Ok at ≡ first_item levels s
  unfolding stack_of
  done none last = sym (runs_close most at (drop at s) [] ∙ runs_end most at (drop at s)) ∙ rw (none, last) at i.same

  -- the innermost level lacks nothing more, and the one around it goes on
  pub closed : (top : ℕ) → lacking ≡ 0 → depth ≡ suc top → Inv levels s most outer top (get_or outer top 0) at
  unfolding stack_of
  closed top none one =
      record {
        most_is = i.most_is;
        eight = i.eight;
        shallow = omega (arith, i.shallow);
        within = i.within;
        same = sym (runs_close most at (drop at s) (get_or outer top 0 ∷ stack_of outer top)) ∙ rw (none, one) at i.same;
      }

  module _ (some : lacking ≡ 0 → ⊥) where
    -- the walk after an answer
    after : (x : StepRead) → step_at (most - depth) (drop at s) ≡ x
        → next (runs most) at (drop at s) ((lacking - 1) ∷ stack_of outer depth) x ≡ first_item levels s
    after x answer =
        let e : lacking ≡ suc (lacking - 1) = omega arith in
        sym (runs_step most at (lacking - 1) (drop at s) (stack_of outer depth) ∙ rw (length_stack outer depth, answer)) ∙ rw e at i.same

    pub stopped : (refusal : Refusal) (place : ℕ) → step_at (most - depth) (drop at s) ≡ refused refusal place → refused refusal (at + place)
        ≡ first_item levels s
    unfolding next
    stopped refusal place answer = after (refused refusal place) answer

    pub passed : (len : ℕ) → step_at (most - depth) (drop at s) ≡ Ok (Passed len) → Inv levels s most outer depth (lacking - 1) (at + len)
    unfolding next
    passed len answer =
        let ok : (1 ≤ len) × (len ≤ length s - at) = fits s (most - depth) at (Ok (Passed len)) answer in
        record {
          most_is = i.most_is;
          eight = i.eight;
          shallow = i.shallow;
          within = omega (arith, i.within);
          same = rw (← drop-drop len at s) (after (Ok (Passed len)) answer);
        }

    pub opened : (len n : ℕ) (pairs : Bool) (m : ℕ) → step_at (most - depth) (drop at s) ≡ Ok (Opened len n pairs) → length s < 2 ^ 63
        → Counts n pairs m → Inv levels s most (set outer depth (lacking - 1)) (depth + 1) m (at + len)
    unfolding next Counts
    opened len n pairs m answer short count =
        let ok : ((1 ≤ len) × (len ≤ length s - at)) × (1 ≤ most - depth) = fits s (most - depth) at (Ok (Opened len n pairs)) answer in
        let here : depth < length outer = omega (arith, i.eight, i.most_is) in
        let short' : length (drop len (drop at s)) < 2 ^ 63 = simp length-drop (omega arith) in
        record {
          most_is = i.most_is;
          eight = length-set outer depth _ ∙ i.eight;
          shallow = omega arith;
          within = omega (arith, i.within);
          same =
              rw (add-one depth, stack_push outer depth (lacking - 1) here, ← drop-drop len at s)
              (counted most (at + len) (drop len (drop at s)) m (items_of n pairs) ((lacking - 1) ∷ stack_of outer depth) short' count
              ∙ after (Ok (Opened len n pairs)) answer);
        }
