-- The walk passes over items: over a token that opens nothing, over an array by its items, over any item whose size is
-- read; and where it passes over one from the start, it ends there. No fact on the elements is asked.
-- Assumes nothing.
use Rattle.std.specs.Prelude.{Ok, Err}
use Rattle.cbor.specs.declared.item.Step.TheVariants.{Passed, Opened}
use Rattle.cbor.specs.Head.{HeadRead, a_head}
use Rattle.cbor.specs.Item.{ItemRead, StepRead}
use mathlib.Core.Path.{◌≡◌, refl, sym, ◌∙◌, subst}
use mathlib.Core.Logic.{◌⊎◌, inl, inr}
use mathlib.Core.List.{List, [], ◌∷◌, ◌++◌}
use mathlib.Core.Bool.{false}
use Prim.Native.Nat.{ℕ, zero, suc, ◌+◌, ◌-◌, ◌<◌}
use native.Mathlib.Nat.{zero-add, add-zero, add_assoc}
use native.Mathlib.Omega.{arith}
use lib.ListN.{length, drop, length-append}
use lib.Seq.{drop-drop}
use lib.Dec.{ltb, leb}
use borrow.Author.Tests.{ltb-true, ltb-false, lt-leb, le-leb, ne_eqb}
use Rattle.base.specs.Pick.{pick}
use Rattle.base.proofs.Picks.{pick-case}
use Rattle.cbor.specs.declared.token.Token.{Token}
use Rattle.cbor.specs.Head.{head_at}
use Rattle.cbor.specs.Item.{opens, step_of, step_from, step_at, items_of, left_under, next, run, first_item}
use Rattle.cbor.specs.Token.{nothing_at, token_of, token_from, token_at, size_from, size_at}
use Rattle.cbor.proofs.Runs.{runs, runs_end, runs_close, runs_step}
use Rattle.cbor.proofs.Tokens.{token_has}

-- the walk passes over n items, from p to e of s, wherever s stands and whatever is open around them, where so many
-- levels may open
pub record Passes (left n : ℕ) (s : List ℕ) (p e : ℕ) : Type 0 where
  pub walk : (most from k : ℕ) (stack : List ℕ) → most ≡ left + length stack
      → runs most (from + p) (drop p s) ((n + k) ∷ stack) ≡ runs most (from + e) (drop e s) (k ∷ stack)

-- no items
pub passes_none : {left : ℕ} {s : List ℕ} {p : ℕ} → Passes left 0 s p p
passes_none = record { walk = λ most from k stack levels. rw (zero-add k) }

-- some, and then others
pub passes_then : {left n n' : ℕ} {s : List ℕ} {p m e : ℕ} → Passes left n s p m → Passes left n' s m e → Passes left (n + n') s p e
passes_then {n = n} {n'} h h' =
    record { walk = λ most from k stack levels. rw (add_assoc n n' k) (h.walk most from (n' + k) stack levels ∙ h'.walk most from k stack levels) }

-- what is passed in a part is passed in the whole
pub passes_within : {left n : ℕ} {s : List ℕ} {p e : ℕ} → Passes left n (drop p s) 0 e → Passes left n s p (p + e)
passes_within {s = s} {p} {e} h =
    record {
      walk = λ most from k stack levels. rw (← add_assoc from p e, ← drop-drop e p s) (rw (add-zero (from + p)) at (h.walk most (from + p) k stack levels));
    }

-- ---- a step
module _ (left : ℕ) (s : List ℕ) (p : ℕ) where
  -- the walk after a step
  after : (most from k : ℕ) (stack : List ℕ) (x : StepRead) → most ≡ left + length stack → step_at left (drop p s) ≡ x
      → runs most (from + p) (drop p s) ((1 + k) ∷ stack) ≡ next (runs most) (from + p) (drop p s) (k ∷ stack) x
  after most from k stack x levels answer =
      let here : most - length stack ≡ left = omega arith in
      let one : 1 + k ≡ suc k = omega arith in
      rw one (runs_step most (from + p) k (drop p s) stack ∙ rw (here, answer))

  -- a step that opens nothing
  step_passes : (len : ℕ) → step_at left (drop p s) ≡ Ok (Passed len) → Passes left 1 s p (p + len)
  unfolding next
  step_passes len answer =
      record { walk = λ most from k stack levels. rw (← add_assoc from p len, ← drop-drop len p s) (after most from k stack (Ok (Passed len)) levels answer) }

-- a step that opens a level, and the items of the level
step_opens : (left : ℕ) (s : List ℕ) (p len n e : ℕ) → step_at (suc left) (drop p s) ≡ Ok (Opened len n false) → Passes left n s (p + len) e
    → Passes (suc left) 1 s p e
unfolding next items_of pick
step_opens left s p len n e answer h =
    record {
      walk =
          λ most from k stack levels.
          after (suc left) s p most from k stack (Ok (Opened len n false)) levels answer
          ∙ rw (add_assoc from p len, drop-drop len p s)
          (rw (add-zero n) at (h.walk most from 0 (k ∷ stack) (omega arith)) ∙ runs_close most (from + e) (drop e s) (k ∷ stack));
    }

-- ---- a token
-- a number, a string or a simple value
abbrev pub Leaf : Token → Type 0
Leaf t = (t.major < 4) ⊎ (t.major ≡ 7)

-- a leaf is there
pub leaf_there : (t : Token) → Leaf t → t.major < 8
leaf_there t (inl low) = omega arith
leaf_there t (inr seven) = omega arith

-- what the walk makes of a head that is read as a token at p: the next is where it goes on
record Walked (p : ℕ) (step : ℕ → StepRead) (t : Token) : Type 0 where
  leaf : (left : ℕ) → Leaf t → step left ≡ Ok (Passed (t.next - p))
  array : (left : ℕ) → t.major ≡ 4 → step (suc left) ≡ Ok (Opened (t.next - p) t.arg false)

-- nothing is no token
nothing_walked : (p : ℕ) (step : ℕ → StepRead) → Walked p step (nothing_at p)
unfolding nothing_at
nothing_walked p step =
    record {
      leaf = λ left is. absurd (elim is [ inl h ↦ omega arith | inr h ↦ omega arith ]);
      array = λ left is. absurd (omega arith);
    }

-- a head is passed where its token is a leaf, and opens its items where it is an array
walked_from : (p room : ℕ) (x : HeadRead) → Walked p (λ left. step_from left room x) (token_from p room x)
unfolding token_from token_of step_from step_of opens pick
walked_from p room (Err why) = nothing_walked p _
walked_from p room (Ok head) =
    pick-case Fine (ltb 1 head.major)
    (λ e. pick-case Fine (ltb head.major 4)
    (λ f.
    let lo = ltb-true 1 head.major e in
    let hi = ltb-true head.major 4 f in
    pick-case Fine (leb head.arg (room - head.len))
    (λ g.
    let size : p + head.len + head.arg - p ≡ head.len + head.arg = omega arith in
    record {
      leaf = λ left _. rw (ne_eqb head.major 7 (λ z. omega arith), lt-leb 4 head.major hi, le-leb 2 head.major lo, g, size);
      array = λ left four. absurd (omega arith);
    })
    (λ _. nothing_walked p _))
    (λ f.
    let hi = ltb-false head.major 4 f in
    record {
      leaf = λ left is. elim is [ inl low ↦ absurd (omega arith) | inr seven ↦ rw (seven, back) ];
      array = λ left four. rw (four, ne_eqb (suc left) 0 (λ z. omega arith), back);
    }))
    (λ e.
    let lo = ltb-false 1 head.major e in
    record {
      leaf = λ left _. rw (ne_eqb head.major 7 (λ z. omega arith), lt-leb 4 head.major (omega arith), lt-leb 2 head.major (omega arith), back);
      array = λ left four. absurd (omega arith);
    })
  where
    Fine : Token → Type 0
    Fine = Walked p (λ left. step_from left room (a_head head.major head.arg head.len))

    back : p + head.len - p ≡ head.len
    back = omega arith

module _ (s : List ℕ) (p : ℕ) where
  -- so is the head at p
  token_walked : Walked p (λ left. step_at left (drop p s)) (token_at s p)
  unfolding step_at token_at
  token_walked = walked_from p (length (drop p s)) (head_at (drop p s))

  -- a token that is there goes forward
  forward : (token_at s p).major < 8 → p + ((token_at s p).next - p) ≡ (token_at s p).next
  forward there = omega (arith, (token_has s p).some there)

  -- a leaf is passed
  pub leaf_passes : {left : ℕ} → Leaf (token_at s p) → Passes left 1 s p (token_at s p).next
  leaf_passes {left} is = subst (Passes left 1 s p) (forward (leaf_there (token_at s p) is)) (step_passes left s p _ (token_walked.leaf left is))

  -- an array is passed where its items are
  pub array_passes : {left e : ℕ} → (token_at s p).major ≡ 4 → Passes left (token_at s p).arg s (token_at s p).next e → Passes (suc left) 1 s p e
  array_passes {left} {e} four h =
      step_opens left s p _ _ e (token_walked.array left four) (subst (λ (m : ℕ). Passes left (token_at s p).arg s m e) (sym (forward (omega arith))) h)

-- ---- an item of any sort
-- where a walk ends, the same walk goes on with what is open around it, as long as as many levels may open
module _ (left most from e k : ℕ) (s stack : List ℕ) where
  -- with c items left, and what is open above them
  abbrev Around : ℕ → List ℕ → ℕ → Type 0
  Around p above c = runs most (from + p) (drop p s) (above ++ (c + k) ∷ stack) ≡ runs most (from + e) (drop e s) (k ∷ stack)

  -- after a step
  stepped : (f p c : ℕ) (above : List ℕ) (x : StepRead)
      → ((len : ℕ) (new : List ℕ) → run left f (p + len) (drop (p + len) s) (new ++ above ++ c ∷ []) ≡ Ok e → Around (p + len) (new ++ above) c)
      → next (run left f) p (drop p s) (above ++ c ∷ []) x ≡ Ok e
      → next (runs most) (from + p) (drop p s) (above ++ (c + k) ∷ stack) x ≡ runs most (from + e) (drop e s) (k ∷ stack)
  unfolding next
  stepped f p c above (Err why) go q = cc
  stepped f p c above (Ok (Passed len)) go q = rw (add_assoc from p len, drop-drop len p s) (go len [] (rw (drop-drop len p s) at q))
  stepped f p c above (Ok (Opened len n pairs)) go q =
      rw (add_assoc from p len, drop-drop len p s) (go len (items_of n pairs ∷ []) (rw (drop-drop len p s) at q))

  module _ (levels : most ≡ left + length stack) where
    -- turn by turn
    around : (f p : ℕ) (above : List ℕ) (c : ℕ) → run left f p (drop p s) (above ++ c ∷ []) ≡ Ok e → Around p above c
    unfolding run
    around zero p above c q = cc
    around (suc zero) p [] zero q = cc
    around (suc (suc f)) p [] zero q =
        let same : p ≡ e = cc in
        rw (zero-add k, same)
    around (suc f) p [] (suc c) q =
        let here : most - length stack ≡ left - 0 = omega arith in
        let more : suc c + k ≡ suc (c + k) = omega arith in
        rw more
        (runs_step most (from + p) (c + k) (drop p s) stack
        ∙ rw here (stepped f p c [] (step_at (left - 0) (drop p s)) (λ len new. around f (p + len) (new ++ []) c) q))
    around (suc f) p (zero ∷ above) c q = runs_close most (from + p) (drop p s) (above ++ (c + k) ∷ stack) ∙ around f p above c q
    around (suc f) p (suc n ∷ above) c q =
        let here : most - length (above ++ (c + k) ∷ stack) ≡ left - length (above ++ c ∷ []) = simp length-append (omega arith) in
        runs_step most (from + p) n (drop p s) (above ++ (c + k) ∷ stack)
        ∙ rw here (stepped f p c (n ∷ above) (step_at (left - length (above ++ c ∷ [])) (drop p s))
        (λ len new. around f (p + len) (new ++ n ∷ above) c) q)

-- the first item is passed
item_passes : (levels : ℕ) (s : List ℕ) (e : ℕ) → first_item levels s ≡ Ok e → Passes (left_under levels) 1 s 0 e
unfolding first_item
item_passes levels s e q = record { walk = λ most from k stack same. around (left_under levels) most from e k s stack same _ 0 [] 1 q }

-- and the walk ends where it is passed
pub passes_item : (levels : ℕ) (s : List ℕ) (e : ℕ) → Passes (left_under levels) 1 s 0 e → first_item levels s ≡ Ok e
unfolding first_item
passes_item levels s e h =
    let most = left_under levels in
    h.walk most 0 0 [] (sym (add-zero most)) ∙ rw (zero-add e) (runs_close most e (drop e s) [] ∙ runs_end most e (drop e s))

-- an item ends where its size says
pub size_ends : (x : ItemRead) → (size_from x ≡ 0 → ⊥) → x ≡ Ok (size_from x)
unfolding size_from
size_ends (Err why) some = absurd (some refl)
size_ends (Ok end) some = refl

-- an item whose size is read is passed
pub size_passes : (levels : ℕ) (s : List ℕ) (p : ℕ) → (size_at levels s p ≡ 0 → ⊥) → Passes (left_under levels) 1 s p (p + size_at levels s p)
unfolding size_at
size_passes levels s p some = passes_within (item_passes levels (drop p s) _ (size_ends (first_item levels (drop p s)) some))
