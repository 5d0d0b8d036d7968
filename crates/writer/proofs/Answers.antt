-- Bytes handed over, drafts, and the writer's answers.
-- Assumes nothing.
use Prim.Native.Nat.{ℕ, ◌≤◌, ◌<◌}
use mathlib.Core.Path.{◌≡◌, refl, sym, ◌∙◌}
use mathlib.Core.Bool.{Bool, true, false}
use mathlib.Core.Logic.{◌⊎◌, inl, inr}
use mathlib.Core.List.{List, ◌++◌}
use native.Mathlib.Omega.{arith}
use lib.Dec.{ltb, leb}
use lib.ListN.{length, take, drop, length-take}
use borrow.Author.Tests.{lt-ltb, le-ltb, lt-leb, le-leb, ltb-true, ltb-false}
use Rattle.base.specs.Pick.{pick}
use Rattle.base.proofs.Bools.{true_or_false}
use Rattle.base.proofs.Picks.{both}
use Rattle.rfc8990.specs.Limits.{most_bytes}
use Rattle.description.specs.declared.Description.{Description}
use Rattle.std.specs.Prelude.{Result, Ok, Err, ⊤}
use Rattle.refusal.specs.declared.Refusal.{Refusal}
use Rattle.refusal.specs.declared.Refusal.TheVariants.{NoSuchMessage, WriteOutput}
use Rattle.encode.specs.Put.{Wrote}
use Rattle.description.specs.Judge.{ok_described}
use Rattle.writer.specs.Write.{fitting, accepts, hand_answer, hand_out, passes, pass_answer, pass_out, draft_of, write_answer, write_out}
use Rattle.encode.proofs.Puts.{finished, drafted, long}

-- ---- bytes that a test lets pass, judged before they are put
module _ (test : Bool) (bs out : List ℕ) {good : Bool} {len : ℕ} {answer : Result ⊤ Refusal} (g : good ≡ passes test bs) (l : len ≡ length bs)
    (e : answer ≡ fitting good len (length out)) where
  pub pass_not : {refusal : Refusal} {a : Result ℕ Refusal} → answer ≡ Err refusal → a ≡ Err refusal
      → (a ≡ pass_answer test bs out) × (out ≡ pass_out test bs out)
  unfolding fitting pass_answer pass_out hand_answer hand_out pick
  pass_not {refusal} h same = rw (same, ← g, ← l) (go good (ltb (length out) len) (sym e ∙ h))
    where
      go : (x y : Bool) → ◌≡◌ {A = Result ⊤ Refusal} (pick x (pick y (Err WriteOutput) (Ok tt)) (Err NoSuchMessage)) (Err refusal)
          → (Err refusal ≡ pick x (pick y (Err WriteOutput) (Ok len)) (Err NoSuchMessage))
          × (out ≡ pick x (pick y out (bs ++ drop len out)) out)
      go true true m = (cc, refl)
      go true false m = absurd cc
      go false y m = (cc, refl)

  pub pass_put : {r : ℕ} {out' : List ℕ} {u : ⊤} → answer ≡ Ok u → Wrote out out' 0 bs r
      → (Ok len ≡ pass_answer test bs out) × (out' ≡ pass_out test bs out)
  unfolding fitting pass_answer pass_out hand_answer hand_out pick
  pass_put {r} {out'} {u} z w = rw (← g, ← l) (go good (ltb (length out) len) refl (sym e ∙ z))
    where
      go : (x y : Bool) → ltb (length out) len ≡ y
          → ◌≡◌ {A = Result ⊤ Refusal} (pick x (pick y (Err WriteOutput) (Ok tt)) (Err NoSuchMessage)) (Ok u)
          → (Ok len ≡ pick x (pick y (Err WriteOutput) (Ok len)) (Err NoSuchMessage))
          × (out' ≡ pick x (pick y out (bs ++ drop len out)) out)
      go true true q m = absurd cc
      go true false q m = (refl, rw l (finished w (omega (arith, ltb-false (length out) len q))).1)
      go false y q m = absurd cc

-- no more than 2,048 bytes
pub few : (n : ℕ) (l : List ℕ) → n ≤ most_bytes → length (take n l) ≤ most_bytes
few n l g = omega (arith, length-take n l)

pub in_length : (test : Bool) (bs : List ℕ) → length bs ≤ most_bytes → test ≡ passes test bs
unfolding passes pick
in_length test bs h = rw (le-ltb most_bytes (length bs) h)

pub by_length : {test : Bool} (bs : List ℕ) (n : ℕ) → test ≡ true → n ≡ length bs → leb n most_bytes ≡ passes test bs
unfolding passes pick
by_length bs n t e = rw (← e, t) (go (true_or_false (ltb most_bytes n)))
  where
    go : (ltb most_bytes n ≡ true) ⊎ (ltb most_bytes n ≡ false) → leb n most_bytes ≡ pick (ltb most_bytes n) false true
    go (inl q) = rw (q, lt-leb n most_bytes (ltb-true most_bytes n q))
    go (inr q) = rw (q, le-leb n most_bytes (ltb-false most_bytes n q))

-- bytes that the test doesn't let pass
pub not_passed : {test : Bool} (bs out : List ℕ) → test ≡ false → (Err NoSuchMessage ≡ pass_answer test bs out) × (out ≡ pass_out test bs out)
unfolding pass_answer pass_out passes pick
not_passed bs out e = rw (both (λ t. t ≡ false) (ltb most_bytes (length bs)) refl e) (refl, refl)

-- ---- a draft that ends in time
module _ {l l' bs : List ℕ} {r : ℕ} (w : Wrote l l' 0 bs r) (h : r ≤ length l) where
  draft_is : take r l' ≡ bs
  draft_is = (drafted w h).0

  pub passed : (out : List ℕ) {out' : List ℕ} {x : Bool} {a : Result ℕ Refusal} → x ≡ accepts (take r l') → a ≡ pass_answer x (take r l') out
      → out' ≡ pass_out x (take r l') out
      → (a ≡ pass_answer (accepts bs) bs out) × (out' ≡ pass_out (accepts bs) bs out)
  passed out e p q = rw (← draft_is, ← e) (p, q)

-- one that doesn't
pub pass_long : {l l' bs : List ℕ} {r : ℕ} → Wrote l l' 0 bs r → length l ≡ most_bytes → (test : Bool) (out : List ℕ) → most_bytes < r
    → (Err NoSuchMessage ≡ pass_answer test bs out) × (out ≡ pass_out test bs out)
unfolding pass_answer pass_out passes pick
pass_long {l} {l'} {bs} {r} w g test out h =
    let k : length l < r = omega arith in
    let k' : most_bytes < length bs = omega (arith, long w k) in
    rw (lt-ltb most_bytes (length bs) k') (refl, refl)

-- ---- the description by itself
module _ (source list : List ℕ) (m : Description) (out : List ℕ) (b : Bool) (e : b ≡ ok_described source list m) where
  pub not_described : b ≡ false → (Err NoSuchMessage ≡ write_answer source list m out) × (out ≡ write_out source list m out)
  unfolding write_answer write_out pick
  not_described h = rw (← e, h) (refl, refl)

  pub described : {out' : List ℕ} {a : Result ℕ Refusal} → b ≡ true
      → (a ≡ pass_answer (accepts (draft_of source list m)) (draft_of source list m) out)
      × (out' ≡ pass_out (accepts (draft_of source list m)) (draft_of source list m) out)
      → (a ≡ write_answer source list m out) × (out' ≡ write_out source list m out)
  unfolding write_answer write_out pick
  described h p = rw (← e, h) p
