-- Bytes handed over to an output, where a test lets them pass: what is answered, and where they stand.
-- Assumes nothing.
use mathlib.Core.Path.{◌≡◌, refl, sym, ap, ◌∙◌}
use mathlib.Core.Bool.{Bool, true, false, false≢true}
use mathlib.Core.Logic.{◌↔◌}
use mathlib.Core.List.{List}
use Prim.Native.Nat.{ℕ, ◌≤◌, ◌<◌}
use native.Mathlib.Omega.{arith}
use lib.Dec.{ltb}
use lib.ListN.{length, take, drop}
use lib.Seq.{take_at}
use borrow.Author.Tests.{ltb-true, ltb-false, lt-ltb, le-ltb}
use Rattle.base.specs.Pick.{pick}
use Rattle.base.proofs.Picks.{pick-case}
use Rattle.cbor.specs.Put.{written}
use Rattle.rfc8990.specs.Limits.{most_bytes}
use Rattle.std.specs.Prelude.{Result, Ok, Err}
use Rattle.refusal.specs.declared.Refusal.{Refusal}
use Rattle.refusal.specs.declared.Refusal.TheVariants.{NoSuchMessage, WriteOutput}
use Rattle.writer.specs.Write.{hand_answer, hand_out, passes, pass_answer, pass_out}

-- they are never refused with 18
pub hand_not_18 : (bs out : List ℕ) → hand_answer bs out ≡ Err NoSuchMessage → ⊥
unfolding hand_answer
hand_not_18 bs out =
    pick-case (λ r. r ≡ Err NoSuchMessage → ⊥) (ltb (length out) (length bs))
    (λ e q. cc) (λ e q. cc)

-- where they fit, they stand in front
pub handed : (bs out : List ℕ) → length bs ≤ length out → (hand_answer bs out ≡ Ok (length bs)) × (hand_out bs out ≡ written bs out)
unfolding hand_answer hand_out pick
handed bs out h = (rw (le-ltb (length out) (length bs) h), rw (le-ltb (length out) (length bs) h))

-- a length is theirs, they fit,
hand_length : (bs out : List ℕ) (n : ℕ) → hand_answer bs out ≡ Ok n → (length bs ≤ length out) × (n ≡ length bs)
unfolding hand_answer
hand_length bs out n =
    pick-case (λ r. r ≡ Ok n → (length bs ≤ length out) × (n ≡ length bs)) (ltb (length out) (length bs))
    (λ e q. absurd cc)
    (λ e q. (ltb-false (length out) (length bs) e, cc))

-- and so many bytes of the output are they
pub hand_front : (bs out : List ℕ) (n : ℕ) → hand_answer bs out ≡ Ok n → take n (hand_out bs out) ≡ bs
hand_front bs out n e =
    let (room, long) = hand_length bs out n e in
    ap (take n) (handed bs out room).1 ∙ take_at bs (drop (length bs) out) n (sym long)

-- 19 where they do not
pub hand_19 : (bs out : List ℕ) → hand_answer bs out ≡ Err WriteOutput ↔ (length out < length bs)
unfolding hand_answer pick
hand_19 bs out = (
  pick-case (λ r. r ≡ Err WriteOutput → length out < length bs) (ltb (length out) (length bs)) (λ e q. ltb-true (length out) (length bs) e)
      (λ e q. absurd cc),
  λ h. rw (lt-ltb (length out) (length bs) h),
)

-- what holds of the answer and the output, where the bytes pass and where they don't
pub pass_case : (test : Bool) (bs out : List ℕ) (P : Result ℕ Refusal → List ℕ → Type 0)
    → (test ≡ true → length bs ≤ most_bytes → P (hand_answer bs out) (hand_out bs out))
    → ((test ≡ true → length bs ≤ most_bytes → ⊥) → P (Err NoSuchMessage) out) → P (pass_answer test bs out) (pass_out test bs out)
unfolding pass_answer pass_out passes pick
pass_case test bs out P f g = go test (ltb most_bytes (length bs)) refl refl
  where
    go : (t u : Bool) → test ≡ t → ltb most_bytes (length bs) ≡ u
        → P (pick (pick u false t) (hand_answer bs out) (Err NoSuchMessage)) (pick (pick u false t) (hand_out bs out) out)
    go true false e e' = f e (ltb-false most_bytes (length bs) e')
    go true true e e' = g (λ _ few. omega (arith, ltb-true most_bytes (length bs) e'))
    go false true e e' = g (λ q _. false≢true (sym e ∙ q))
    go false false e e' = g (λ q _. false≢true (sym e ∙ q))
