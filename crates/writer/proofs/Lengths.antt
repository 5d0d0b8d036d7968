-- How many bytes a relayed message and a node's answer have, by arithmetic.
-- Assumes nothing.
use Prim.Native.Nat.{ℕ, ◌+◌, ◌-◌, ◌≤◌}
use mathlib.Core.Path.{◌≡◌, refl}
use mathlib.Core.Bool.{true}
use mathlib.Core.Logic.{◌⊎◌, inl, inr, ◌↔◌}
use mathlib.Core.List.{List, ◌++◌}
use native.Mathlib.Omega.{arith}
use lib.Dec.{eqb}
use lib.ListN.{length, take, drop, length-append, length-drop}
use lib.Seq.{length-take-le}
use borrow.Author.Tests.{eq-eqb, eqb-true}
use Rattle.base.specs.Pick.{pick}
use Rattle.base.proofs.Picks.{pick-case, both}
use Rattle.cbor.specs.Tree.{shortest}
use Rattle.cbor.proofs.Stores.{length_shortest}
use Rattle.cbor.specs.Put.{head}
use Rattle.cbor.proofs.HeadExact.{shortest_case}
use Rattle.rfc8990.specs.Limits.{most_bytes}
use Rattle.rfc8990.specs.Encoding.{string, reached, fixed, preamble}
use Rattle.writer.specs.Write.{lowered, answer_of, ok_initiator}
use Rattle.writer.proofs.Response.{answer_is}

-- a head is of at most nine bytes
shortest_few : (arg : ℕ) → shortest arg ≤ 8
shortest_few arg = shortest_case (λ w. w ≤ 8) arg (λ _. omega arith) (λ _ _. omega arith) (λ _ _. omega arith) (λ _ _. omega arith) (λ _. omega arith)

pub head_few : (arg n : ℕ) → n ≡ 1 + shortest arg → n ≤ 9
head_few arg n e = omega (arith, shortest_few arg)

pub string_length : (s : List ℕ) (n : ℕ) → n ≡ 1 + shortest (length s) → n + length s ≡ length (string 2 s)
unfolding string
string_length s n e = rw (length-append (head 2 (length s)) s, length_shortest, e)

pub string_few : (s : List ℕ) (n : ℕ) → n ≡ length (string 2 s) → n ≤ 9 + length s
string_few s n e = omega (arith, string_length s (1 + shortest (length s)) refl, shortest_few (length s))

pub lowered_length : (message : List ℕ) (at end count n : ℕ) → at ≤ length message → n ≡ 1 + shortest (count - 1)
    → at + (length message - end) + n ≡ length (lowered message at end count)
unfolding lowered
lowered_length message at end count n h e =
    rw (
      length-append (take at message ++ head 0 (count - 1)) (drop end message),
      length-append (take at message) (head 0 (count - 1)),
      length-take-le at message h,
      length-drop end message,
      length_shortest 0 (count - 1),
      e,
    )
    (omega arith)

-- the heads of an answer that are always the same
same_heads : (shortest 5 ≡ 0) × (shortest 2 ≡ 0) × (shortest 4 ≡ 0) × (shortest 103 ≡ 1) × (shortest 6 ≡ 0)
unfolding shortest pick
same_heads = (refl, refl, refl, refl, refl)

pub answer_length : (session : ℕ) (initiator : List ℕ) (ttl : ℕ) (address : List ℕ) (port : ℕ) (a b c d e : ℕ)
    → a ≡ 1 + shortest session → b ≡ length (string 2 initiator) → c ≡ 1 + shortest ttl → d ≡ length (string 2 address) → e ≡ 1 + shortest port
    → 6 + a + c + d + e + b ≡ length (answer_of session initiator ttl address port)
unfolding preamble fixed reached
answer_length session initiator ttl address port a b c d e ea eb ec ed ee =
    simp (answer_is, length-append, length_shortest, ← ea, ← eb, ← ec, ← ed, ← ee)
    (omega (arith, same_heads.0, same_heads.1, same_heads.2, same_heads.3, same_heads.4))

-- an initiator that passes
pub initiator_sized : (initiator : List ℕ) → ok_initiator initiator ≡ true ↔ ((length initiator ≡ 4) ⊎ (length initiator ≡ 16))
unfolding ok_initiator pick
initiator_sized initiator = (
  pick-case (λ t. t ≡ true → (length initiator ≡ 4) ⊎ (length initiator ≡ 16)) _ (λ q _. inl (eqb-true (length initiator) 4 q))
      (λ _ q. inr (eqb-true (length initiator) 16 q)),
  back,
)
  where
    back : (length initiator ≡ 4) ⊎ (length initiator ≡ 16) → ok_initiator initiator ≡ true
    back (inl e) = rw (eq-eqb (length initiator) 4 e)
    back (inr e) = both (λ t. t ≡ true) (eqb (length initiator) 4) refl (eq-eqb (length initiator) 16 e)

pub sized_few : {n : ℕ} → (n ≡ 4) ⊎ (n ≡ 16) → n ≤ 16
sized_few (inl e) = omega arith
sized_few (inr e) = omega arith

-- an answer is a short message
pub answer_few : (session : ℕ) (initiator : List ℕ) (ttl : ℕ) (address : List ℕ) (port : ℕ) → length initiator ≤ 16 → length address ≤ 16
    → length (answer_of session initiator ttl address port) ≤ most_bytes
answer_few session initiator ttl address port few few' =
    omega (
      arith,
      answer_length session initiator ttl address port _ _ _ _ _ refl refl refl refl refl,
      shortest_few session,
      shortest_few ttl,
      shortest_few port,
      string_few initiator _ refl,
      string_few address _ refl,
    )
