-- What the definitions of `specs/` give at most: a head, and a head with its string, is at least one byte and lies
-- within the bytes, and a level opens only where one may.
-- Assumes nothing.
use Rattle.std.specs.Prelude.{Ok, Err}
use Rattle.cbor.specs.declared.item.Step.{Step}
use Rattle.cbor.specs.declared.item.Step.TheVariants.{Passed, Opened}
use Rattle.cbor.specs.Head.{HeadRead}
use Rattle.cbor.specs.Head.{InitialRead}
use Rattle.cbor.specs.Item.{StepRead}
use mathlib.Core.Path.{◌≡◌, sym, subst}
use Rattle.cbor.specs.declared.head.Initial.{Initial}
use mathlib.Core.List.{List, [], ◌∷◌}
use Prim.Native.Nat.{ℕ, ◌-◌, ◌≤◌}
use native.Mathlib.Omega.{arith}
use lib.ListN.{length}
use lib.Dec.{lit≤}
use borrow.Author.Tests.{leb-true, eqb-false}
use Rattle.base.proofs.Picks.{pick-case, both}
use Rattle.cbor.specs.Head.{width_of, initial_of, head_at}
use Rattle.cbor.specs.Item.{opens, step_of, step_from, step_at}
use Rattle.cbor.proofs.HeadExact.{judged_case, first_case}

abbrev pub InitialOk : InitialRead → Type 0
InitialOk (Err why) = Unit {0}
InitialOk (Ok begun) = begun.width ≤ 8

pub initial_ok : (first : ℕ) → InitialOk (initial_of first)
unfolding initial_of width_of
initial_ok first =
    both InitialOk _ tt
    (both InitialOk _ tt
    (both At_most_8 _ (lit≤ tt) (both At_most_8 _ (lit≤ tt) (both At_most_8 _ (lit≤ tt) (both At_most_8 _ (lit≤ tt) (lit≤ tt))))))
  where
    At_most_8 : ℕ → Type 0
    At_most_8 width = width ≤ 8

-- a first byte announces eight bytes of argument at most
pub begun_width : (first : ℕ) {begun : Initial} → Ok begun ≡ initial_of first → begun.width ≤ 8
begun_width first e = subst InitialOk (sym e) (initial_ok first)

-- the bytes that an answer passes, of so many
abbrev Within : ℕ → ℕ → Type 0
Within room len = (1 ≤ len) × (len ≤ room)

abbrev pub HeadOk : ℕ → HeadRead → Type 0
HeadOk room (Err why) = why.place ≤ room
HeadOk room (Ok head) = Within room head.len

pub head_ok : (s : List ℕ) → HeadOk (length s) (head_at s)
unfolding head_at
head_ok [] = omega arith
head_ok (first ∷ s) =
    first_case Fine first s (λ _ _. omega arith) (λ _. omega arith) (λ _ _. omega arith)
    (λ _ room. judged_case Fine _ _ _ (λ _ _ _. omega arith) (λ _ _. omega arith) (λ _ _. omega arith))
  where
    Fine : HeadRead → Type 0
    Fine = HeadOk (length (first ∷ s))

abbrev pub StepOk : ℕ → ℕ → StepRead → Type 0
StepOk left room (Err why) = why.place ≤ room
StepOk left room (Ok (Passed len)) = Within room len
StepOk left room (Ok (Opened len n pairs)) = Within room len × (1 ≤ left)

step_of_ok : (left room major arg len : ℕ) → Within room len → StepOk left room (step_of left room major arg len)
unfolding step_of opens
step_of_ok left room major arg len h =
    both Fine _ h
    (both Fine _
    (pick-case Fine _ (λ e. omega arith)
    (λ e.
    let some : 1 ≤ left = omega (arith, eqb-false left 0 e) in
    both Opens _ (h, some) (both Opens _ (h, some) (h, some))))
    (both Fine _ (pick-case Fine _ (λ e. omega (arith, leb-true arg (room - len) e)) (λ e. omega arith)) h))
  where
    Fine : StepRead → Type 0
    Fine = StepOk left room

    Opens : Step → Type 0
    Opens x = StepOk left room (Ok x)

pub step_ok : (left : ℕ) (s : List ℕ) → StepOk left (length s) (step_at left s)
unfolding step_at step_from
step_ok left s = go (head_at s) (head_ok s)
  where
    go : (x : HeadRead) → HeadOk (length s) x → StepOk left (length s) (step_from left (length s) x)
    go (Err why) h = h
    go (Ok head) h = step_of_ok left (length s) head.major head.arg head.len h
