-- A head, and a token, that lies before a place of the bytes: what follows that place changes nothing.
-- Assumes nothing.
use Rattle.std.specs.Prelude.{Ok, Err}
use Rattle.cbor.specs.Head.{HeadRead, a_head}
use Rattle.cbor.specs.Head.{InitialRead}
use mathlib.Core.Path.{◌≡◌}
use mathlib.Core.List.{List, [], ◌∷◌, ◌++◌}
use Prim.Native.Nat.{ℕ, suc, ◌+◌, ◌-◌, ◌≤◌, ◌<◌}
use native.Mathlib.Omega.{arith}
use lib.ListN.{length, drop, length-append, length-drop}
use lib.Seq.{drop-append-le}
use lib.Dec.{ltb, leb}
use borrow.Author.Tests.{le-leb, le-ltb}
use Rattle.base.specs.Pick.{pick}
use Rattle.base.proofs.Picks.{pick-case}
use Rattle.cbor.specs.declared.token.Token.{Token}
use Rattle.cbor.specs.Head.{initial_of, arg_of, judged, head_from, head_by, head_of, head_at}
use Rattle.cbor.specs.Token.{nothing_at, token_of, token_from, token_at}
use Rattle.cbor.proofs.Bounds.{HeadOk, head_ok}
use Rattle.cbor.proofs.HeadExact.{judged_case}
use Rattle.cbor.proofs.Followed.{big_endian_stays}
use Rattle.cbor.proofs.Tokens.{token_has}

-- the answer y, where a head x of no more than so many bytes was read: the same
abbrev HeadKept : ℕ → HeadRead → HeadRead → Type 0
HeadKept size (Err why) y = Unit {0}
HeadKept size (Ok head) y = head.len ≤ size → y ≡ a_head head.major head.arg head.len

-- by the width that its first byte gives
judged_kept : (size major arg width : ℕ) (y : HeadRead) → (1 + width ≤ size → y ≡ judged major arg width) → HeadKept size (judged major arg width) y
judged_kept size major arg width y =
    judged_case (λ z. (1 + width ≤ size → y ≡ z) → HeadKept size z y) major arg width (λ _ _ _ _. tt) (λ _ _ _. tt) (λ _ _ same. same)

head_by_kept : (first : ℕ) (x v w : List ℕ) (i : InitialRead) → HeadKept (suc (length x)) (head_by first (x ++ v) i) (head_by first (x ++ w) i)
unfolding head_by head_from arg_of pick
head_by_kept first x v w (Err number) = tt
head_by_kept first x v w (Ok begun) =
    pick-case (λ z. HeadKept (suc (length x)) z (head_from first begun.major begun.width (x ++ w))) (ltb (length (x ++ v)) begun.width) (λ _. tt)
    (λ _. judged_kept (suc (length x)) begun.major (arg_of first begun.width (x ++ v)) begun.width (head_from first begun.major begun.width (x ++ w))
    (λ few.
    let within : begun.width ≤ length x = omega arith in
    rw (
      le-ltb (length (x ++ w)) begun.width (omega (arith, length-append x w)),
      big_endian_stays begun.width x w within,
      big_endian_stays begun.width x v within,
    )))

head_kept : (x v w : List ℕ) → HeadKept (length x) (head_at (x ++ v)) (head_at (x ++ w))
unfolding head_at head_of
head_kept [] v w = none (head_at v) (head_ok v)
  where
    none : (z : HeadRead) → HeadOk (length v) z → HeadKept 0 z (head_at w)
    none (Err why) ok = tt
    none (Ok head) ok = λ few. absurd (omega (arith, ok.0))
head_kept (first ∷ x) v w = head_by_kept first x v w (initial_of first)

-- a token that ends before the place
module _ (u v w : List ℕ) (p : ℕ) where
  abbrev Kept : Token → Type 0
  Kept t = t.major < 8 → t.next ≤ length u → token_at (u ++ w) p ≡ t

  read_kept : (major arg len : ℕ) → (len ≤ length (drop p u) → head_at (drop p u ++ w) ≡ a_head major arg len)
      → Kept (token_of p (length (drop p u ++ v)) major arg len)
  unfolding token_at token_from token_of nothing_at pick
  read_kept major arg len same =
      pick-case Kept (ltb 1 major)
      (λ e. pick-case Kept (ltb major 4)
      (λ f. pick-case Kept (leb arg (length (drop p u ++ v) - len))
      (λ _ _ few. rw (
        front (omega arith),
        same (omega (arith, size)),
        e,
        f,
        le-leb arg (length (drop p u ++ w) - len) (omega (arith, size, length-append (drop p u) w)),
      ))
      (λ _ high. absurd (omega arith)))
      (λ f _ few. rw (front (omega arith), same (omega (arith, size)), e, f)))
      (λ e _ few. rw (front (omega arith), same (omega (arith, size)), e))
    where
      front : p ≤ length u → drop p (u ++ w) ≡ drop p u ++ w
      front = drop-append-le p u w

      size : length (drop p u) ≡ length u - p
      size = length-drop p u

  pub token_kept : Kept (token_at (u ++ v) p)
  unfolding token_at token_from nothing_at
  token_kept there few =
      let low : p ≤ length u = omega (arith, (token_has (u ++ v) p).some there) in
      let kept : Kept (token_at (u ++ v) p) = rw (drop-append-le p u v low) (by (head_at (drop p u ++ v)) (head_kept (drop p u) v w)) in
      kept there few
    where
      by : (z : HeadRead) → HeadKept (length (drop p u)) z (head_at (drop p u ++ w)) → Kept (token_from p (length (drop p u ++ v)) z)
      by (Err why) same = λ high _. absurd (omega arith)
      by (Ok head) same = read_kept head.major head.arg head.len same
