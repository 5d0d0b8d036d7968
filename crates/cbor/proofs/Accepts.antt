-- The walk passes every encoding: where so many levels may open, an item of no more levels is passed, whatever follows
-- it.
-- Assumes nothing.
use Rattle.std.specs.Prelude.{Ok}
use Rattle.cbor.specs.declared.item.Step.TheVariants.{Passed, Opened}
use Rattle.cbor.specs.Head.{a_head}
use Rattle.cbor.specs.Item.{StepRead}
use mathlib.Core.Path.{◌≡◌, refl, sym, ap, ◌∙◌}
use mathlib.Core.List.{List, [], ◌∷◌, ◌++◌, append_assoc}
use mathlib.Core.Bool.{Bool, true, false}
use Prim.Native.Nat.{ℕ, suc, ◌+◌, ◌-◌, ◌*◌, ◌/◌, ◌≤◌, ◌<◌}
use native.Mathlib.Nat.{add-zero, zero-add, add_assoc, suc-add}
use native.Mathlib.Omega.{arith}
use lib.ListN.{length, drop, length-append, take-append-drop}
use lib.Seq.{drop-append_seam, length-take-le}
use lib.Dec.{lit<, lit≤}
use borrow.Author.Tests.{le-leb, lt-leb, ne_eqb}
use Rattle.base.specs.Pick.{pick}
use Rattle.cbor.specs.Head.{head_at}
use Rattle.cbor.specs.Item.{opens, step_of, step_from, step_at, items_of, left_under, next, first_item}
use Rattle.cbor.specs.Tree.{Item, Items, head_bytes, Right, count, encode, encodes, depth, depths, Good, Goods, ItemIs}
use Rattle.cbor.proofs.HeadExact.{head_read}
use Rattle.cbor.proofs.Runs.{runs, runs_end, runs_close, runs_step}

module _ (most : ℕ) where
  -- one step, by the bytes h that its head begins and what the step makes of the head
  module _ (at n : ℕ) (h t st : List ℕ) (major arg len : ℕ) (is : head_at (h ++ t) ≡ a_head major arg len) where
    step : (x : StepRead) → step_of (most - length st) (length (h ++ t)) major arg len ≡ x
        → runs most at (h ++ t) (suc n ∷ st) ≡ next (runs most) at (h ++ t) (n ∷ st) x
    unfolding step_at step_from
    step x e = runs_step most at n (h ++ t) st ∙ rw (is, e)

    leaf : step_of (most - length st) (length (h ++ t)) major arg len ≡ Ok (Passed (length h))
        → runs most at (h ++ t) (suc n ∷ st) ≡ runs most (at + length h) t (n ∷ st)
    unfolding next
    leaf e = step (Ok (Passed (length h))) e ∙ rw (drop-append_seam h t)

    pub enter : (k : ℕ) (pairs : Bool) → step_of (most - length st) (length (h ++ t)) major arg len ≡ Ok (Opened (length h) k pairs)
        → runs most at (h ++ t) (suc n ∷ st) ≡ runs most (at + length h) t (items_of k pairs ∷ n ∷ st)
    unfolding next
    enter k pairs e = step (Ok (Opened (length h) k pairs)) e ∙ rw (drop-append_seam h t)

  -- a string: its bytes are passed with its head
  text : (at k major width : ℕ) (bs r st : List ℕ) → 2 ≤ major → major < 4 → Right major width (length bs)
      → runs most at ((head_bytes major width (length bs) ++ bs) ++ r) (suc k ∷ st)
      ≡ runs most (at + length (head_bytes major width (length bs) ++ bs)) r (k ∷ st)
  unfolding step_of pick
  text at k major width bs r st lo hi right =
      let h = head_bytes major width (length bs) in
      let room : length bs ≤ length ((h ++ bs) ++ r) - length h = simp length-append (omega arith) in
      leaf at k (h ++ bs) r st major (length bs) (length h) (rw append_assoc (head_read major width (length bs) (bs ++ r) right))
      (rw (ne_eqb major 7 (omega arith), lt-leb 4 major hi, le-leb 2 major lo, le-leb _ _ room, length-append h bs))

  -- an array, a map or a tag: its items t are passed, and its level is closed
  inside : (at k major width arg n : ℕ) (pairs : Bool) (t r st : List ℕ) → Right major width arg
      → ((room len : ℕ) → step_of (most - length st) room major arg len ≡ Ok (Opened len n pairs))
      → ((from : ℕ) → runs most from (t ++ r) (items_of n pairs ∷ k ∷ st) ≡ runs most (from + length t) r (0 ∷ k ∷ st))
      → runs most at ((head_bytes major width arg ++ t) ++ r) (suc k ∷ st) ≡ runs most (at + length (head_bytes major width arg ++ t)) r (k ∷ st)
  inside at k major width arg n pairs t r st right opening passing =
      let h = head_bytes major width arg in
      rw (append_assoc h t r, length-append h t, ← add_assoc at (length h) (length t))
      (enter at k h (t ++ r) st major arg (length h) (head_read major width arg (t ++ r) right) n pairs (opening _ _)
      ∙ passing (at + length h)
      ∙ runs_close most (at + length h + length t) r (k ∷ st))

  mutual
    unfolding encode depth count step_of opens items_of pick

    pub pass : (x : Item) (at k : ℕ) (r st : List ℕ) → Good x → depth x + length st ≤ most
        → runs most at (encode x ++ r) (suc k ∷ st) ≡ runs most (at + length (encode x)) r (k ∷ st)
    pass (Item.number true width n) at k r st g d = leaf at k (head_bytes 1 width n) r st 1 n _ (head_read 1 width n r g) refl
    pass (Item.number false width n) at k r st g d = leaf at k (head_bytes 0 width n) r st 0 n _ (head_read 0 width n r g) refl
    pass (Item.string true width bs) at k r st g d = text at k 3 width bs r st (lit≤ tt) (lit< tt) g.0
    pass (Item.string false width bs) at k r st g d = text at k 2 width bs r st (lit≤ tt) (lit< tt) g.0
    pass (Item.array width xs) at k r st g d =
        inside at k 4 width (count xs) (count xs) false (encodes xs) r st g.0 (λ room len. rw (ne_eqb (most - length st) 0 (omega arith)))
        (λ from. rw add-zero at (passes xs 0 from r (k ∷ st) g.1 (omega arith)))
    pass (Item.map width xs) at k r st g d =
        inside at k 5 width (count xs / 2) (count xs / 2) true (encodes xs) r st g.0 (λ room len. rw (ne_eqb (most - length st) 0 (omega arith)))
        (λ from.
        let even : 2 * (count xs / 2) ≡ count xs = omega (arith, g.1) in
        rw even (rw add-zero at (passes xs 0 from r (k ∷ st) g.2 (omega arith))))
    pass (Item.tagged width n x) at k r st g d =
        inside at k 6 width n 1 false (encode x) r st g.0 (λ room len. rw (ne_eqb (most - length st) 0 (omega arith)))
        (λ from. pass x from 0 r (k ∷ st) g.1 (omega arith))
    pass (Item.simple width n) at k r st g d = leaf at k (head_bytes 7 width n) r st 7 n _ (head_read 7 width n r g) refl

    -- so many items, where m more are lacking
    pub passes : (xs : Items) (m at : ℕ) (r st : List ℕ) → Goods xs → depths xs + length st ≤ most
        → runs most at (encodes xs ++ r) ((count xs + m) ∷ st) ≡ runs most (at + length (encodes xs)) r (m ∷ st)
    passes Items.done m at r st g d = rw (add-zero, zero-add)
    passes (Items.more x xs) m at r st g d =
        rw (append_assoc, length-append, ← add_assoc, suc-add)
        (pass x at (count xs + m) (encodes xs ++ r) st g.0 (omega arith) ∙ passes xs m (at + length (encode x)) r st g.1 (omega arith))

pub item_accepts : (levels : ℕ) (x : Item) (rest : List ℕ) → Good x → depth x ≤ left_under levels
    → first_item levels (encode x ++ rest) ≡ Ok (length (encode x))
unfolding first_item
item_accepts levels x rest g d =
    let most = left_under levels in
    pass most x 0 0 rest [] g (omega arith) ∙ runs_close most _ rest [] ∙ runs_end most _ rest ∙ ap Ok (zero-add (length (encode x)))

-- so bytes that begin with its encoding are
pub item_found : (levels : ℕ) (s : List ℕ) (e : ℕ) → ItemIs (left_under levels) s e → first_item levels s ≡ Ok e
item_found levels s e i =
    ap (first_item levels) (sym (take-append-drop e s) ∙ ap (λ (l : List ℕ). l ++ drop e s) i.bytes)
    ∙ item_accepts levels i.item (drop e s) i.good i.shallow
    ∙ ap Ok (ap length (sym i.bytes) ∙ length-take-le e s i.within)
