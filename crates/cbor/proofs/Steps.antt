-- What a step of the walk has found in the bytes: an item that holds no others, the head of one that does, or a fault.
-- Assumes nothing.
use Rattle.std.specs.Prelude.{Ok, Err}
use Rattle.refusal.specs.declared.Refusal.TheVariants as R
use Rattle.cbor.specs.declared.item.Step.{Step}
use Rattle.cbor.specs.declared.item.Step.TheVariants.{Passed, Opened}
use Rattle.cbor.specs.Head.{HeadRead}
use Rattle.cbor.specs.Item.{StepRead}
use mathlib.Core.Path.{◌≡◌, refl, sym, ap, ◌∙◌, subst}
use mathlib.Core.List.{List, ◌++◌, append-nil}
use mathlib.Core.Bool.{Bool, true, false, cond}
use Prim.Native.Nat.{ℕ, suc, ◌+◌, ◌-◌, ◌*◌, ◌/◌, ◌≤◌, ◌<◌, zero-le}
use native.Mathlib.Decide.{ℕ_discrete}
use native.Mathlib.Omega.{arith}
use lib.ListN.{length, take, drop, length-drop, take-append-drop}
use lib.Seq.{length-take-le, take-add}
use lib.Dec.{eqb}
use borrow.Author.Tests.{leb-true, leb-false, eqb-true, eqb-false, eq-eqb, ne_eqb}
use Rattle.base.specs.Pick.{pick}
use Rattle.base.specs.BigEndian.{Bytes}
use Rattle.base.proofs.Picks.{pick-case, one_test}
use Rattle.base.proofs.Parts.{bytes_drop, bytes_take}
use Rattle.cbor.specs.Head.{head_at}
use Rattle.cbor.specs.Item.{opens, step_of, step_from, step_at, items_of}
use Rattle.cbor.specs.Tree.{Item, Items, head_bytes, Right, HeadIs, count, encode, encodes, depth, depths, Good, Goods}
use Rattle.cbor.specs.Fault.{Fault, place_of, items_held}
use Rattle.cbor.proofs.HeadExact.{head_is}
use Rattle.cbor.proofs.HeadFault.{FaultIs, head_fault}

-- an item that holds no others, in the first len bytes of s
pub record LeafIs (s : List ℕ) (len : ℕ) : Type 0 where
  pub item : Item
  pub good : Good item
  pub flat : depth item ≡ 0
  pub bytes : encode item ≡ take len s

-- an item whose head is the first len bytes of s, and whose items are ys
pub record NodeIs (s : List ℕ) (len : ℕ) (ys : Items) : Type 0 where
  pub item : Item
  pub good : Good item
  pub deeper : depth item ≡ suc (depths ys)
  pub bytes : encode item ≡ take len s ++ encodes ys

-- a head in the first len bytes of s that opens a level for n items
pub record OpeningIs (s : List ℕ) (len n : ℕ) : Type 0 where
  pub major : ℕ
  pub width : ℕ
  pub arg : ℕ
  pub bytes : take len s ≡ head_bytes major width arg
  pub right : Right major width arg
  pub low : 4 ≤ major
  pub high : major < 7
  pub holds : items_held major arg ≡ n
  pub node : (ys : Items) → Goods ys → count ys ≡ n → NodeIs s len ys

abbrev pub StepIs : ℕ → List ℕ → StepRead → Type 0
StepIs left s (Err why) = FaultIs left s why.refusal why.place
StepIs left s (Ok (Passed len)) = LeafIs s len
StepIs left s (Ok (Opened len n pairs)) = OpeningIs s len (items_of n pairs)

-- one of two numbers
one_of : (m low : ℕ) → low ≤ m → m < 2 + low → m ≡ cond (eqb m (1 + low)) (1 + low) low
one_of m low lo hi = elim (ℕ_discrete m (1 + low)) [ yes e ↦ e ∙ rw (eq-eqb m (1 + low) e) | no n ↦ rw (ne_eqb m (1 + low) n) (omega (arith, n)) ]

-- what the head of an array, a map or a tag opens: as many items as it holds
pub opens_held : (major arg len : ℕ) → (n : ℕ) × (pairs : Bool) × (opens major arg len ≡ Opened len n pairs) × (items_of n pairs ≡ items_held major arg)
unfolding opens items_held items_of pick
opens_held major arg len = one_test Held (eqb major 4) (arg, false, refl, refl) (one_test Held (eqb major 5) (arg, true, refl, refl) (1, false, refl, refl))
  where
    Held : Step → ℕ → Type 0
    Held x k = (n : ℕ) × (pairs : Bool) × (x ≡ Opened len n pairs) × (items_of n pairs ≡ k)

module _ (left : ℕ) (s : List ℕ) (major arg len : ℕ) (h : HeadIs s major arg len) where
  -- the head, by its major type
  of : (m : ℕ) → major ≡ m → HeadIs s m arg len
  of m e = subst (λ (k : ℕ). HeadIs s k arg len) e h

  -- the head, and what follows it
  split : s ≡ head_bytes major h.width arg ++ drop len s
  split = sym (take-append-drop len s) ∙ ap (λ (t : List ℕ). t ++ drop len s) h.bytes

  number : (negative : Bool) → major ≡ cond negative 1 0 → LeafIs s len
  unfolding encode depth
  number negative e =
      let k = of (cond negative 1 0) e in
      record { item = Item.number negative k.width arg; good = k.right; flat = refl; bytes = sym k.bytes }

  simple : major ≡ 7 → LeafIs s len
  unfolding encode depth
  simple e =
      let k = of 7 e in
      record { item = Item.simple k.width arg; good = k.right; flat = refl; bytes = sym k.bytes }

  string : Bytes s → (text : Bool) → major ≡ cond text 3 2 → arg ≤ length s - len → LeafIs s (len + arg)
  unfolding encode depth
  string b text e room =
      let k = of (cond text 3 2) e in
      let there : arg ≤ length (drop len s) = omega (arith, length-drop len s) in
      let long : length (take arg (drop len s)) ≡ arg = length-take-le arg (drop len s) there in
      record {
        item = Item.string text k.width (take arg (drop len s));
        good = (rw long k.right, bytes_take arg (drop len s) (bytes_drop len s b));
        flat = refl;
        bytes = rw (long, ← k.bytes) (sym (take-add len arg s));
      }

  array : major ≡ 4 → (ys : Items) → Goods ys → count ys ≡ arg → NodeIs s len ys
  unfolding encode depth
  array e ys g c =
      let k = of 4 e in
      record { item = Item.array k.width ys; good = (rw c k.right, g); deeper = refl; bytes = rw (c, ← k.bytes) }

  map : major ≡ 5 → (ys : Items) → Goods ys → count ys ≡ 2 * arg → NodeIs s len ys
  unfolding encode depth
  map e ys g c =
      let k = of 5 e in
      let half : count ys / 2 ≡ arg = omega arith in
      record { item = Item.map k.width ys; good = (rw half k.right, omega arith, g); deeper = refl; bytes = rw (half, ← k.bytes) }

  tagged : major ≡ 6 → (ys : Items) → Goods ys → count ys ≡ 1 → NodeIs s len ys
  unfolding encode depth count
  tagged e Items.done g c = absurd (omega arith)
  tagged e (Items.more y Items.done) g c =
      let k = of 6 e in
      record { item = Item.tagged k.width arg y; good = (k.right, g.0); deeper = omega arith; bytes = rw (append-nil, ← k.bytes) }
  tagged e (Items.more y (Items.more z zs)) g c = absurd (omega arith)

  -- as many items as an array, a map or a tag holds
  filled : 4 ≤ major → major < 7 → (ys : Items) → Goods ys → count ys ≡ items_held major arg → NodeIs s len ys
  unfolding items_held
  filled lo hi ys g =
      pick-case Made (eqb major 4) (λ e. array (eqb-true major 4 e) ys g)
      (λ e. pick-case Made (eqb major 5) (λ f. map (eqb-true major 5 f) ys g) (λ f. tagged (omega (arith, eqb-false major 4 e, eqb-false major 5 f)) ys g))
    where
      Made : ℕ → Type 0
      Made n = count ys ≡ n → NodeIs s len ys

  opening : (n : ℕ) → 4 ≤ major → major < 7 → items_held major arg ≡ n → OpeningIs s len n
  opening n lo hi holds =
      record {
        major = major;
        width = h.width;
        arg = arg;
        bytes = h.bytes;
        right = h.right;
        low = lo;
        high = hi;
        holds = holds;
        node = λ ys g c. filled lo hi ys g (c ∙ sym holds);
      }

  -- an array, a map or a tag
  opens_is : 4 ≤ major → major < 7 → StepIs left s (Ok (opens major arg len))
  opens_is lo hi = let (n, pairs, is, held) = opens_held major arg len in rw is (opening (items_of n pairs) lo hi (sym held))

  deep : 4 ≤ major → major < 7 → left ≡ 0 → FaultIs left s R.TooDeep 0
  unfolding place_of pick
  deep lo hi none = (Fault.deep major h.width arg (drop len s) split h.right lo hi none, refl)

  short : 2 ≤ major → major < 4 → length s - len < arg → FaultIs left s R.Cut (length s)
  unfolding place_of pick
  short lo hi less = (Fault.short major h.width arg (drop len s) split h.right lo hi (rw (length-drop len s) less), refl)

  step_of_is : Bytes s → StepIs left s (step_of left (length s) major arg len)
  unfolding step_of
  step_of_is b =
      pick-case (StepIs left s) _ (λ e. simple (eqb-true major 7 e))
      (λ e.
      pick-case (StepIs left s) _
      (λ f.
      let lo = leb-true 4 major f in
      let hi : major < 7 = omega (arith, eqb-false major 7 e, h.kind) in
      pick-case (StepIs left s) _ (λ g. deep lo hi (eqb-true left 0 g)) (λ g. opens_is lo hi))
      (λ f.
      let hi = leb-false 4 major f in
      pick-case (StepIs left s) _
      (λ g.
      let lo = leb-true 2 major g in
      pick-case (StepIs left s) _ (λ t. string b (eqb major 3) (one_of major 2 lo hi) (leb-true arg (length s - len) t))
      (λ t. short lo hi (leb-false arg (length s - len) t)))
      (λ g. number (eqb major 1) (one_of major 0 zero-le (leb-false 2 major g)))))

pub step_is : (left : ℕ) (s : List ℕ) → Bytes s → StepIs left s (step_at left s)
unfolding step_at step_from
step_is left s b = by (head_at s) refl
  where
    by : (x : HeadRead) → head_at s ≡ x → StepIs left s (step_from left (length s) x)
    by (Err why) e = head_fault left s why.refusal why.place b e
    by (Ok head) e = step_of_is left s head.major head.arg head.len (head_is s b e) b
