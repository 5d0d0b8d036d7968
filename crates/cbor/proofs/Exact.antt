-- What the walk has passed before its answer: `parse`, whole items and then the end, or the first fault. So it accepts
-- nothing but encodings: `item_exact`, where it answers `Ends e`, the first e bytes are the encoding of an item.
-- Assumes nothing.
use Rattle.std.specs.Prelude.{Ok, Err}
use Rattle.refusal.specs.declared.Refusal.{Refusal}
use Rattle.cbor.specs.declared.item.Step.TheVariants.{Passed, Opened}
use Rattle.cbor.specs.Item.{ItemRead, StepRead}
use mathlib.Core.Path.{◌≡◌, refl, sym, ap, ◌∙◌, subst}
use mathlib.Core.Logic.{◌⊎◌, inl, inr}
use mathlib.Core.List.{List, [], ◌∷◌, ◌++◌, append_assoc, append-nil}
use Prim.Native.Nat.{ℕ, zero, suc, ◌+◌, ◌-◌, ◌≤◌, ◌<◌}
use native.Mathlib.Nat.{le_refl, add-zero}
use native.Mathlib.Omega.{arith}
use lib.ListN.{length, take, drop, length-append, take-append-drop, length-drop}
use lib.Seq.{length-take-le, take_at}
use Rattle.base.specs.BigEndian.{Bytes}
use Rattle.base.proofs.Picks.{one_test}
use Rattle.base.proofs.Parts.{bytes_drop}
use Rattle.cbor.specs.Item.{step_at, items_of, left_under, next, run, enough, first_item}
use Rattle.cbor.specs.Tree.{Item, Items, count, encode, encodes, depth, depths, Good, Goods, ItemIs, head_bytes}
use Rattle.cbor.specs.Fault.{is_cut, Fault, Begun, encode_begun, place_of, FirstFault}
use Rattle.cbor.proofs.Bounds.{StepOk, step_ok}
use Rattle.cbor.proofs.HeadFault.{FaultIs}
use Rattle.cbor.proofs.Steps.{LeafIs, NodeIs, StepIs, step_is, OpeningIs}

-- the first `used` bytes of s are n items, of so many levels at most, and then what P says of the rest
pub record Level (P : List ℕ → ℕ → Type 0) (n left : ℕ) (s : List ℕ) (used : ℕ) : Type 0 where
  pub items : Items
  pub good : Goods items
  pub counted : count items ≡ n
  pub shallow : depths items ≤ left
  pub rest : List ℕ
  pub is : s ≡ encodes items ++ rest
  pub after : ℕ
  pub sum : used ≡ length (encodes items) + after
  pub below : P rest after

-- a level that lacks nothing
nothing : (P : List ℕ → ℕ → Type 0) (left : ℕ) (s : List ℕ) (used : ℕ) → P s used → Level P 0 left s used
unfolding encode depth count
nothing P left s used l =
    record { items = Items.done; good = tt; counted = refl; shallow = omega arith; rest = s; is = refl; after = used; sum = omega arith; below = l }

-- one item more in front
before : (x : Item) (P : List ℕ → ℕ → Type 0) (n left : ℕ) (s t : List ℕ) (used : ℕ) → Good x → depth x ≤ left → s ≡ encode x ++ t
    → Level P n left t used → Level P (suc n) left s (length (encode x) + used)
unfolding encode depth count
before x P n left s t used g d e l =
    record {
      items = Items.more x l.items;
      good = (g, l.good);
      counted = ap suc l.counted;
      shallow = omega (arith, l.shallow);
      rest = l.rest;
      is = e ∙ ap (λ (r : List ℕ). encode x ++ r) l.is ∙ sym (append_assoc (encode x) (encodes l.items) l.rest);
      after = l.after;
      sum = omega (arith, l.sum, length-append (encode x) (encodes l.items));
      below = l.below;
    }

-- an item in front
leaf_front : (s : List ℕ) (len : ℕ) → len ≤ length s → (i : LeafIs s len) → (length (encode i.item) ≡ len) × (s ≡ encode i.item ++ drop len s)
leaf_front s len h i = (ap length i.bytes ∙ length-take-le len s h, rw i.bytes (sym (take-append-drop len s)))

node_front : (s : List ℕ) (len : ℕ) (ys : Items) → len ≤ length s → (i : NodeIs s len ys) (rest : List ℕ) → drop len s ≡ encodes ys ++ rest
    → (length (encode i.item) ≡ len + length (encodes ys)) × (s ≡ encode i.item ++ rest)
node_front s len ys h i rest e = (
  ap length i.bytes ∙ length-append (take len s) (encodes ys) ∙ ap (λ (m : ℕ). m + length (encodes ys)) (length-take-le len s h),
  sym (take-append-drop len s) ∙ rw (i.bytes, e) (sym (append_assoc (take len s) (encodes ys) rest)),
)

-- a place further on
pub place_shift : (refusal : Refusal) (k head end : ℕ) → k + place_of refusal head end ≡ place_of refusal (k + head) (k + end)
unfolding place_of
place_shift refusal k head end = one_test (λ (a b : ℕ). k + a ≡ b) (is_cut refusal) refl refl

-- ---- what an answer says of the bytes: where it is, of those after the last item, and of those inside a level
abbrev end_of : ItemRead → ℕ
end_of (Ok e) = e
end_of (Err why) = why.place

abbrev Ended : ItemRead → ℕ → Type 0
Ended (Ok e) p = p ≡ 0
Ended (Err why) p = ⊥

abbrev Failed : ItemRead → ℕ → List ℕ → ℕ → Type 0
Failed (Ok e) left s p = ⊥
Failed (Err why) left s p = FirstFault left s why.refusal p

-- a fault of the first head
first_is : (left : ℕ) (s : List ℕ) (refusal : Refusal) (place : ℕ) → FaultIs left s refusal place → FirstFault left s refusal place
unfolding encode_begun
first_is left s refusal place f =
    record { begun = []; unfinished = tt; rest = s; split = refl; fault = subst (λ (n : ℕ). Fault n s refusal) (omega arith) f.0; at = f.1 }

-- a level opened around the first fault
around : (x : ItemRead) (left : ℕ) (s : List ℕ) (len m k p : ℕ) → len ≤ length s → 1 ≤ left → (i : OpeningIs s len m) → k < m
    → Level (Failed x (left - 1)) k (left - 1) (drop len s) p → Failed x left s (len + p)
unfolding encode_begun
around (Ok e) left s len m k p h some i lt l = absurd l.below
around (Err why) left s len m k p h some i lt l =
    let f = l.below in
    let b : Begun = record { major = i.major; width = i.width; arg = i.arg; items = l.items } in
    let head = head_bytes i.major i.width i.arg in
    let inner = encodes l.items in
    let long : length head ≡ len = ap length (sym i.bytes) ∙ length-take-le len s h in
    let whole : len + (length inner + length l.rest) ≡ length s =
    omega (arith, h, length-drop len s, ap length l.is ∙ length-append inner l.rest) in
    let split : s ≡ (head ++ (inner ++ encode_begun f.begun)) ++ f.rest =
    sym (take-append-drop len s)
    ∙ rw (i.bytes, l.is, f.split) (simp append_assoc) in
    record {
      begun = b ∷ f.begun;
      unfinished = (
        record {
          right = i.right;
          low = i.low;
          high = i.high;
          good = l.good;
          fewer = omega (arith, l.counted, i.holds);
          shallow = omega (arith, l.shallow);
        },
        f.unfinished,
      );
      rest = f.rest;
      split = split;
      fault = subst (λ (n : ℕ). Fault n f.rest why.refusal) (omega arith) f.fault;
      at =
          ap (λ (n : ℕ). len + n) (l.sum ∙ ap (λ (n : ℕ). length inner + n) f.at ∙ place_shift why.refusal (length inner) _ _)
          ∙ place_shift why.refusal len _ _
          ∙ rw (length-append head (inner ++ encode_begun f.begun), length-append inner (encode_begun f.begun), long)
          (ap (place_of why.refusal (len + (length inner + length (encode_begun f.begun)))) whole);
    }

module _ (most : ℕ) (x : ItemRead) where
  -- s goes as the stack says up to the end, or up to the first fault, at p
  abbrev pub Goes : List ℕ → List ℕ → ℕ → Type 0
  Goes [] s p = Ended x p
  Goes (n ∷ stack) s p =
      Level (Goes stack) n (most - length stack) s p ⊎ ((k : ℕ) × (k < n) × Level (Failed x (most - length stack)) k (most - length stack) s p)

  -- a fault here
  fault_here : (n : ℕ) (s stack : List ℕ) (p : ℕ) → Failed x (most - length stack) s p → Goes (suc n ∷ stack) s p
  fault_here n s stack p f = inr (0, omega arith, nothing _ _ s p f)

  -- one item more in front
  after_item : (y : Item) (n : ℕ) (s t stack : List ℕ) (p : ℕ) → Good y → depth y ≤ most - length stack → s ≡ encode y ++ t
      → Goes (n ∷ stack) t p → Goes (suc n ∷ stack) s (length (encode y) + p)
  after_item y n s t stack p g d e (inl l) = inl (before y (Goes stack) n _ s t p g d e l)
  after_item y n s t stack p g d e (inr (k, lt, l)) = inr (suc k, omega arith, before y _ k _ s t p g d e l)

  -- a step, where what follows it is known
  stepped : (go : ℕ → List ℕ → List ℕ → ItemRead) (f at n : ℕ) (s stack : List ℕ) → Bytes s → enough s (suc n ∷ stack) ≤ suc f
      → ((at' : ℕ) (s' stack' : List ℕ) → Bytes s' → enough s' stack' ≤ f → go at' s' stack' ≡ x
      → (p : ℕ) × (end_of x ≡ at' + p) × Goes stack' s' p)
      → (z : StepRead) → StepOk (most - length stack) (length s) z → StepIs (most - length stack) s z
      → next go at s (n ∷ stack) z ≡ x → (p : ℕ) × (end_of x ≡ at + p) × Goes (suc n ∷ stack) s p
  unfolding next enough encode_begun
  stepped go f at n s stack b turns rec (Err why) ok is q =
      let P : ItemRead → Type 0 = λ y. (end_of y ≡ at + why.place) × Failed y (most - length stack) s why.place in
      let (sum, f) = subst P q (refl, first_is (most - length stack) s why.refusal why.place is) in
      (why.place, sum, fault_here n s stack why.place f)
  stepped go f at n s stack b turns rec (Ok (Passed len)) ok is q =
      let d = length-drop len s in
      let (p, sum, l) = rec (at + len) (drop len s) (n ∷ stack) (bytes_drop len s b) (omega arith) q in
      let (long, split) = leaf_front s len ok.1 is in
      (length (encode is.item) + p, omega arith, after_item is.item n s (drop len s) stack p is.good (omega (arith, is.flat)) split l)
  stepped go f at n s stack b turns rec (Ok (Opened len k pairs)) ok is q =
      let d = length-drop len s in
      let (p, sum, l) = rec (at + len) (drop len s) (items_of k pairs ∷ n ∷ stack) (bytes_drop len s b) (omega arith) q in
      opened p sum l
    where
      opened : (p : ℕ) → end_of x ≡ at + len + p → Goes (items_of k pairs ∷ n ∷ stack) (drop len s) p → (p : ℕ) × (end_of x ≡ at + p) × Goes (suc n ∷ stack) s p
      opened p sum (inl l) =
          let node = is.node l.items l.good l.counted in
          let (long, split) = node_front s len l.items ok.0.1 node l.rest l.is in (
            length (encode node.item) + l.after,
            omega (arith, l.sum),
            after_item node.item n s l.rest stack l.after node.good (omega (arith, node.deeper, l.shallow)) split l.below,
          )
      opened p sum (inr (j, lt, l)) =
          let e : most - length (n ∷ stack) ≡ most - length stack - 1 = omega arith in (
            len + p,
            omega arith,
            fault_here n s stack (len + p) (around x (most - length stack) s len (items_of k pairs) j p ok.0.1 ok.1 is lt (rw e at l)),
          )

  pub parse : (f at : ℕ) (s stack : List ℕ) → Bytes s → enough s stack ≤ f → run most f at s stack ≡ x
      → (p : ℕ) × (end_of x ≡ at + p) × Goes stack s p
  unfolding run enough
  parse zero at s stack b turns q = absurd (omega arith)
  parse (suc f) at s [] b turns q =
      let (sum, l) = subst (λ (y : ItemRead). (end_of y ≡ at + 0) × Ended y 0) q (sym (add-zero at), refl) in
      (0, sum, l)
  parse (suc f) at s (zero ∷ stack) b turns q =
      let (p, sum, l) = parse f at s stack b (omega arith) q in
      (p, sum, inl (nothing (Goes stack) _ s p l))
  parse (suc f) at s (suc n ∷ stack) b turns q =
      stepped (run most f) f at n s stack b turns (λ at' s' stack' b' t' q'. parse f at' s' stack' b' t' q')
      (step_at (most - length stack) s) (step_ok _ s) (step_is _ s b) q

-- one item alone
only : (left : ℕ) (s rest : List ℕ) (e : ℕ) (xs : Items) → Goods xs → count xs ≡ 1 → depths xs ≤ left → s ≡ encodes xs ++ rest → e ≡ length (encodes xs)
    → ItemIs left s e
unfolding encode depth count
only left s rest e Items.done g c d is sum = absurd (omega arith)
only left s rest e (Items.more x Items.done) g c d is sum =
    let long : length (encode x) ≡ e = sym (sum ∙ ap length (append-nil (encode x))) in
    let split : s ≡ encode x ++ rest = is ∙ ap (λ (t : List ℕ). t ++ rest) (append-nil (encode x)) in
    record {
      item = x;
      good = g.0;
      shallow = omega arith;
      bytes = ap (take e) split ∙ take_at (encode x) rest e long;
      within = omega (arith, ap length split ∙ length-append (encode x) rest);
    }
only left s rest e (Items.more x (Items.more y ys)) g c d is sum = absurd (omega arith)

pub item_exact : (levels : ℕ) (s : List ℕ) (e : ℕ) → Bytes s → first_item levels s ≡ Ok e → ItemIs (left_under levels) s e
unfolding first_item
item_exact levels s e b q =
    let most = left_under levels in
    let (p, sum, l) = parse most (Ok e) (enough s (1 ∷ [])) 0 s (1 ∷ []) b (le_refl (enough s (1 ∷ []))) q in
    elim l [
      | inl l ↦ only most s l.rest e l.items l.good l.counted (omega (arith, l.shallow)) l.is (omega (arith, l.sum, l.below))
      | inr (k, lt, l) ↦ absurd l.below
    ]
