-- The head of a count replaced by that of another count: an objective, and a pair, is read as it was but for that
-- count. What stands before it is read as it was, and what follows it as it was, at another place.
-- Assumes nothing.
use mathlib.Core.Path.{◌≡◌, refl, sym, ap, ◌∙◌, subst}
use mathlib.Core.List.{List, ◌++◌}
use mathlib.Core.Bool.{true, false}
use Prim.Native.Nat.{ℕ, ◌+◌, ◌-◌, ◌≤◌, ◌<◌}
use native.Mathlib.Nat.{add-zero, add_assoc}
use native.Mathlib.Omega.{arith}
use lib.Dec.{ltb, eqb, lit<}
use lib.ListN.{length, take, drop, length-drop}
use lib.Seq.{drop-append-le, drop-append_seam, drop-append-add, take-append-le}
use borrow.Author.Tests.{ltb-false, eqb-true, eqb-false, le-leb, le-ltb}
use Rattle.options.specs.Text.{Noted}
use Rattle.std.specs.Prelude.{Some, None}
use Rattle.std.specs.Prelude.{Ok, Err}
use Rattle.options.proofs.Same.{part_same, paired_same}
use Rattle.options.specs.Part.{Read, departs, part}
use Rattle.options.specs.declared.pair.Pair.{Pair}
use Rattle.options.specs.Pair.{paired}
use Rattle.base.specs.Pick.{pick}
use Rattle.base.proofs.Picks.{pick-case, both}
use Rattle.cbor.specs.declared.token.Token.{Token}
use Rattle.cbor.specs.Put.{head}
use Rattle.cbor.specs.Token.{token_at, size_at, items_in, up_to}
use Rattle.cbor.specs.Tree.{shortest, encode}
use Rattle.cbor.proofs.HeadExact.{shortest_right}
use Rattle.cbor.proofs.Kept.{token_kept}
use Rattle.cbor.proofs.Tokens.{token_is, token_has, is_array, is_number, Shifted, token_first}
use Rattle.options.specs.declared.Span.{Span}
use Rattle.options.specs.declared.objective.Objective.{Objective}
use Rattle.options.specs.declared.locator.Locator.{Locator}
use Rattle.options.specs.Pair.{PairTag}
use Rattle.options.specs.Text.{first_of, held, content_of, content_in, bad_text}
use Rattle.options.specs.Objective.{long_name, objective_from, objective_named, objective_in}
use Rattle.options.specs.Locator.{locator_in}
use Rattle.options.specs.Pair.{is_empty, pair_levels, pair_tagged, pair_tail, pair_led, pair_in}
use Rattle.options.proofs.Fits.{objective_within, empty_is, pair_within}
use Rattle.options.proofs.Texts.{none_first}
use Rattle.options.proofs.Moved.{LocatorMoves, locator_moves}
use Rattle.message_laws.proofs.Bridge.{number_token}

-- what follows a front and a head
after_two : (u h r : List ℕ) (x : ℕ) → drop (length u + length h + x) (u ++ (h ++ r)) ≡ drop x r
after_two u h r x =
    ap (λ (k : ℕ). drop k (u ++ (h ++ r))) (add_assoc (length u) (length h) x) ∙ drop-append-add u (h ++ r) (length h + x) ∙ drop-append-add h r x

-- a span in the front holds what it held
pub held_kept : (u v w : List ℕ) (i : Span) → i.at + i.len ≤ length u → held (u ++ w) i ≡ held (u ++ v) i
held_kept u v w i h = front w ∙ sym (front v)
  where
    front : (x : List ℕ) → held (u ++ x) i ≡ held u i
    front x = ap (take i.len) (drop-append-le i.at u x (omega arith)) ∙ take-append-le i.len (drop i.at u) x (omega (arith, length-drop i.at u))

-- where the head h of an objective's count stands, after the front u of what begins at `base`
pub record CountAt (u h : List ℕ) (base : ℕ) (o : Objective) : Type 0 where
  pub from : o.count_at ≡ base + length u
  pub end : o.value.at ≡ base + (length u + length h)

-- seen from a place p bytes further on
count_beyond : {u h : List ℕ} {base base' : ℕ} {o : Objective} (p : ℕ) → p ≤ length u → base' ≡ base + p → CountAt u h base o → CountAt (drop p u) h base' o
count_beyond {u} p within e c = record { from = omega (arith, c.from, length-drop p u); end = omega (arith, c.end, length-drop p u) }

-- what had so many bytes, the head h of its count after the front u, is answered with an objective of the count n, its
-- shortest head and as many bytes after it
pub record Recounted {X : Type 0} (u h : List ℕ) (n : ℕ) (read : X) (answer : Objective → ℕ → X) (size : ℕ) : Type 0 where
  pub rest : ℕ
  pub objective : Objective
  pub sized : size ≡ length u + length h + rest
  pub is : read ≡ answer objective (length u + length (head 0 n) + rest)
  pub count : objective.count ≡ n

-- so is what has p bytes before it
pub further : {X Y : Type 0} {u h : List ℕ} {n : ℕ} {read : X} {answer : Objective → ℕ → X} {size : ℕ} (p : ℕ) (read' : Y) (answer' : Objective → ℕ → Y)
    → ((o : Objective) (e : ℕ) → read ≡ answer o e → read' ≡ answer' o (p + e)) → Recounted (drop p u) h n read answer size
    → Recounted u h n read' answer' (p + size)
further {u = u} {n = n} p read' answer' then x =
    let to : p + (length (drop p u) + length (head 0 n) + x.rest) ≡ length u + length (head 0 n) + (x.rest + (p - length u)) =
    omega (arith, length-drop p u) in
    record {
      rest = x.rest + (p - length u);
      objective = x.objective;
      sized = omega (arith, x.sized, length-drop p u);
      is = then x.objective _ x.is ∙ ap (answer' x.objective) to;
      count = x.count;
    }

-- a departure is no objective, and no pair
no_objective : {place : ℕ} {o : Objective} {size : ℕ} → departs place ≡ part o size None None → ⊥
no_objective q = let z : ◌≡◌ {A = ℕ} 0 1 = cc in omega arith

no_pair : {place : ℕ} {o : Objective} {t : PairTag} {size : ℕ} → departs place ≡ paired o t size None None → ⊥
no_pair q = let z : ◌≡◌ {A = ℕ} 0 1 = cc in omega arith

-- a pair without fault is of an objective without fault
tail_none : (base : ℕ) (s : List ℕ) (at : ℕ) (o o' : Objective) (bad long : Noted) {t : PairTag} {size : ℕ}
    → pair_tail base s at o bad long ≡ paired o' t size None None → (o ≡ o') × (bad ≡ None) × (long ≡ None)
unfolding pair_tail pair_tagged
tail_none base s at o o' bad long {t} {size} = both P (is_empty (token_at s at)) (λ q. let (same, _, _, bad, long) = paired_same q in (same, bad, long)) (by
    (locator_in (base + at) (drop at s)))
  where
    P : Read Pair → Type 0
    P x = x ≡ paired o' t size None None → (o ≡ o') × (bad ≡ None) × (long ≡ None)

    by : (x : Read Locator) → P (pair_tagged at o bad long x)
    by (Err e) q = absurd (no_pair q)
    by (Ok l) q = let (same, _, _, none, long) = paired_same q in (same, (none_first bad l.bad none).0, long)

-- the head of the count and what follows it, and another count
module _ (h r : List ℕ) (n : ℕ) where
  -- the bytes after a front, with the head and with the shortest head of the other count
  abbrev old : List ℕ → List ℕ
  old u = u ++ (h ++ r)

  abbrev new : List ℕ → List ℕ
  new u = u ++ (head 0 n ++ r)

  -- the token of the other count
  abbrev counted : List ℕ → Token
  counted u = record { at = length u; major = 0; arg = n; body = length u + length (head 0 n); next = length u + length (head 0 n) }

  -- what stands after the count
  pub rest_kept : (u : List ℕ) (x : ℕ) → drop (length u + length (head 0 n) + x) (new u) ≡ drop (length u + length h + x) (old u)
  rest_kept u x = after_two u (head 0 n) r x ∙ sym (after_two u h r x)

  -- a token before the count
  pub front_token : (u : List ℕ) (at : ℕ) → (token_at (old u) at).major < 8 → (token_at (old u) at).next ≤ length u → token_at (new u) at ≡ token_at (old u) at
  front_token u = token_kept u (h ++ r) (head 0 n ++ r)

  -- the second item of a pair, after an objective
  tail_recounted : (u : List ℕ) (base : ℕ) (o o' : Objective) (rest : ℕ) {t : PairTag} {size : ℕ}
      → pair_tail base (old u) (length u + length h + rest) o None None ≡ paired o t size None None
      → (t' : PairTag) × (rest' : ℕ) × (size ≡ length u + length h + rest')
      × (pair_tail base (new u) (length u + length (head 0 n) + rest) o' None None ≡ paired o' t' (length u + length (head 0 n) + rest') None None)
  unfolding pair_tail pair_tagged is_empty pick
  tail_recounted u base o o' rest {t} {size} =
      pick-case P (is_empty w)
      (λ e q.
      let there : first.major ≡ 8 → ⊥ = λ none. omega (arith, here.major, (empty_is w e).0) in
      let all : w.next ≡ size = (paired_same q).2 in (
        None,
        rest + first.next,
        omega (arith, here.next there),
        rw (same ∙ e, moved.next there, add_assoc (length u + length (head 0 n)) rest first.next),
      ))
      (λ e. by e (locator_in (base + at) (drop at (old u))) refl)
    where
      at : ℕ
      at = length u + length h + rest

      at' : ℕ
      at' = length u + length (head 0 n) + rest

      w : Token
      w = token_at (old u) at

      first : Token
      first = token_at (drop at (old u)) 0

      here : Shifted at w first
      here = token_first (old u) at

      moved : Shifted at' (token_at (new u) at') first
      moved = rw (rest_kept u rest) at (token_first (new u) at')

      same : is_empty (token_at (new u) at') ≡ is_empty w
      same = rw (here.major, here.arg, moved.major, moved.arg)

      Found : Type 0
      Found =
          (t' : PairTag) × (rest' : ℕ) × (size ≡ length u + length h + rest')
          × (pair_tail base (new u) at' o' None None ≡ paired o' t' (length u + length (head 0 n) + rest') None None)

      P : Read Pair → Type 0
      P x = x ≡ paired o t size None None → Found

      found : is_empty w ≡ false → (l : Locator) (size₁ : ℕ) → at + size₁ ≡ size → locator_in (base + at') (drop at (old u)) ≡ part l size₁ None None → Found
      found e l size₁ all g = (Some l, rest + size₁, omega arith, rw (same ∙ e, rest_kept u rest, g, add_assoc (length u + length (head 0 n)) rest size₁))

      by : is_empty w ≡ false → (x : Read Locator) → locator_in (base + at) (drop at (old u)) ≡ x → P (pair_tagged at o None None x)
      by e (Err d) f = λ q. absurd (no_pair q)
      by e (Ok l) f =
          λ q.
          let (_, _, all, none, _) = paired_same q in
          let (l', g) = subst (λ (x : Read Locator). LocatorMoves x (locator_in (base + at') (drop at (old u)))) f
          (locator_moves (base + at) (base + at') (drop at (old u))) none in
          found e l' l.size all g

  -- a count of a byte
  module _ (few : n ≤ 255) where
    count_token : (u : List ℕ) → token_at (new u) (length u) ≡ counted u
    unfolding encode head
    count_token u =
        number_token {w = shortest n}
        (record {
          good = shortest_right 0 n (lit< tt) (omega arith);
          is = drop-append_seam u (head 0 n ++ r) ∙ ap (λ (t : List ℕ). head 0 n ++ t) (sym (rw add-zero at (after_two u (head 0 n) r 0)));
          end = refl;
        })

    -- an objective from its name on, which stands at `at`
    named_recounted : (u : List ℕ) (levels base items at : ℕ) (o : Objective) (size : ℕ) → CountAt u h base o
        → objective_named levels base (old u) items (token_at (old u) at) ≡ part o size None None
        → ((token_at (old u) at).next ≤ length u)
        × Recounted u h n (objective_named levels base (new u) items (token_at (old u) at)) (λ o e. part o e None None) size
    unfolding objective_named objective_from size_at up_to pick
    named_recounted u levels base items at o size place =
        pick-case P (ltb 15 (up_to 15 f)) (λ _ q. absurd (no_objective q))
        (λ t₁. pick-case P (ltb 255 (up_to 255 c)) (λ _ q. absurd (no_objective q))
        (λ _. pick-case P (eqb items 3) (λ t₂ q. let (made, all, bad, long) = part_same q in got t₁ 0 made (omega arith) bad long (rw (t₂, add-zero)))
        (λ t₂. pick-case P (eqb (size_at levels (old u) c.next) 0) (λ _ q. absurd (no_objective q))
        (λ t₃ q. let (made, all, bad, long) = part_same q in got t₁ (size_at levels (old u) c.next) made all bad long (rw (t₂, t₃))))))
      where
        m : Token
        m = token_at (old u) at

        f : Token
        f = token_at (old u) m.next

        c : Token
        c = token_at (old u) f.next

        made : ℕ → Objective
        made rest = objective_from base m (up_to 15 f) (counted u) n rest

        Found : Type 0
        Found = (m.next ≤ length u) × Recounted u h n (objective_named levels base (new u) items m) (λ o e. part o e None None) size

        P : Read Objective → Type 0
        P x = x ≡ part o size None None → Found

        -- what is left to be tested
        last : ℕ → Read Objective
        last value =
            pick (eqb items 3) (part (made 0) (counted u).next None None)
            (pick (eqb value 0) (departs (base + (counted u).next)) (part (made value) ((counted u).next + value) None None))

        got : ltb 15 (up_to 15 f) ≡ false → (rest : ℕ) → objective_from base m (up_to 15 f) c (up_to 255 c) rest ≡ o → c.next + rest ≡ size
            → bad_text (content_in (old u) m) (base + m.at) ≡ None → long_name m (base + m.at) ≡ None
            → last (size_at levels (old u) c.next) ≡ part (made rest) (length u + length (head 0 n) + rest) None None → Found
        got t rest is all fine short chosen =
            let (flags, _) = is_number 15 f (ltb-false 15 (up_to 15 f) t) in
            let here : f.next ≡ length u = omega (arith, (token_is (old u) f.next c refl).here, ap (λ (x : Objective). x.count_at) is, place.from) in
            let from : c.next ≡ length u + length h = omega (arith, ap (λ (x : Objective). x.value.at) is, place.end) in
            let later : m.next + 1 ≤ f.next = (token_has (old u) m.next).some (omega arith) in
            let content : content_in (new u) m ≡ content_in (old u) m =
            held_kept u (h ++ r) (head 0 n ++ r) (content_of m) (omega (arith, (token_is (old u) at m refl).start)) in
            let value : drop (length u + length (head 0 n)) (new u) ≡ drop c.next (old u) =
            rw (add-zero (length u + length (head 0 n)), add-zero (length u + length h)) at (rest_kept u 0) ∙ ap (λ (k : ℕ). drop k (old u)) (sym from) in (
              omega arith,
              record {
                rest = rest;
                objective = made rest;
                sized = omega arith;
                is = rw (
                  front_token u m.next (omega arith) (omega arith),
                  t,
                  ap (token_at (new u)) here ∙ count_token u,
                  le-leb n 255 few,
                  le-ltb 255 n few,
                  value,
                  content,
                  fine,
                  short,
                ) chosen;
                count = refl;
              },
            )

    -- an objective
    objective_recounted : (u : List ℕ) (levels base : ℕ) (o : Objective) (size : ℕ) → CountAt u h base o
        → objective_in levels base (old u) ≡ part o size None None
        → Recounted u h n (objective_in levels base (new u)) (λ o e. part o e None None) size
    unfolding objective_in pick
    objective_recounted u levels base o size place =
        pick-case P (eqb (items_in a) 0) (λ _ q. absurd (no_objective q))
        (λ t₁. pick-case P (eqb m.major 3)
        (λ t₂. pick-case P (ltb a.arg 3) (λ _ q. absurd (no_objective q))
        (λ t₃. pick-case P (ltb 4 a.arg) (λ _ q. absurd (no_objective q))
        (λ t₄ q. shown t₁ t₂ t₃ t₄ (named_recounted u levels base a.arg a.next o size place q))))
        (λ _ q. absurd (no_objective q)))
      where
        a : Token
        a = token_at (old u) 0

        m : Token
        m = token_at (old u) a.next

        P : Read Objective → Type 0
        P x = x ≡ part o size None None → Recounted u h n (objective_in levels base (new u)) (λ o e. part o e None None) size

        shown : eqb (items_in a) 0 ≡ false → eqb m.major 3 ≡ true → ltb a.arg 3 ≡ false → ltb 4 a.arg ≡ false
            → (m.next ≤ length u) × Recounted u h n (objective_named levels base (new u) a.arg m) (λ o e. part o e None None) size
            → Recounted u h n (objective_in levels base (new u)) (λ o e. part o e None None) size
        shown t₁ t₂ t₃ t₄ (low, x) =
            let four : a.major ≡ 4 = is_array a (eqb-false (items_in a) 0 t₁) in
            let three : m.major ≡ 3 = eqb-true m.major 3 t₂ in
            let later : a.next + 1 ≤ m.next = (token_has (old u) a.next).some (omega arith) in
            rw (front_token u 0 (omega arith) (omega arith), t₁, front_token u a.next (omega arith) low, t₂, t₃, t₄) x

    -- an objective that stands p bytes further on
    pub objective_beyond : (u : List ℕ) (levels base base' p : ℕ) (o : Objective) (size : ℕ) → base' ≡ base + p → CountAt u h base o
        → objective_in levels base' (drop p (old u)) ≡ part o size None None
        → (p ≤ length u) × Recounted (drop p u) h n (objective_in levels base' (drop p (new u))) (λ o e. part o e None None) size
    objective_beyond u levels base base' p o size e place got =
        let within : p ≤ length u = omega (arith, (objective_within levels (old u) base' p _ _ refl got).3, place.from) in (
          within,
          rw (drop-append-le p u (head 0 n ++ r) within)
              (objective_recounted (drop p u) levels base' o size (count_beyond p within e place) (rw (drop-append-le p u (h ++ r) within) at got)),
        )

    -- a pair
    pair_recounted : (u : List ℕ) (base : ℕ) (o : Objective) (t : PairTag) (size : ℕ) → CountAt u h base o → pair_in base (old u) ≡ paired o t size None None
        → (t' : PairTag) × Recounted u h n (pair_in base (new u)) (λ o e. paired o t' e None None) size
    unfolding pair_in pair_led pick
    pair_recounted u base o t size place =
        pick-case P (eqb (items_in a) 0) (λ _ q. absurd (no_pair q)) (λ t₁. led t₁ (objective_in pair_levels (base + a.next) (drop a.next (old u))) refl)
      where
        a : Token
        a = token_at (old u) 0

        P : Read Pair → Type 0
        P x = x ≡ paired o t size None None → (t' : PairTag) × Recounted u h n (pair_in base (new u)) (λ o e. paired o t' e None None) size

        -- after its objective
        tailed : eqb (items_in a) 0 ≡ false → eqb a.arg 2 ≡ true → (size₁ : ℕ) → pair_tail base (old u) (a.next + size₁) o None None ≡ paired o t size None None
            → (a.next ≤ length u) × Recounted (drop a.next u) h n (objective_in pair_levels (base + a.next) (drop a.next (new u)))
            (λ o e. part o e None None) size₁
            → (t' : PairTag) × Recounted u h n (pair_in base (new u)) (λ o e. paired o t' e None None) size
        tailed t₁ t₂ size₁ q (within, x) =
            let from : a.next + size₁ ≡ length u + length h + x.rest = omega (arith, x.sized, length-drop a.next u) in
            let to : a.next + (length (drop a.next u) + length (head 0 n) + x.rest) ≡ length u + length (head 0 n) + x.rest =
            omega (arith, length-drop a.next u) in
            let first = front_token u 0 (omega (arith, is_array a (eqb-false (items_in a) 0 t₁))) within in
            let (t', rest, sized, is) = tail_recounted u base o x.objective x.rest (rw from at q) in
            (t', record { rest = rest; objective = x.objective; sized = sized; is = rw (first, t₁, x.is, t₂, to) is; count = x.count })

        led : eqb (items_in a) 0 ≡ false → (x : Read Objective) → objective_in pair_levels (base + a.next) (drop a.next (old u)) ≡ x
            → P (pair_led base (old u) a.arg a.next x)
        led t₁ (Err d) e = λ q. absurd (no_pair q)
        led t₁ (Ok got) e =
            pick-case P (eqb a.arg 2)
            (λ t₂ q.
            let (same, fine, short) = tail_none base (old u) (a.next + got.size) got.value o got.bad got.long q in
            tailed t₁ t₂ got.size (rw (same, fine, short) at q)
            (objective_beyond u pair_levels base (base + a.next) a.next o got.size refl place (rw (same, fine, short) at e)))
            (λ _ q. absurd (no_pair q))

    -- a pair that stands p bytes further on
    pub pair_beyond : (u : List ℕ) (base base' p : ℕ) (o : Objective) (t : PairTag) (size : ℕ) → base' ≡ base + p → CountAt u h base o
        → pair_in base' (drop p (old u)) ≡ paired o t size None None
        → (p ≤ length u) × (t' : PairTag) × Recounted (drop p u) h n (pair_in base' (drop p (new u))) (λ o e. paired o t' e None None) size
    pair_beyond u base base' p o t size e place got =
        let within : p ≤ length u = omega (arith, (pair_within (old u) base' p _ _ refl got).3, place.from) in
        let (t', x) = pair_recounted (drop p u) base' o t size (count_beyond p within e place) (rw (drop-append-le p u (h ++ r) within) at got) in
        (within, t', rw (drop-append-le p u (head 0 n ++ r) within) x)
