-- The judge of descriptions, held against what they say: it passes those that say something, with values that are
-- items.
-- Assumes nothing.
use Rattle.std.specs.Prelude.{Ok, Err}
use Rattle.cbor.specs.Item.{ItemRead}
use mathlib.Core.Path.{◌≡◌, refl, sym, ap, ◌∙◌, subst}
use mathlib.Core.Logic.{◌↔◌, ◌⊎◌, inl, inr}
use mathlib.Core.Bool.{Bool, true, false, false≢true}
use mathlib.Core.List.{List, [], ◌∷◌, append-nil}
use Prim.Native.Nat.{ℕ, zero, suc, ◌+◌, ◌*◌, ◌/◌, ◌%◌, ◌≤◌, ◌<◌}
use native.Mathlib.Decide.{dec_lt}
use native.Mathlib.Omega.{arith}
use native.Mathlib.Nat.{add-zero, zero-add}
use lib.Dec.{ltb, eqb}
use lib.ListN.{length, take, drop, get_or, length-take, length-drop, drop_of_length-le}
use lib.Seq.{take-length}
use borrow.Author.Tests.{ltb-false, eqb-true, eqb-false, le-ltb, eq-eqb}
use Rattle.options.specs.Text.{held}
use Rattle.base.specs.Pick.{pick}
use Rattle.base.specs.BigEndian.{Bytes}
use Rattle.base.specs.Lists.{Every}
use Rattle.base.proofs.Lists.{every_append}
use Rattle.base.proofs.Parts.{bytes_drop, bytes_take}
use Rattle.base.proofs.Picks.{pick-case, both, pick_same}
use Rattle.cbor.specs.Item.{first_item}
use Rattle.cbor.specs.Tree.{encode}
use Rattle.cbor.proofs.Accepts.{item_accepts}
use Rattle.cbor.proofs.Exact.{item_exact}
use Rattle.options.specs.declared.Span.{Span}
use Rattle.description.specs.declared.rows.ObjectiveRow.{ObjectiveRow}
use Rattle.description.specs.declared.rows.LocatorRow.{LocatorRow}
use Rattle.std.specs.Prelude.{Option, Some, None}
use Rattle.description.specs.declared.GivenObjective.{GivenObjective}
use Rattle.options.specs.declared.outcome.Outcome.{Outcome}
use Rattle.options.specs.declared.outcome.Outcome.TheVariants as E
use Rattle.description.specs.declared.Description.{Description}
use Rattle.description.specs.declared.Description.TheVariants as D
use Rattle.description.specs.Meaning.{locator_row, pair_row, objective_row, list_of, objective_row_of, obj_of}
use Rattle.description.specs.Meaning.{locator_row_at, objective_row_at, row_pair, pairs_of, extra_of, msg_of}
use Rattle.description.specs.Judge.{ok_discovery, ok_response, ok_flood, ok_parts, ok_list, ok_described, alone, whole, inside, ok_value, ok_item}
use Rattle.description.specs.Judge.{ok_objective_row, ok_locator_row, blank_locator_row, ok_none_or, all_from}
use Rattle.description.specs.Judge.{ok_each, ok_row, ok_rows, ok_pair, ok_pairs, ok_extra, ok_outcome}
use Rattle.writer_laws.specs.Says.{Inside, ObjectiveRowSays, LocatorRowSays, Blank, PairSays, Rows, ExtraSays, OutcomeSays, PartsSay}
use Rattle.writer_laws.proofs.Script.{Each, Valued}
use Rattle.writer_laws.proofs.Once.{ValuedObj, ValuedPair, ValuedMsg}

-- ---- tests
-- P says A, where G is given, and A says P
abbrev Tells : Type 0 → Type 0 → Type 0 → Type 0
Tells G P A = (G → P → A) × (A → P)

-- both tests
and_exactly : {t u : Bool} {G A B : Type 0} → Tells G (t ≡ true) A → Tells G (u ≡ true) B → Tells G (pick t u false ≡ true) (A × B)
unfolding pick
and_exactly {t = true} f g = (λ b h. (f.0 b refl, g.0 b h), λ h. g.1 h.1)
and_exactly {t = false} f g = (λ b h. absurd (false≢true h), λ h. absurd (false≢true (f.1 h.0)))

-- the second test, where the first fails
unless_exactly : {t u : Bool} {G A B : Type 0} → Tells G (t ≡ false) A → Tells G (u ≡ true) B → Tells G (pick t false u ≡ true) (A × B)
unfolding pick
unless_exactly {t = true} f g = (λ b h. absurd (false≢true h), λ h. absurd (false≢true (sym (f.1 h.0))))
unless_exactly {t = false} f g = (λ b h. (f.0 b refl, g.0 b h), λ h. g.1 h.1)

-- equal numbers
equal_exactly : {G : Type 0} (a b : ℕ) → Tells G (eqb a b ≡ true) (a ≡ b)
equal_exactly a b = (λ _. eqb-true a b, eq-eqb a b)

-- a least number
least_exactly : {G : Type 0} (a b : ℕ) → Tells G (ltb a b ≡ false) (b ≤ a)
least_exactly a b = (λ _. ltb-false a b, le-ltb a b)

-- no test
always : {G : Type 0} → Tells G (true ≡ true) (Unit {0})
always = (λ b h. tt, λ h. refl)

-- in other words
retold : {G P A B : Type 0} → Tells G P A → (A → B) → (B → A) → Tells G P B
retold f g h = (λ b p. g (f.0 b p), λ x. f.1 (h x))

-- ---- spans and values
-- a span in the source
inside_exactly : {G : Type 0} (source : List ℕ) (s : Span) → Tells G (inside source s ≡ true) (Inside source s)
unfolding inside
inside_exactly source s = retold (equal_exactly (length (held source s)) s.len) there back
  where
    there : length (take s.len (drop s.at source)) ≡ s.len → Inside source s
    there e =
        elim (dec_lt 0 s.len) [
          | yes z ↦ inr (omega (arith, length-take s.len (drop s.at source), length-drop s.at source))
          | no z ↦ inl (omega arith)
        ]

    back : Inside source s → length (take s.len (drop s.at source)) ≡ s.len
    back (inl z) = omega (arith, length-take s.len (drop s.at source))
    back (inr h) = omega (arith, length-take s.len (drop s.at source), length-drop s.at source)

-- bytes that are one item, and nothing else
whole_is : (bs : List ℕ) → Bytes bs → whole bs ≡ true → Valued bs
unfolding whole alone
whole_is bs b = go (first_item 0 bs) refl
  where
    found : (e : ℕ) → first_item 0 bs ≡ Ok e → e ≡ length bs → Valued bs
    found e q same =
        let i = item_exact 0 bs e b q in
        let all : bs ≡ encode i.item = sym (take-length bs) ∙ ap (λ (k : ℕ). take k bs) (sym same) ∙ i.bytes in
        subst Valued (sym all) (Valued.one i.item i.good i.shallow)

    go : (r : ItemRead) → first_item 0 bs ≡ r → alone (length bs) r ≡ true → Valued bs
    go (Err why) q h = absurd (false≢true h)
    go (Ok e) q h = found e q (eqb-true e (length bs) (sym (pick_same _) ∙ h))

-- and an item is
value_ok : (bs : List ℕ) → Valued bs → ok_value bs ≡ true
unfolding ok_value pick whole alone
value_ok _ Valued.none = refl
value_ok _ (Valued.one x g d) =
    let ends : first_item 0 (encode x) ≡ Ok (length (encode x)) = ap (first_item 0) (sym (append-nil (encode x))) ∙ item_accepts 0 x [] g d in
    both (λ r. r ≡ true) (eqb (length (encode x)) 0) refl (rw (ends, eq-eqb (length (encode x)) (length (encode x)) refl) refl)

-- a value: none, or an item
value_is : (bs : List ℕ) → Bytes bs → ok_value bs ≡ true → Valued bs
unfolding ok_value
value_is bs b =
    pick-case (λ r. r ≡ true → Valued bs) (eqb (length bs) 0)
    (λ e h. subst Valued (sym (drop_of_length-le bs {i = 0} (omega (arith, eqb-true (length bs) 0 e)))) Valued.none) (λ e h. whole_is bs b h)

-- the bytes of a span are bytes
pub bytes_held : (source : List ℕ) (s : Span) → Bytes source → Bytes (held source s)
bytes_held source s b = bytes_take s.len (drop s.at source) (bytes_drop s.at source b)

-- ---- rows
-- each of the first n
all_exactly : {G : Type 0} (p : ℕ → Bool) (P : ℕ → Type 0) → ((i : ℕ) → Tells G (p i ≡ true) (P i)) → (n i : ℕ)
    → Tells G (all_from p n i ≡ true) ((j : ℕ) → j < n → P (i + j))
unfolding all_from
all_exactly p P f zero i = (λ b h j l. absurd (omega arith), λ h. refl)
all_exactly p P f (suc n) i =
    retold (and_exactly (f i) (all_exactly p P f n (suc i)))
    (λ h j l. split h j l)
    (λ h. (rw add-zero at (h 0 (omega arith)), λ j l. rw step at (h (suc j) (omega arith))))
  where
    step : (j : ℕ) → i + suc j ≡ suc i + j
    step j = omega arith

    split : P i × ((j : ℕ) → j < n → P (suc i + j)) → (j : ℕ) → j < suc n → P (i + j)
    split h zero l = rw add-zero h.0
    split h (suc j) l = rw step (h.1 j (omega arith))

-- whole rows
each_exactly : {G : Type 0} (size : ℕ) (ok : ℕ → Bool) (P : ℕ → Type 0) → ((i : ℕ) → Tells G (ok i ≡ true) (P i)) → (list : List ℕ)
    → Tells G (ok_each size ok list ≡ true) (Rows list size P)
unfolding ok_each
each_exactly size ok P f list =
    retold (and_exactly (equal_exactly (length list % size) 0) (all_exactly ok P f (length list / size) 0))
    (λ h. record { whole = h.0; each = λ i l. rw zero-add at (h.1 i l) })
    (λ h. (h.whole, λ i l. rw zero-add (h.each i l)))

-- what holds of each of a list of rows
pub up_to_exactly : {A : Type 0} (P : A → Type 0) (f : ℕ → A) (n : ℕ) → Every P (list_of f n) ↔ ((i : ℕ) → i < n → P (f i))
unfolding list_of
up_to_exactly P f zero = (λ h i l. absurd (omega arith), λ h. tt)
up_to_exactly P f (suc n) =
    let (there, back) = every_append P (list_of f n) (f n ∷ []) in (
      λ e i l. let h = there e in elim (dec_lt i n) [ yes m ↦ (up_to_exactly P f n).0 h.0 i m | no m ↦ last h i (omega arith) ],
      λ h. back ((up_to_exactly P f n).1 (λ i l. h i (omega arith)), (h n (omega arith), tt)),
    )
  where
    last : Every P (list_of f n) × (P (f n) × Unit {0}) → (i : ℕ) → i ≡ n → P (f i)
    last h i e = rw e h.1.0

-- five zeros
blank_exactly : {G : Type 0} (p : LocatorRow)
    → Tells G (blank_locator_row p ≡ true) ((p.content.at ≡ 0) × ((p.content.len ≡ 0) × ((p.protocol ≡ 0) × (p.port ≡ 0))))
unfolding blank_locator_row
blank_exactly p =
    and_exactly (equal_exactly p.content.at 0)
    (and_exactly (equal_exactly p.content.len 0) (and_exactly (equal_exactly p.protocol 0) (equal_exactly p.port 0)))

-- a list where there is none to be
list_exactly : {G : Type 0} (list : List ℕ) → Tells G (eqb (length list) 0 ≡ true) (list ≡ [])
list_exactly list = retold (equal_exactly (length list) 0) (λ e. drop_of_length-le list {i = 0} (omega arith)) (ap length)

module _ (source : List ℕ) where
  -- what a test says of a source of bytes; what says so much passes the test, whatever the source's elements are
  abbrev Judges : Bool → Type 0 → Type 0
  Judges t A = Tells (Bytes source) (t ≡ true) A

  -- ---- the parts
  -- an item
  item_exactly : (v : Span) → Judges (ok_item source v) (Inside source v × Valued (held source v))
  unfolding ok_item
  item_exactly v = and_exactly (inside_exactly source v) (λ b. value_is (held source v) (bytes_held source v b), value_ok (held source v))

  -- an objective
  objective_row_exactly : (o : ObjectiveRow) → Judges (ok_objective_row source o) (ObjectiveRowSays source o × Valued (held source o.value))
  unfolding ok_objective_row
  objective_row_exactly o =
      retold (and_exactly (inside_exactly source o.name) (item_exactly o.value))
      (λ h. (record { name = h.0; value = h.1.0 }, h.1.1))
      (λ h. (h.0.name, (h.0.value, h.1)))

  -- a locator
  locator_row_exactly : {G : Type 0} (p : LocatorRow) → Tells G (ok_locator_row source p ≡ true) (LocatorRowSays source p)
  unfolding ok_locator_row
  locator_row_exactly p =
      retold (unless_exactly (least_exactly p.kind 103) (unless_exactly (least_exactly 106 p.kind) (inside_exactly source p.content)))
      (λ h. record { least = h.0; most = h.1.0; content = h.1.1 })
      (λ h. (h.least, (h.most, h.content)))

  -- a pair's locator or none
  tag_exactly : {G : Type 0} (p : LocatorRow) → Tells G (ok_none_or source p ≡ true) (Blank p ⊎ LocatorRowSays source p)
  unfolding ok_none_or
  tag_exactly {G} p = (
    λ b. pick-case (λ r. r ≡ true → Blank p ⊎ LocatorRowSays source p) (eqb p.kind 0)
        (λ e h. let f = (blank_exactly p).0 b h in
        inl (record { kind = eqb-true p.kind 0 e; at = f.0; len = f.1.0; protocol = f.1.1.0; port = f.1.1.1 }))
        (λ e h. inr ((locator_row_exactly p).0 b h)),
    back,
  )
    where
      back : Blank p ⊎ LocatorRowSays source p → pick (eqb p.kind 0) (blank_locator_row p) (ok_locator_row source p) ≡ true
      back (inl h) =
          pick-case (λ r. r ≡ true) (eqb p.kind 0) (λ e. (blank_exactly {G = G} p).1 (h.at, (h.len, (h.protocol, h.port))))
          (λ e. absurd (eqb-false p.kind 0 e h.kind))
      back (inr h) =
          pick-case (λ r. r ≡ true) (eqb p.kind 0) (λ e. absurd (omega (arith, eqb-true p.kind 0 e, h.least))) (λ e. (locator_row_exactly {G = G} p).1 h)

  -- the locators of a list
  rows_exactly : {G : Type 0} (list : List ℕ)
      → Tells G (ok_rows source list ≡ true) (Rows list locator_row (λ k. LocatorRowSays source (locator_row_at list (locator_row * k))))
  unfolding ok_rows ok_row
  rows_exactly list =
      each_exactly locator_row (ok_row source list) (λ k. LocatorRowSays source (locator_row_at list (locator_row * k)))
      (λ k. locator_row_exactly (locator_row_at list (locator_row * k))) list

  -- a pair's row, with its value
  pair_exactly : (list : List ℕ) (i : ℕ) → Judges (ok_pair source list i) (PairSays source list i × ValuedPair (row_pair source list i))
  unfolding ok_pair row_pair obj_of
  pair_exactly list i =
      retold
      (and_exactly (equal_exactly (get_or list (pair_row * i + 4) 0) 0)
      (and_exactly (objective_row_exactly (objective_row_at list (pair_row * i))) (tag_exactly (locator_row_at list (pair_row * i + objective_row)))))
      (λ h. (record { count_at = h.0; objective = h.1.0.0; locator = h.1.1 }, h.1.0.1))
      (λ h. (h.0.count_at, ((h.0.objective, h.1), h.0.locator)))

  -- the pairs of a list
  pairs_exactly : (list : List ℕ) → Judges (ok_pairs source list) (Rows list pair_row (PairSays source list) × Every ValuedPair (pairs_of source list))
  unfolding ok_pairs pairs_of
  pairs_exactly list =
      retold (each_exactly pair_row (ok_pair source list) (λ i. PairSays source list i × ValuedPair (row_pair source list i)) (pair_exactly list) list)
      (λ h. (
        record { whole = h.whole; each = λ i l. (h.each i l).0 },
        (up_to_exactly ValuedPair (row_pair source list) (length list / pair_row)).1 (λ i l. (h.each i l).1),
      ))
      (λ h.
      record { whole = h.0.whole; each = λ i l. (h.0.each i l, (up_to_exactly ValuedPair (row_pair source list) (length list / pair_row)).0 h.1 i l) })

  -- an objective that may be left out
  extra_exactly : (o : Option GivenObjective) → Judges (ok_extra source o) (ExtraSays source o × Each ValuedObj (extra_of source o))
  unfolding ok_extra extra_of obj_of
  extra_exactly None = (λ b h. (tt, tt), λ h. refl)
  extra_exactly (Some o) = objective_row_exactly (objective_row_of o)

  -- how a negotiation ends
  outcome_exactly : {G : Type 0} (e : Outcome) → Tells G (ok_outcome source e ≡ true) (OutcomeSays source e)
  unfolding ok_outcome
  outcome_exactly E.Accept = (λ b h. tt, λ h. refl)
  outcome_exactly E.Decline = (λ b h. tt, λ h. refl)
  outcome_exactly (E.Reason t) = inside_exactly source t

  -- ---- descriptions
  -- an objective, and no list
  exchange_exactly : (list : List ℕ) (o : ObjectiveRow)
      → Judges (pick (eqb (length list) 0) (ok_objective_row source o) false) (((list ≡ []) × ObjectiveRowSays source o) × Valued (held source o.value))
  exchange_exactly list o =
      retold (and_exactly (list_exactly list) (objective_row_exactly o)) (λ h. ((h.0, h.1.0), h.1.1)) (λ h. (h.0.0, (h.0.1, h.1)))

  -- Those that the judge passes say something, and their values are items.
  pub described_exactly : (list : List ℕ) (d : Description) → Judges (ok_described source list d) (PartsSay source list d × ValuedMsg (msg_of source list d))
  unfolding ok_described ok_list ok_parts ok_discovery ok_response ok_flood msg_of obj_of pick
  described_exactly list D.Noop = retold (and_exactly (list_exactly list) always) (λ h. (h.0, tt)) (λ h. (h.0, tt))
  described_exactly list (D.Discovery s i o) =
      retold (and_exactly (list_exactly list) (and_exactly (inside_exactly source i) (objective_row_exactly (objective_row_of o))))
      (λ h. ((h.0, h.1.0, h.1.1.0), h.1.1.1))
      (λ h. (h.0.0, (h.0.1, (h.0.2, h.1))))
  described_exactly list (D.Response s i t d o) =
      retold (and_exactly (inside_exactly source i) (and_exactly (rows_exactly list) (extra_exactly o)))
      (λ h. ((h.0, h.1.0, h.1.1.0), h.1.1.1))
      (λ h. (h.0.0, (h.0.1, (h.0.2, h.1))))
  described_exactly list (D.RequestNegotiation s o) = exchange_exactly list (objective_row_of o)
  described_exactly list (D.RequestSynchronization s o) = exchange_exactly list (objective_row_of o)
  described_exactly list (D.Negotiate s o) = exchange_exactly list (objective_row_of o)
  described_exactly list (D.End s e) =
      retold (and_exactly (list_exactly list) (outcome_exactly e)) (λ h. (h, tt)) (λ h. h.0)
  described_exactly list (D.Wait s t) = retold (and_exactly (list_exactly list) always) (λ h. (h.0, tt)) (λ h. (h.0, tt))
  described_exactly list (D.Synch s o) = exchange_exactly list (objective_row_of o)
  described_exactly list (D.Flood s i t) =
      retold (and_exactly (inside_exactly source i) (pairs_exactly list)) (λ h. ((h.0, h.1.0), h.1.1)) (λ h. (h.0.0, (h.0.1, h.1)))
  described_exactly list (D.Invalid s v) =
      retold (and_exactly (list_exactly list) (item_exactly v)) (λ h. ((h.0, h.1.0), h.1.1)) (λ h. (h.0.0, (h.0.1, h.1)))
