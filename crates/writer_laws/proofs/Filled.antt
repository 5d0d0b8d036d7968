-- Rows filled one after the other: a list that is long enough then begins with the numbers of all of them.
-- Assumes nothing.
use mathlib.Core.Path.{◌≡◌, refl, sym, ap, ap₂, ◌∙◌, subst}
use mathlib.Core.List.{List, [], ◌∷◌, ◌++◌}
use mathlib.Core.Bool.{Bool, true, false}
use Prim.Native.Nat.{ℕ, zero, suc, ◌+◌, ◌*◌, ◌/◌, ◌%◌, ◌≤◌, ◌<◌}
use native.Mathlib.Nat.{mul-zero, mul-suc, mul-mod_right, mul-div_cancel_left}
use native.Mathlib.Numerals.{add-one}
use native.Mathlib.Omega.{arith}
use lib.Dec.{ltb}
use lib.ListN.{length, take, drop, length-append}
use lib.Seq.{sets, sets-eq, take_at}
use Rattle.base.specs.Pick.{pick}
use Rattle.base.proofs.Parts.{sets_append}
use Rattle.message.specs.declared.Series.{Series}
use Rattle.forms.specs.Rows.{rows_from, series_end, series_filled}
use Rattle.description.specs.Meaning.{list_of}
use Rattle.writer_laws.specs.Says.{Rows}

-- lists one after the other
unfoldable pub joined : List (List ℕ) → List ℕ
joined [] = []
joined (ns ∷ rows) = ns ++ joined rows

-- ---- the first of n, and the others
up_first : {A : Type 0} (f : ℕ → A) (n : ℕ) → list_of f (suc n) ≡ f 0 ∷ list_of (λ i. f (suc i)) n
unfolding list_of
up_first f zero = refl
up_first f (suc n) = ap (λ l. l ++ (f (suc n) ∷ [])) (up_first f n)

-- the same elements
up_same : {A : Type 0} (f g : ℕ → A) (n : ℕ) → ((i : ℕ) → f i ≡ g i) → list_of f n ≡ list_of g n
unfolding list_of
up_same f g zero h = refl
up_same f g (suc n) h = ap₂ (λ l x. l ++ (x ∷ [])) (up_same f g n h) (h n)

-- ---- rows
-- what stands at the start of a list is x, and in order
abbrev pub Tells : {A X : Type 0} → (List ℕ → ℕ → A) → (A → X) → (A → Type 0) → List ℕ → X → Type 0
Tells view f Holds list x = (f (view list 0) ≡ x) × Holds (view list 0)

-- the elements xs from `at` on, each with its row of `size` numbers: they are stored in their place, and tell the
-- element, whatever follows them
pub data Chain {X : Type 0} (size : ℕ) (next : ℕ → ℕ) (row : ℕ → ℕ → List ℕ → List ℕ) (Told : List ℕ → X → Type 0) : ℕ → List (List ℕ) → List X → Type 0 where
  end : {at : ℕ} → Chain size next row Told at [] []
  step : {at after : ℕ} {ns : List ℕ} {x : X} {rows : List (List ℕ)} {xs : List X} → length ns ≡ size
      → ((i : ℕ) (list : List ℕ) → row at i list ≡ sets list (size * i) ns)
      → ((rest : List ℕ) → Told (ns ++ rest) x) → next at ≡ after → Chain size next row Told after rows xs → Chain size next row Told at (ns ∷ rows) (x ∷ xs)

module _ {X : Type 0} {size : ℕ} {next : ℕ → ℕ} {row : ℕ → ℕ → List ℕ → List ℕ} {Told : List ℕ → X → Type 0} where
  -- all rows have so many numbers
  pub joined_length : {at : ℕ} {rows : List (List ℕ)} {xs : List X} → Chain size next row Told at rows xs → length (joined rows) ≡ size * length rows
  unfolding joined
  joined_length Chain.end = sym (mul-zero size)
  joined_length (Chain.step {ns = ns} {rows = rows} len stored told goes more) =
      length-append ns (joined rows) ∙ omega (arith, joined_length more, len, mul-suc size (length rows))

  -- as many as there are elements
  pub rows_many : {at : ℕ} {rows : List (List ℕ)} {xs : List X} → Chain size next row Told at rows xs → length rows ≡ length xs
  rows_many Chain.end = refl
  rows_many (Chain.step len stored told goes more) = ap suc (rows_many more)

  -- what is stored from row i on
  stored_from : {at : ℕ} {rows : List (List ℕ)} {xs : List X} → Chain size next row Told at rows xs → (i : ℕ) (list : List ℕ)
      → rows_from next row (length rows) i at list ≡ sets list (size * i) (joined rows)
  unfolding rows_from joined
  stored_from Chain.end i list = refl
  stored_from (Chain.step {at} {ns} {rows = rows} len stored told goes more) i list =
      let e : size * (i + 1) ≡ size * i + length ns = ap (λ (k : ℕ). size * k) (add-one i) ∙ omega (arith, mul-suc size i, len) in
      ap (λ (k : ℕ). rows_from next row (length rows) (i + 1) k (row at i list)) goes ∙ stored_from more (i + 1) (row at i list)
      ∙ ap₂ (λ (l : List ℕ) (k : ℕ). sets l k (joined rows)) (stored i list) e ∙ sets_append list (size * i) ns (joined rows)

  -- from the front on
  stored_all : {at : ℕ} {rows : List (List ℕ)} {xs : List X} → Chain size next row Told at rows xs → (list : List ℕ) → size * length rows ≤ length list
      → take (size * length rows) (rows_from next row (length rows) 0 at list) ≡ joined rows
  stored_all {at} {rows} chain list room =
      let n = joined_length chain in
      let all : rows_from next row (length rows) 0 at list ≡ joined rows ++ drop (0 + length (joined rows)) list =
      stored_from chain 0 list ∙ ap (λ (k : ℕ). sets list k (joined rows)) (mul-zero size) ∙ sets-eq (joined rows) list 0 (omega arith) in
      ap (take (size * length rows)) all ∙ take_at (joined rows) (drop (0 + length (joined rows)) list) (size * length rows) n

  -- a list that is long enough, where a series is as many as there are elements
  pub lent : {series : Series} {rows : List (List ℕ)} {xs : List X} → Chain size next row Told series.at rows xs → (list : List ℕ) → series.many ≡ length xs
      → series_end size series list ≤ length list
      → take (series_end size series list) (series_filled size next row series list) ≡ joined rows
  unfolding series_end series_filled pick
  lent {series} {rows} chain list many = by (ltb (length list / size) series.many) (many ∙ sym (rows_many chain))
    where
      by : (t : Bool) {n : ℕ} → n ≡ length rows → pick t (length list + 1) (size * n) ≤ length list
          → take (pick t (length list + 1) (size * n)) (pick t list (rows_from next row n 0 series.at list)) ≡ joined rows
      by true e room = absurd (omega arith)
      by false e room = rw e (stored_all chain list (rw e at room))

-- ---- what the rows tell
-- so many numbers, in rows of n
whole_rows : (n k len : ℕ) → 0 < n → len ≡ n * k → (len % n ≡ 0) × (len / n ≡ k)
whole_rows n k len h e = (rw e (mul-mod_right n k), rw e (mul-div_cancel_left k h))

-- row i + 1, behind the first, is row i
behind : {A : Type 0} {size : ℕ} (view : List ℕ → ℕ → A) → ((a b : List ℕ) (k : ℕ) → view (a ++ b) (length a + k) ≡ view b k) → (ns rest : List ℕ) (i : ℕ)
    → length ns ≡ size
    → view (ns ++ rest) (size * suc i) ≡ view rest (size * i)
behind {size = size} view shift ns rest i e =
    let sum : size * suc i ≡ length ns + size * i = omega (arith, mul-suc size i) in
    ap (view (ns ++ rest)) sum ∙ shift ns rest (size * i)

module _ {A X : Type 0} {size : ℕ} {next : ℕ → ℕ} {row : ℕ → ℕ → List ℕ → List ℕ} (view : List ℕ → ℕ → A) (f : A → X) (Holds : A → Type 0)
    (shift : (a b : List ℕ) (k : ℕ) → view (a ++ b) (length a + k) ≡ view b k) where
  -- each is in order
  told_each : {at : ℕ} {rows : List (List ℕ)} {xs : List X} → Chain size next row (Tells view f Holds) at rows xs → (i : ℕ) → i < length rows
      → Holds (view (joined rows) (size * i))
  unfolding joined
  told_each Chain.end i h = absurd (omega arith)
  told_each (Chain.step {rows = rows} len stored told goes more) zero h = rw (mul-zero size) (told (joined rows)).1
  told_each (Chain.step {ns = ns} {rows = rows} len stored told goes more) (suc i) h =
      subst Holds (sym (behind view shift ns (joined rows) i len)) (told_each more i (omega arith))

  -- and they are all of xs
  told_all : {at : ℕ} {rows : List (List ℕ)} {xs : List X} → Chain size next row (Tells view f Holds) at rows xs
      → list_of (λ i. f (view (joined rows) (size * i))) (length rows) ≡ xs
  unfolding joined list_of
  told_all Chain.end = refl
  told_all (Chain.step {ns = ns} {rows = rows} len stored told goes more) =
      up_first (λ i. f (view (ns ++ joined rows) (size * i))) (length rows)
      ∙ ap₂ (λ x l. x ∷ l) (rw (mul-zero size) (told (joined rows)).0)
      (up_same (λ i. f (view (ns ++ joined rows) (size * suc i))) (λ i. f (view (joined rows) (size * i))) (length rows)
      (λ i. ap f (behind view shift ns (joined rows) i len)) ∙ told_all more)

  -- so they are whole rows, in order, of xs
  pub told_rows : {at : ℕ} {rows : List (List ℕ)} {xs : List X} → 0 < size → Chain size next row (Tells view f Holds) at rows xs
      → Rows (joined rows) size (λ i. Holds (view (joined rows) (size * i)))
      × (list_of (λ i. f (view (joined rows) (size * i))) (length (joined rows) / size) ≡ xs)
  told_rows {rows = rows} some chain =
      let (whole, many) = whole_rows size (length rows) (length (joined rows)) some (joined_length chain) in
      (record { whole = whole; each = λ i h. told_each chain i (rw many at h) }, rw many (told_all chain))
