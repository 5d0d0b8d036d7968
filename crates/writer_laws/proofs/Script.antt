-- What the writer writes, as a list of its pieces, and how two such lists that spell the same bytes agree from left to
-- right.
-- Assumes nothing.
use Rattle.cbor.specs.Head.{a_head}
use mathlib.Core.Path.{◌≡◌, refl, sym, ap, ap₂, ◌∙◌}
use mathlib.Core.List.{List, [], ◌∷◌, ◌++◌, append_assoc, append_cancel_left}
use mathlib.Core.Option.{Option}
use Prim.Native.Nat.{ℕ, ◌+◌, ◌*◌, ◌^◌, ◌≤◌, ◌<◌}
use native.Mathlib.Decide.{dec_lt}
use native.Mathlib.Omega.{arith}
use lib.Dec.{lit<}
use lib.ListN.{length, take, drop, get_or, length-append}
use lib.Seq.{take_at, drop_at}
use borrow.Author.Tests.{lt-ltb}
use Rattle.base.specs.Pick.{pick}
use Rattle.cbor.specs.Head.{width_of, head_at}
use Rattle.cbor.specs.Item.{most_levels}
use Rattle.cbor.specs.Put.{head}
use Rattle.cbor.specs.Tree.{Item, info_of, shortest, head_bytes, encode, depth, Good}
use Rattle.cbor.proofs.HeadExact.{length_head, shortest_case, same_head}
use Rattle.cbor.proofs.PutExact.{head_reads_back}
use Rattle.cbor.proofs.Unique.{unique}
use Rattle.rfc8990.specs.Limits.{most_bytes}
use Rattle.rfc8990.specs.Encoding as W
use Rattle.writer_laws.proofs.Encodes.{has_bytes}

-- ---- heads
-- numbers that a message may hold
abbrev pub Small : ℕ → Type 0
Small n = n < 2 ^ 32

-- the additional information of a shortest head; that of a small argument
pub info_least : (n : ℕ) → info_of (shortest n) n ≤ 27
unfolding info_of pick
info_least n = shortest_case (λ w. info_of w n ≤ 27) n (λ a. omega arith) (λ a b. omega arith) (λ a b. omega arith) (λ a b. omega arith) (λ a. omega arith)

-- of a small argument
info_small : (n : ℕ) → Small n → info_of (shortest n) n ≤ 26
unfolding info_of pick
info_small n h = shortest_case (λ w. info_of w n ≤ 26) n (λ a. omega arith) (λ a b. omega arith) (λ a b. omega arith) (λ a b. omega arith) (λ a. omega arith)

-- of a great one
info_great : (n : ℕ) → 2 ^ 32 ≤ n → info_of (shortest n) n ≡ 27
unfolding info_of pick
info_great n h = shortest_case (λ w. info_of w n ≡ 27) n (λ a. omega arith) (λ a b. omega arith) (λ a b. omega arith) (λ a b. omega arith) (λ a. refl)

-- the first bytes of two heads
first_byte : (m m' n n' : ℕ) (r r' : List ℕ) → head m n ++ r ≡ head m' n' ++ r' → m * 32 + info_of (shortest n) n ≡ m' * 32 + info_of (shortest n') n'
unfolding head head_bytes
first_byte m m' n n' r r' e = ap (λ (l : List ℕ). get_or l 0 0) e

-- how many bytes of argument a shortest head has, by its additional information
info_width : (n : ℕ) → width_of (info_of (shortest n) n) ≡ shortest n
unfolding info_of width_of pick
info_width n = shortest_case (λ w. width_of (info_of w n) ≡ w) n (λ a. rw (lt-ltb n 24 a)) (λ a b. refl) (λ a b. refl) (λ a b. refl) (λ a. refl)

-- two shortest heads that begin the same bytes
module _ (m m' n n' : ℕ) (r r' : List ℕ) (e : head m n ++ r ≡ head m' n' ++ r') where
  -- their major types are the same, and their additional information
  first_same : (m ≡ m') × (info_of (shortest n) n ≡ info_of (shortest n') n')
  first_same = (
    omega (arith, first_byte m m' n n' r r' e, info_least n, info_least n'),
    omega (arith, first_byte m m' n n' r r' e, info_least n, info_least n'),
  )

  -- what follows is the same
  head_rest : r ≡ r'
  unfolding head
  head_rest =
      let width : shortest n ≡ shortest n' = sym (info_width n) ∙ ap width_of first_same.1 ∙ info_width n' in
      let long : length (head m' n') ≡ length (head m n) = omega (arith, length_head m (shortest n) n, length_head m' (shortest n') n') in
      sym (drop_at (head m n) r (length (head m n)) refl) ∙ ap (drop (length (head m n))) e ∙ drop_at (head m' n') r' (length (head m n)) long

  -- and they are the same head, where the first argument is small
  head_same : Small n → (m ≡ m') × (n ≡ n')
  unfolding head head_bytes
  head_same h =
      let same : head 0 n ++ r ≡ head 0 n' ++ r' = ap₂ (λ (info : ℕ) (l : List ℕ). (0 * 32 + info) ∷ l) first_same.1 (ap (drop 1) e) in
      let small : n' < 2 ^ 32 =
      elim (dec_lt n' (2 ^ 32)) [ yes l ↦ l | no l ↦ absurd (omega (arith, first_same.1, info_small n h, info_great n' (omega arith))) ] in
      let first : head_at (head 0 n ++ r) ≡ a_head 0 n (length (head 0 n)) = head_reads_back 0 n r (lit< tt) (omega arith) in
      let second : head_at (head 0 n' ++ r') ≡ a_head 0 n' (length (head 0 n')) = head_reads_back 0 n' r' (lit< tt) (omega arith) in
      let whole : a_head 0 n (length (head 0 n)) ≡ a_head 0 n' (length (head 0 n')) = sym first ∙ ap head_at same ∙ second in
      (first_same.0, (same_head whole).1)

-- ---- pieces
-- the head of an array, a number, null, a string of a major type, and a value's bytes
pub data Piece : Type 0 where
  array : ℕ → Piece
  number : ℕ → Piece
  null : Piece
  string : ℕ → List ℕ → Piece
  value : List ℕ → Piece

-- a piece's bytes
unfoldable pub spell : Piece → List ℕ
spell (Piece.array n) = head 4 n
spell (Piece.number n) = head 0 n
spell Piece.null = 0xf6 ∷ []
spell (Piece.string major bs) = W.string major bs
spell (Piece.value bs) = bs

-- those of several
unfoldable pub spells : List Piece → List ℕ
spells [] = []
spells (t ∷ ts) = spell t ++ spells ts

-- two lists of pieces that spell the same bytes, no more than a message has
pub record Like (ts ts' : List Piece) : Type 0 where
  pub same : spells ts ≡ spells ts'
  pub few : length (spells ts) ≤ most_bytes

-- the rests, too
rest_like : {t t' : Piece} {ts ts' : List Piece} → Like (t ∷ ts) (t' ∷ ts') → spells ts ≡ spells ts' → Like ts ts'
unfolding spells
rest_like {t} {ts = ts} l e = record { same = e; few = omega (arith, l.few, length-append (spell t) (spells ts)) }

-- a value of no bytes, or of one item's, of no more levels than allowed
pub data Valued : List ℕ → Type 0 where
  none : Valued []
  one : (x : Item) → Good x → depth x ≤ most_levels → Valued (encode x)

-- ---- step by step
-- the head of an array passed
pub array_rest : {n n' : ℕ} {ts ts' : List Piece} → Like (Piece.array n ∷ ts) (Piece.array n' ∷ ts') → Like ts ts'
unfolding spells spell
array_rest {n} {n'} {ts} {ts'} l = rest_like l (head_rest 4 4 n n' (spells ts) (spells ts') l.same)

-- with its number of items
pub array_next : {n n' : ℕ} {ts ts' : List Piece} → Small n → Like (Piece.array n ∷ ts) (Piece.array n' ∷ ts') → (n ≡ n') × Like ts ts'
unfolding spells spell
array_next {n} {n'} {ts} {ts'} h l = ((head_same 4 4 n n' (spells ts) (spells ts') l.same h).1, array_rest l)

-- a number passed
pub number_next : {n n' : ℕ} {ts ts' : List Piece} → Small n → Like (Piece.number n ∷ ts) (Piece.number n' ∷ ts') → (n ≡ n') × Like ts ts'
unfolding spells spell
number_next {n} {n'} {ts} {ts'} h l = (
  (head_same 0 0 n n' (spells ts) (spells ts') l.same h).1,
  rest_like l (head_rest 0 0 n n' (spells ts) (spells ts') l.same),
)

-- the length of a string that is the first piece
string_small : {major : ℕ} {bs : List ℕ} {ts us : List Piece} → Like (Piece.string major bs ∷ ts) us → Small (length bs)
unfolding spells spell W.string
string_small {major} {bs} {ts} l = omega (arith, l.few, length-append (head major (length bs) ++ bs) (spells ts), length-append (head major (length bs)) bs)

-- a string passed
pub string_next : {major : ℕ} {bs bs' : List ℕ} {ts ts' : List Piece} → Like (Piece.string major bs ∷ ts) (Piece.string major bs' ∷ ts')
    → (bs ≡ bs') × Like ts ts'
unfolding spells spell W.string
string_next {major} {bs} {bs'} {ts} {ts'} l =
    let e : head major (length bs) ++ (bs ++ spells ts) ≡ head major (length bs') ++ (bs' ++ spells ts') =
    sym (append_assoc (head major (length bs)) bs (spells ts)) ∙ l.same ∙ append_assoc (head major (length bs')) bs' (spells ts') in
    let (_, long) = head_same major major (length bs) (length bs') (bs ++ spells ts) (bs' ++ spells ts') e (string_small l) in
    let rest = head_rest major major (length bs) (length bs') (bs ++ spells ts) (bs' ++ spells ts') e in
    let same : bs ≡ bs' = sym (take_at bs (spells ts) (length bs) refl) ∙ ap (take (length bs)) rest ∙ take_at bs' (spells ts') (length bs) (sym long) in
    (same, rest_like l (append_cancel_left bs (spells ts) (spells ts') (rest ∙ ap (λ (k : List ℕ). k ++ spells ts') (sym same))))

-- an array's head is not nothing
pub array_none : {n : ℕ} {ts : List Piece} → Like (Piece.array n ∷ ts) [] → ⊥
unfolding spells spell head head_bytes
array_none l = omega (arith, ap length l.same)

-- the other way round
pub turned : {ts ts' : List Piece} → Like ts ts' → Like ts' ts
turned l = record { same = sym l.same; few = rw (sym l.same) l.few }

-- nor is nothing an array's head
pub none_array : {n : ℕ} {ts : List Piece} → Like [] (Piece.array n ∷ ts) → ⊥
none_array l = array_none (turned l)

-- a text is no number
pub text_number : {n : ℕ} {bs : List ℕ} {ts ts' : List Piece} → Like (Piece.string 3 bs ∷ ts) (Piece.number n ∷ ts') → ⊥
unfolding spells spell W.string
text_number {n} {bs} {ts} {ts'} l =
    let e : head 3 (length bs) ++ (bs ++ spells ts) ≡ head 0 n ++ spells ts' = sym (append_assoc (head 3 (length bs)) bs (spells ts)) ∙ l.same in
    omega (arith, first_same 3 0 (length bs) n (bs ++ spells ts) (spells ts') e)

-- nor the other way round
pub number_text : {n : ℕ} {bs : List ℕ} {ts ts' : List Piece} → Like (Piece.number n ∷ ts) (Piece.string 3 bs ∷ ts') → ⊥
number_text l = text_number (turned l)

-- a number or null
abbrev pub perhaps : Option ℕ → Piece
perhaps Option.none = Piece.null
perhaps (Option.some n) = Piece.number n

-- what holds of what is there
abbrev pub Each : {A : Type 0} → (A → Type 0) → Option A → Type 0
Each P Option.none = Unit {0}
Each P (Option.some x) = P x

-- no number begins as null does
number_null : (n : ℕ) (r r' : List ℕ) → head 0 n ++ r ≡ (0xf6 ∷ []) ++ r' → ⊥
unfolding head head_bytes
number_null n r r' e = omega (arith, ap (λ (l : List ℕ). get_or l 0 0) e, info_least n)

-- a number or null passed
pub perhaps_next : {p p' : Option ℕ} {ts ts' : List Piece} → Each Small p → Like (perhaps p ∷ ts) (perhaps p' ∷ ts') → (p ≡ p') × Like ts ts'
unfolding spells spell
perhaps_next {p = Option.none} {p' = Option.none} {ts} {ts'} h l = (refl, rest_like l (append_cancel_left (0xf6 ∷ []) (spells ts) (spells ts') l.same))
perhaps_next {p = Option.none} {p' = Option.some n} {ts} {ts'} h l = absurd (number_null n (spells ts') (spells ts) (sym l.same))
perhaps_next {p = Option.some n} {p' = Option.none} {ts} {ts'} h l = absurd (number_null n (spells ts) (spells ts') l.same)
perhaps_next {p = Option.some n} {p' = Option.some n'} h l = let (e, r) = number_next h l in (ap Option.some e, r)

-- a value, where both are or neither is
pub value_next : {v v' : List ℕ} {ts ts' : List Piece} → Valued v → Valued v' → W.one_more v ≡ W.one_more v' → Like (Piece.value v ∷ ts) (Piece.value v' ∷ ts')
    → (v ≡ v') × Like ts ts'
unfolding spells spell W.one_more
value_next Valued.none Valued.none e l = (refl, rest_like l l.same)
value_next Valued.none (Valued.one x g d) e l = absurd (omega (arith, e ∙ has_bytes x))
value_next (Valued.one x g d) Valued.none e l = absurd (omega (arith, sym e ∙ has_bytes x))
value_next {ts = ts} {ts'} (Valued.one x g d) (Valued.one x' g' d') e l =
    let same : x ≡ x' = unique x x' (spells ts) (spells ts') g g' l.same in
    (ap encode same, rest_like l (append_cancel_left (encode x) (spells ts) (spells ts') (l.same ∙ ap (λ (y : Item). encode y ++ spells ts') (sym same))))
