-- Heads read and written (RFC 8949, section 3): `head_read`, a written head is read back, and `head_exactly`, which
-- heads are read of bytes.
-- Assumes nothing.
use Rattle.std.specs.Prelude.{Ok, Err}
use Rattle.refusal.specs.declared.Refusal.TheVariants as R
use Rattle.refusal.specs.Refusal.{refused}
use Rattle.cbor.specs.Head.{HeadRead, a_head}
use Rattle.cbor.specs.Head.{InitialRead}
use mathlib.Core.Path.{◌≡◌, refl, sym, ap, ◌∙◌, subst}
use mathlib.Core.Logic.{◌↔◌}
use mathlib.Core.List.{List, [], ◌∷◌, ◌++◌}
use Prim.Native.Nat.{ℕ, zero, suc, ◌+◌, ◌*◌, ◌/◌, ◌%◌, ◌^◌, ◌≤◌, ◌<◌, zero-le}
use native.Mathlib.Nat.{div-add-mod'}
use native.Mathlib.Numerals.{one-add}
use native.Mathlib.Omega.{arith}
use lib.Arith.{digits_div, digits_mod}
use lib.ListN.{length, take, drop, length-append, take-append-drop}
use lib.Seq.{length-take-le}
use lib.Dec.{ltb, eqb, lit<}
use borrow.Author.Tests.{lt-ltb, le-ltb, lt-leb, ne_eqb, ltb-true, ltb-false, leb-true, leb-false, eqb-true, eqb-false}
use Rattle.base.specs.Pick.{pick}
use Rattle.base.specs.BigEndian.{bytes_of, Bytes, FirstBytes}
use Rattle.base.proofs.Picks.{pick-case}
use Rattle.base.proofs.Digits.{length_bytes, read_back, spelled, big_endian_lt, small_bytes}
use Rattle.cbor.specs.Head.{width_of, least_of, initial_of, arg_of, judged, head_from, head_by, head_of, head_at}
use Rattle.cbor.specs.declared.head.Head.{Head}
use Rattle.cbor.specs.Tree.{info_of, head_bytes, shortest, Sized, Right, HeadIs}

-- ---- what a head's reading goes by
-- a whole head: what holds of each answer, where it is given
pub judged_case : (P : HeadRead → Type 0) (major arg width : ℕ) → (major ≡ 7 → width ≡ 1 → arg < 32 → P (refused R.Reserved 0))
    → ((major ≡ 7 → ⊥) → arg < least_of width → P (refused R.LongHead 0))
    → ((major ≡ 7 → width ≡ 1 → 32 ≤ arg) → ((major ≡ 7 → ⊥) → least_of width ≤ arg) → P (a_head major arg (1 + width)))
    → P (judged major arg width)
unfolding judged
judged_case P major arg width low long fine =
    pick-case P _
    (λ m. let is = eqb-true major 7 m in
    pick-case P _
    (λ w. pick-case P _ (λ a. low is (eqb-true width 1 w) (ltb-true arg 32 a)) (λ a. fine (λ _ _. ltb-false arg 32 a) (λ ne. absurd (ne is))))
    (λ w. fine (λ _ e. absurd (eqb-false width 1 w e)) (λ ne. absurd (ne is))))
    (λ m. let ne = eqb-false major 7 m in
    pick-case P _ (λ a. long ne (ltb-true arg (least_of width) a)) (λ a. fine (λ e. absurd (ne e)) (λ _. ltb-false arg (least_of width) a)))

-- a first byte with what follows it
pub first_case : (P : HeadRead → Type 0) (first : ℕ) (s : List ℕ) → (28 ≤ first % 32 → first % 32 < 31 → P (refused R.Reserved 0))
    → (first % 32 ≡ 31 → P (refused R.Indefinite 0))
    → (first % 32 < 28 → length s < width_of (first % 32) → P (refused R.Cut (length s + 1)))
    → (first % 32 < 28 → width_of (first % 32) ≤ length s → P (judged (first / 32) (arg_of first (width_of (first % 32)) s) (width_of (first % 32))))
    → P (head_of first s)
unfolding head_of initial_of head_by head_from
first_case P first s reserved indefinite cut whole =
    pick-case by _ (λ e. indefinite (eqb-true (first % 32) 31 e))
    (λ ne. pick-case by _ (λ e. reserved (leb-true 28 (first % 32) e) (omega (arith, eqb-false (first % 32) 31 ne)))
    (λ e. begins (leb-false 28 (first % 32) e)))
  where
    by : InitialRead → Type 0
    by i = P (head_by first s i)

    begins : first % 32 < 28 → by (Ok (record { major = first / 32; width = width_of (first % 32) }))
    begins h = pick-case P _ (λ e. cut h (ltb-true (length s) (width_of (first % 32)) e)) (λ e. whole h (ltb-false (length s) (width_of (first % 32)) e))

-- ---- the shortest form
pub shortest_case : (P : ℕ → Type 0) (arg : ℕ) → (arg < 24 → P 0) → (24 ≤ arg → arg < 2 ^ 8 → P 1) → (2 ^ 8 ≤ arg → arg < 2 ^ 16 → P 2)
    → (2 ^ 16 ≤ arg → arg < 2 ^ 32 → P 4) → (2 ^ 32 ≤ arg → P 8) → P (shortest arg)
unfolding shortest
shortest_case P arg none one two four eight =
    pick-case P _ (λ e. none (ltb-true arg 24 e))
    (λ g. pick-case P _ (λ e. one (ltb-false arg 24 g) (ltb-true arg (2 ^ 8) e))
    (λ g. pick-case P _ (λ e. two (ltb-false arg (2 ^ 8) g) (ltb-true arg (2 ^ 16) e))
    (λ g. pick-case P _ (λ e. four (ltb-false arg (2 ^ 16) g) (ltb-true arg (2 ^ 32) e)) (λ g. eight (ltb-false arg (2 ^ 32) g)))))

-- its width asks for the argument
pub short_least : (width arg : ℕ) → width ≡ shortest arg → least_of width ≤ arg
unfolding least_of pick
short_least width arg e = rw e (shortest_case (λ w. least_of w ≤ arg) arg (λ _. zero-le) (λ g _. g) (λ g _. g) (λ g _. g) (λ g. g))

-- and no other width that can have it does
pub short_width : {width arg : ℕ} → Sized width arg → least_of width ≤ arg → width ≡ shortest arg
unfolding least_of pick
short_width {arg = n} (Sized.in_first h) l =
    shortest_case (λ w. 0 ≡ w) n (λ _. refl) (λ a b. omega arith) (λ a b. omega arith) (λ a b. omega arith) (λ a. omega arith)
short_width {arg = n} (Sized.one h) l =
    shortest_case (λ w. 1 ≡ w) n (λ a. omega arith) (λ _ _. refl) (λ a b. omega arith) (λ a b. omega arith) (λ a. omega arith)
short_width {arg = n} (Sized.two h) l =
    shortest_case (λ w. 2 ≡ w) n (λ a. omega arith) (λ a b. omega arith) (λ _ _. refl) (λ a b. omega arith) (λ a. omega arith)
short_width {arg = n} (Sized.four h) l =
    shortest_case (λ w. 4 ≡ w) n (λ a. omega arith) (λ a b. omega arith) (λ a b. omega arith) (λ _ _. refl) (λ a. omega arith)
short_width {arg = n} (Sized.eight h) l =
    shortest_case (λ w. 8 ≡ w) n (λ a. omega arith) (λ a b. omega arith) (λ a b. omega arith) (λ a b. omega arith) (λ _. refl)

-- ---- written, then read
pub info_lt : {width arg : ℕ} → Sized width arg → info_of width arg < 28
unfolding info_of pick
info_lt (Sized.in_first h) = omega arith
info_lt (Sized.one h) = lit< tt
info_lt (Sized.two h) = lit< tt
info_lt (Sized.four h) = lit< tt
info_lt (Sized.eight h) = lit< tt

width_info : {width arg : ℕ} → Sized width arg → width_of (info_of width arg) ≡ width
unfolding info_of width_of pick
width_info (Sized.in_first h) = rw (lt-ltb _ _ h)
width_info (Sized.one h) = refl
width_info (Sized.two h) = refl
width_info (Sized.four h) = refl
width_info (Sized.eight h) = refl

arg_info : {width arg : ℕ} (first : ℕ) (rest : List ℕ) → Sized width arg → first % 32 ≡ info_of width arg → arg_of first width (bytes_of width arg ++ rest)
    ≡ arg
unfolding info_of arg_of pick
arg_info first rest (Sized.in_first h) e = e
arg_info {arg = n} first rest (Sized.one h) e = read_back 1 n rest h
arg_info {arg = n} first rest (Sized.two h) e = read_back 2 n rest h
arg_info {arg = n} first rest (Sized.four h) e = read_back 4 n rest h
arg_info {arg = n} first rest (Sized.eight h) e = read_back 8 n rest h

pub written : (major width arg : ℕ) (rest : List ℕ) → Sized width arg → head_at (head_bytes major width arg ++ rest) ≡ judged major arg width
unfolding head_at head_of initial_of head_by head_from head_bytes pick
written major width arg rest h =
    let lt : info_of width arg < 28 = info_lt h in
    let low : info_of width arg < 32 = omega arith in
    let fits : width ≤ length (bytes_of width arg ++ rest) = simp (length-append, length_bytes) (omega arith) in
    simp (
      arg_info (major * 32 + info_of width arg) rest h (digits_mod major low),
      digits_mod major low,
      digits_div major low,
      ne_eqb (info_of width arg) 31 (omega arith),
      lt-leb 28 (info_of width arg) lt,
      width_info h,
      le-ltb (length (bytes_of width arg ++ rest)) width fits,
    )

pub length_head : (major width arg : ℕ) → length (head_bytes major width arg) ≡ 1 + width
unfolding head_bytes
length_head major width arg = ap suc (length_bytes width arg) ∙ omega arith

-- a head without fault that is written is read
pub head_read : (major width arg : ℕ) (rest : List ℕ) → Right major width arg
    → head_at (head_bytes major width arg ++ rest) ≡ a_head major arg (length (head_bytes major width arg))
head_read major width arg rest h =
    written major width arg rest h.sized
    ∙ judged_case
    (λ r. r ≡ a_head major arg (1 + width))
    major
    arg
    width
    (λ m w low. absurd (omega (arith, h.simple m w)))
    (λ ne long. absurd (omega (arith, short_least width arg (h.short ne))))
    (λ _ _. refl)
    ∙ simp length_head

-- heads that are the same have the same numbers
told : (Head → ℕ) → HeadRead → ℕ
told f (Err why) = 0
told f (Ok head) = f head

pub same_head : {major major' arg arg' len len' : ℕ} → a_head major arg len ≡ a_head major' arg' len' → (major ≡ major') × (arg ≡ arg') × (len ≡ len')
unfolding told
same_head e = (ap (told (λ head. head.major)) e, ap (told (λ head. head.arg)) e, ap (told (λ head. head.len)) e)

-- ---- read, then written
-- P holds of a head that is read
abbrev IfHead : (ℕ → ℕ → ℕ → Type 0) → HeadRead → Type 0
IfHead P (Err why) = Unit {0}
IfHead P (Ok head) = P head.major head.arg head.len

-- a head that is all there, with or without fault
pub record Whole (s : List ℕ) (major arg width : ℕ) : Type 0 where
  pub bytes : take (1 + width) s ≡ head_bytes major width arg
  pub sized : Sized width arg
  pub kind : major < 8
  pub within : 1 + width ≤ length s

-- the additional information, the argument's bytes and its size
record Info (first : ℕ) (s : List ℕ) (width : ℕ) : Type 0 where
  same : info_of width (arg_of first width s) ≡ first % 32
  digits : bytes_of width (arg_of first width s) ≡ take width s
  sized : Sized width (arg_of first width s)

info_is : (first : ℕ) (s : List ℕ) → first % 32 < 28 → FirstBytes (width_of (first % 32)) s → width_of (first % 32) ≤ length s
    → Info first s (width_of (first % 32))
unfolding width_of info_of arg_of bytes_of pick
info_is first s lt =
    pick-case P (ltb info 24) (λ e b h. record { same = refl; digits = refl; sized = Sized.in_first (ltb-true info 24 e) })
    (λ e₀. pick-case P (eqb info 24) (λ e b h. record { same = sym (eqb-true info 24 e); digits = spelled 1 s b h; sized = Sized.one (big_endian_lt 1 s b) })
    (λ e₁. pick-case P (eqb info 25) (λ e b h. record { same = sym (eqb-true info 25 e); digits = spelled 2 s b h; sized = Sized.two (big_endian_lt 2 s b) })
    (λ e₂. pick-case P (eqb info 26) (λ e b h. record { same = sym (eqb-true info 26 e); digits = spelled 4 s b h; sized = Sized.four (big_endian_lt 4 s b) })
    (λ e₄ b h. record {
      same = omega (arith, ltb-false info 24 e₀, eqb-false info 24 e₁, eqb-false info 25 e₂, eqb-false info 26 e₄);
      digits = spelled 8 s b h;
      sized = Sized.eight (big_endian_lt 8 s b);
    }))))
  where
    info : ℕ
    info = first % 32

    P : ℕ → Type 0
    P width = FirstBytes width s → width ≤ length s → Info first s width

-- a first byte and the argument's bytes
headed : (first : ℕ) (s : List ℕ) → first / 32 < 8 → FirstBytes (width_of (first % 32)) s → first % 32 < 28 → width_of (first % 32) ≤ length s
    → Whole (first ∷ s) (first / 32) (arg_of first (width_of (first % 32)) s) (width_of (first % 32))
unfolding head_bytes
headed first s low b lt room =
    let i = info_is first s lt b room in
    record { bytes = rw (one-add (width_of (first % 32)), i.same, i.digits, div-add-mod' first 32); sized = i.sized; kind = low; within = omega arith }

pub whole : (first : ℕ) (s : List ℕ) → Bytes (first ∷ s) → first % 32 < 28 → width_of (first % 32) ≤ length s
    → Whole (first ∷ s) (first / 32) (arg_of first (width_of (first % 32)) s) (width_of (first % 32))
whole first s b = headed first s (omega (arith, b 0)) (λ i _. b (suc i))

-- one without fault is one that is written
faultless : {s : List ℕ} {major arg width : ℕ} → Whole s major arg width → ((major ≡ 7) → width ≡ 1 → 32 ≤ arg) → ((major ≡ 7 → ⊥) → least_of width ≤ arg)
    → HeadIs s major arg (1 + width)
faultless {width = width} w simple short =
    record {
      width = width;
      kind = w.kind;
      right = record { sized = w.sized; simple = simple; short = λ ne. short_width w.sized (short ne) };
      bytes = w.bytes;
      within = w.within;
    }

-- and one that was read is without fault
pub head_is : (s : List ℕ) {major arg len : ℕ} → Bytes s → head_at s ≡ a_head major arg len → HeadIs s major arg len
unfolding head_at
head_is s b e = subst (IfHead (HeadIs s)) e (by s b)
  where
    by : (s : List ℕ) → Bytes s → IfHead (HeadIs s) (head_at s)
    by [] b = tt
    by (first ∷ s) b =
        first_case (IfHead (HeadIs (first ∷ s))) first s (λ _ _. tt) (λ _. tt) (λ _ _. tt)
        (λ lt room. judged_case (IfHead (HeadIs (first ∷ s))) (first / 32) _ _ (λ _ _ _. tt) (λ _ _. tt) (faultless (whole first s b lt room)))

-- the bytes of an argument below 256
arg_bytes : (first width : ℕ) (s : List ℕ) → arg_of first width s < 2 ^ 8 → FirstBytes width s
unfolding arg_of pick
arg_bytes first zero s h = λ i l. absurd (omega arith)
arg_bytes first (suc n) s h = small_bytes (suc n) s (rw (ne_eqb (suc n) 0 (λ e. omega arith)) at h)

-- a head with an argument below 256 that was read is one that is written, whatever numbers follow it
pub small_is : (s : List ℕ) {major arg len : ℕ} → head_at s ≡ a_head major arg len → major < 8 → arg < 2 ^ 8 → HeadIs s major arg len
unfolding head_at
small_is s e = subst (P s) e (by s)
  where
    P : List ℕ → HeadRead → Type 0
    P s = IfHead (λ (major arg len : ℕ). major < 8 → arg < 2 ^ 8 → HeadIs s major arg len)

    by : (s : List ℕ) → P s (head_at s)
    by [] = tt
    by (first ∷ s) =
        first_case (P (first ∷ s)) first s (λ _ _. tt) (λ _. tt) (λ _ _. tt)
        (λ lt room. judged_case (P (first ∷ s)) (first / 32) _ _ (λ _ _ _. tt) (λ _ _. tt)
        (λ simple short low small. faultless (headed first s low (arg_bytes first (width_of (first % 32)) s small) lt room) simple short))

-- ---- the shortest form, without fault
pub shortest_right : (major arg : ℕ) → major < 7 → arg < 2 ^ 64 → Right major (shortest arg) arg
shortest_right major arg hm h =
    record {
      sized =
          shortest_case (λ width. Sized width arg) arg (λ l. Sized.in_first l) (λ _ l. Sized.one l) (λ _ l. Sized.two l) (λ _ l. Sized.four l)
          (λ _. Sized.eight h);
      simple = λ e. absurd (omega arith);
      short = λ _. refl;
    }

-- no shorter head has that argument
pub no_shorter : (width arg : ℕ) → Sized width arg → shortest arg ≤ width
no_shorter width arg (Sized.in_first h) = shortest_case (λ w. w ≤ 0) arg (omega arith) (omega arith) (omega arith) (omega arith) (omega arith)
no_shorter width arg (Sized.one h) = shortest_case (λ w. w ≤ 1) arg (omega arith) (omega arith) (omega arith) (omega arith) (omega arith)
no_shorter width arg (Sized.two h) = shortest_case (λ w. w ≤ 2) arg (omega arith) (omega arith) (omega arith) (omega arith) (omega arith)
no_shorter width arg (Sized.four h) = shortest_case (λ w. w ≤ 4) arg (omega arith) (omega arith) (omega arith) (omega arith) (omega arith)
no_shorter width arg (Sized.eight h) = shortest_case (λ w. w ≤ 8) arg (omega arith) (omega arith) (omega arith) (omega arith) (omega arith)

-- for readers

-- A head is read of bytes exactly where they begin with one without fault.
pub head_exactly : (s : List ℕ) (major arg len : ℕ) → Bytes s → head_at s ≡ a_head major arg len ↔ HeadIs s major arg len
head_exactly s major arg len b = (head_is s b, read)
  where
    read : HeadIs s major arg len → head_at s ≡ a_head major arg len
    read h =
        let split : s ≡ head_bytes major h.width arg ++ drop len s = sym (take-append-drop len s) ∙ ap (λ (t : List ℕ). t ++ drop len s) h.bytes in
        let size : length (head_bytes major h.width arg) ≡ len = ap length (sym h.bytes) ∙ length-take-le len s h.within in
        ap head_at split ∙ head_read major h.width arg (drop len s) h.right ∙ ap (a_head major arg) size
