-- The heads that most messages are made of, told in place by their first bytes.
-- Assumes nothing.
use Rattle.std.specs.Prelude.{Option, Ok}
use Rattle.cbor.specs.declared.item.Step.TheVariants.{Passed, Opened}
use Rattle.cbor.specs.Head.{HeadRead, a_head}
use mathlib.Core.Path.{◌≡◌, refl, sym, ap, ◌∙◌, subst}
use mathlib.Core.List.{List, ◌∷◌}
use mathlib.Core.Logic.{◌≢◌, ◌⊎◌, inl, inr}
use mathlib.Core.Bool.{true, false}
use Prim.Native.Nat.{ℕ, suc, ◌+◌, ◌-◌, ◌*◌, ◌/◌, ◌%◌, ◌≤◌, ◌<◌, zero-le}
use native.Mathlib.Decide.{dec_lt}
use native.Mathlib.Omega.{arith}
use lib.ListN.{length, drop, get_or, length-drop, get_or-eq_default}
use lib.Seq.{drop-cons, get_or-drop}
use borrow.Author.Tests.{le-ltb, le-leb, lt-leb, ne_eqb}
use Rattle.base.specs.Pick.{pick}
use Rattle.base.specs.BigEndian.{big_endian, bytes_of}
use Rattle.cbor.specs.declared.item.Turn.{Turn}
use Rattle.cbor.specs.Head.{width_of, least_of, initial_of, arg_of, judged, head_from, head_by, head_of, head_at}
use Rattle.cbor.specs.Item.{opens, step_of, step_from, step_at}
use Rattle.cbor.specs.Tree.{info_of, head_bytes, Sized}
use Rattle.cbor.specs.Turn.{CommonIs}
use Rattle.cbor.proofs.HeadExact.{short_width, head_read, first_case, judged_case}

-- ---- heads by their first byte and what follows it
-- a head of one byte
headed : (first major arg : ℕ) (s : List ℕ) → arg < 24 → first ≡ major * 32 + arg → head_at (first ∷ s) ≡ a_head major arg 1
unfolding head_bytes info_of bytes_of least_of pick
headed first major arg s low e =
    let first = Sized.in_first low in
    rw e (head_read major 0 arg s (record { sized = first; simple = λ _ w. absurd (omega arith); short = λ _. short_width first zero-le }))

-- a number other than 0 stands in the list
there : (s : List ℕ) (at : ℕ) → 1 ≤ get_or s at 0 → at < length s
there s at some = elim (dec_lt at (length s)) [ yes h ↦ h | no h ↦ absurd (omega (arith, get_or-eq_default s 0 {n = at} (omega arith))) ]

one_spells : (s : List ℕ) → big_endian s 1 ≡ get_or s 0 0
unfolding big_endian
one_spells s = omega arith

two_spell : (s : List ℕ) → big_endian s 2 ≡ get_or s 0 0 * 256 + get_or s 1 0
unfolding big_endian
two_spell s = omega arith

four_spell : (s : List ℕ) → big_endian s 4 ≡ get_or s 0 0 * 16777216 + get_or s 1 0 * 65536 + get_or s 2 0 * 256 + get_or s 3 0
unfolding big_endian
four_spell s = omega arith

eight_spell : (s : List ℕ)
    → big_endian s 8 ≡ (get_or s 0 0 * 16777216 + get_or s 1 0 * 65536 + get_or s 2 0 * 256 + get_or s 3 0) * 4294967296
    + (get_or s 4 0 * 16777216 + get_or s 5 0 * 65536 + get_or s 6 0 * 256 + get_or s 7 0)
unfolding big_endian
eight_spell s = omega arith

in_byte : (s : List ℕ) → 24 ≤ get_or s 0 0 → head_of 24 s ≡ a_head 0 (get_or s 0 0) 2
unfolding head_of head_by initial_of head_from arg_of judged width_of least_of pick
in_byte s least = rw (le-ltb (length s) 1 (there s 0 (omega arith)), one_spells s, le-ltb (get_or s 0 0) 24 least)

in_two : (s : List ℕ) → 2 ≤ length s → 1 ≤ get_or s 0 0 → head_of 25 s ≡ a_head 0 (get_or s 0 0 * 256 + get_or s 1 0) 3
unfolding head_of head_by initial_of head_from arg_of judged width_of least_of pick
in_two s long least = rw (le-ltb (length s) 2 long, two_spell s, le-ltb (get_or s 0 0 * 256 + get_or s 1 0) 256 (omega arith))

-- a head with w bytes of argument: no simple value below 32, and no number that needs fewer
wide_head : (first w : ℕ) (s : List ℕ) → first % 32 < 28 → width_of (first % 32) ≡ w → 1 ≤ w → w ≤ length s
    → (first / 32 ≡ 7 → w ≡ 1 → 32 ≤ big_endian s w) → ((first / 32 ≡ 7 → ⊥) → least_of w ≤ big_endian s w)
    → head_of first s ≡ a_head (first / 32) (big_endian s w) (1 + w)
unfolding arg_of pick
wide_head first w s low is some room simple number =
    first_case Is first s (λ lo _. absurd (omega arith)) (λ e. absurd (omega arith)) (λ _ cut. absurd (omega (arith, is)))
    (λ _ _. rw (is, ne_eqb w 0 (λ e. omega arith))
    (judged_case Is (first / 32) (big_endian s w) w (λ m e lt. absurd (omega (arith, simple m e))) (λ ne lt. absurd (omega (arith, number ne))) (λ _ _. refl)))
  where
    Is : HeadRead → Type 0
    Is x = x ≡ a_head (first / 32) (big_endian s w) (1 + w)

-- major types 0, 1 and 7
leaves : {first : ℕ} → (first < 64) ⊎ (224 ≤ first) → first < 256 → (first / 32 < 2) ⊎ (first / 32 ≡ 7)
leaves (inl low) byte = inl (omega arith)
leaves (inr high) byte = inr (omega arith)

-- ---- a map and a tag by their one byte
module _ (first : ℕ) (s : List ℕ) (left : ℕ) where
  pub map_opened : 160 ≤ first → first < 184 → left ≢ 0 → step_at left (first ∷ s) ≡ Ok (Opened 1 (first - 160) true)
  unfolding step_at step_from step_of opens pick
  map_opened lo hi may = rw (headed first 5 (first - 160) s (omega arith) (omega arith), ne_eqb left 0 may)

  pub tag_opened : 192 ≤ first → first < 216 → left ≢ 0 → step_at left (first ∷ s) ≡ Ok (Opened 1 1 false)
  unfolding step_at step_from step_of opens pick
  tag_opened lo hi may = rw (headed first 6 (first - 192) s (omega arith) (omega arith), ne_eqb left 0 may)

module _ (s : List ℕ) (at : ℕ) where
  -- ---- heads in place
  in_place : at < length s → head_at (drop at s) ≡ head_of (get_or s at 0) (drop (suc at) s)
  unfolding head_at
  in_place h = ap head_at (drop-cons s at 0 h)

  after : (i : ℕ) → get_or (drop (suc at) s) i 0 ≡ get_or s (at + suc i) 0
  after i = get_or-drop (suc at) s i 0 ∙ ap (λ (k : ℕ). get_or s k 0) (omega arith)

  in_first : (major arg : ℕ) → at < length s → arg < 24 → get_or s at 0 ≡ major * 32 + arg → head_at (drop at s) ≡ a_head major arg 1
  in_first major arg h low e = ap head_at (drop-cons s at 0 h) ∙ headed (get_or s at 0) major arg (drop (suc at) s) low e

  pub one_byte : at < length s → get_or s at 0 % 32 < 24 → head_at (drop at s) ≡ a_head (get_or s at 0 / 32) (get_or s at 0 % 32) 1
  one_byte h low = in_first _ _ h low (omega arith)

  pub null_head : get_or s at 0 ≡ 0xF6 → head_at (drop at s) ≡ a_head 7 22 1
  null_head is = in_first 7 22 (there s at (omega arith)) (omega arith) (omega arith)

  pub small_head : at < length s → get_or s at 0 < 24 → head_at (drop at s) ≡ a_head 0 (get_or s at 0) 1
  small_head h low = in_first 0 _ h low (omega arith)

  pub array_head : 128 ≤ get_or s at 0 → get_or s at 0 < 152 → head_at (drop at s) ≡ a_head 4 (get_or s at 0 - 128) 1
  array_head lo hi = in_first 4 _ (there s at (omega arith)) (omega arith) (omega arith)

  pub two_bytes : get_or s at 0 ≡ 24 → 24 ≤ get_or s (at + 1) 0 → head_at (drop at s) ≡ a_head 0 (get_or s (at + 1) 0) 2
  two_bytes is least = in_place (there s at (omega arith)) ∙ rw (is, ← after 0) (in_byte (drop (suc at) s) (rw (after 0) least))

  pub three_bytes : at + 2 < length s → get_or s at 0 ≡ 25 → 1 ≤ get_or s (at + 1) 0
      → head_at (drop at s) ≡ a_head 0 (get_or s (at + 1) 0 * 256 + get_or s (at + 2) 0) 3
  three_bytes h is least =
      let d = length-drop (suc at) s in
      in_place (omega arith)
      ∙ rw (is, ← after 0, ← after 1) (in_two (drop (suc at) s) (omega arith) (rw (after 0) least))

  -- ---- what the walk makes of them
  module _ (left : ℕ) where
    leaf : (major arg len : ℕ) → (major < 2) ⊎ (major ≡ 7) → head_at (drop at s) ≡ a_head major arg len → step_at left (drop at s) ≡ Ok (Passed len)
    unfolding step_at step_from step_of pick
    leaf major arg len (inl low) e =
        rw (e, ne_eqb major 7 (λ is. omega arith), lt-leb 4 major (omega arith), lt-leb 2 major low)
    leaf major arg len (inr is) e = rw (e, is)

    pub small_passed : at < length s → get_or s at 0 < 24 → step_at left (drop at s) ≡ Ok (Passed 1)
    small_passed h low = leaf 0 _ 1 (inl (omega arith)) (small_head h low)

    -- a number, a simple value or a float, in one byte
    pub leaf_passed : at < length s → get_or s at 0 % 32 < 24 → (get_or s at 0 < 64) ⊎ (224 ≤ get_or s at 0) → get_or s at 0 < 256
        → step_at left (drop at s) ≡ Ok (Passed 1)
    leaf_passed h low which byte = leaf _ _ 1 (leaves which byte) (one_byte h low)

    -- … with w bytes of argument, of a number that needs so many
    wide_passed : (w : ℕ) → at + w < length s → get_or s at 0 % 32 < 28 → width_of (get_or s at 0 % 32) ≡ w → 1 ≤ w
        → (get_or s at 0 < 64) ⊎ (224 ≤ get_or s at 0) → get_or s at 0 < 256 → (224 ≤ get_or s at 0 → w ≡ 1 → 32 ≤ get_or s (at + 1) 0)
        → (get_or s at 0 < 64 → least_of w ≤ big_endian (drop (suc at) s) w) → step_at left (drop at s) ≡ Ok (Passed (1 + w))
    wide_passed w h low is some which byte simple number =
        let rest = drop (suc at) s in
        let room : w ≤ length rest = omega (arith, length-drop (suc at) s) in
        leaf (get_or s at 0 / 32) (big_endian rest w) (1 + w) (leaves which byte)
        (in_place (omega arith) ∙ wide_head (get_or s at 0) w rest low is some room reserved long)
      where
        reserved : get_or s at 0 / 32 ≡ 7 → w ≡ 1 → 32 ≤ big_endian (drop (suc at) s) w
        reserved e one = rw (one, one_spells (drop (suc at) s), after 0) (simple (omega arith) one)

        long : (get_or s at 0 / 32 ≡ 7 → ⊥) → least_of w ≤ big_endian (drop (suc at) s) w
        long ne = elim which [ inl n ↦ number n | inr x ↦ absurd (ne (omega arith)) ]

    pub byte_passed : at + 1 < length s → get_or s at 0 % 32 ≡ 24 → get_or s at 0 < 64 → 24 ≤ get_or s (at + 1) 0 → step_at left (drop at s) ≡ Ok (Passed 2)
    unfolding width_of least_of pick
    byte_passed h is low least =
        wide_passed 1 h (omega arith) (rw is refl) (omega arith) (inl low) (omega arith) (λ hi _. absurd (omega arith))
        (λ _. omega (arith, one_spells (drop (suc at) s), after 0, least))

    pub two_passed : at + 2 < length s → get_or s at 0 % 32 ≡ 25 → get_or s at 0 < 64 → 1 ≤ get_or s (at + 1) 0 → step_at left (drop at s) ≡ Ok (Passed 3)
    unfolding width_of least_of pick
    two_passed h is low least =
        wide_passed 2 h (omega arith) (rw is refl) (omega arith) (inl low) (omega arith) (λ hi _. absurd (omega arith))
        (λ _. omega (arith, two_spell (drop (suc at) s), after 0, least))

    pub four_passed : at + 4 < length s → get_or s at 0 % 32 ≡ 26 → get_or s at 0 < 64 → 1 ≤ get_or s (at + 1) 0 * 256 + get_or s (at + 2) 0
        → step_at left (drop at s) ≡ Ok (Passed 5)
    unfolding width_of least_of pick
    four_passed h is low least =
        wide_passed 4 h (omega arith) (rw is refl) (omega arith) (inl low) (omega arith) (λ hi _. absurd (omega arith))
        (λ _. omega (arith, four_spell (drop (suc at) s), after 0, after 1, least))

    pub eight_passed : at + 8 < length s → get_or s at 0 % 32 ≡ 27 → get_or s at 0 < 64
        → 1 ≤ get_or s (at + 1) 0 * 256 + get_or s (at + 2) 0 + (get_or s (at + 3) 0 * 256 + get_or s (at + 4) 0) → step_at left (drop at s) ≡ Ok (Passed 9)
    unfolding width_of least_of pick
    eight_passed h is low least =
        wide_passed 8 h (omega arith) (rw is refl) (omega arith) (inl low) (omega arith) (λ hi _. absurd (omega arith))
        (λ _. omega (arith, eight_spell (drop (suc at) s), after 0, after 1, after 2, after 3, least))

    pub simple_passed : at + 1 < length s → get_or s at 0 % 32 ≡ 24 → 224 ≤ get_or s at 0 → get_or s at 0 < 256 → 32 ≤ get_or s (at + 1) 0
        → step_at left (drop at s) ≡ Ok (Passed 2)
    unfolding width_of pick
    simple_passed h is high byte least =
        wide_passed 1 h (omega arith) (rw is refl) (omega arith) (inr high) byte (λ _ _. least) (λ low. absurd (omega arith))

    pub float_passed : (w : ℕ) → at + w < length s → get_or s at 0 % 32 < 28 → width_of (get_or s at 0 % 32) ≡ w → 2 ≤ w → 224 ≤ get_or s at 0
        → get_or s at 0 < 256 → step_at left (drop at s) ≡ Ok (Passed (1 + w))
    float_passed w h low is some high byte =
        wide_passed w h low is (omega arith) (inr high) byte (λ _ e. absurd (omega arith)) (λ l. absurd (omega arith))

    pub string_passed : 64 ≤ get_or s at 0 → get_or s at 0 < 128 → get_or s at 0 % 32 < 24 → get_or s at 0 % 32 ≤ length s - at - 1
        → step_at left (drop at s) ≡ Ok (Passed (1 + get_or s at 0 % 32))
    unfolding step_at step_from step_of pick
    string_passed lo hi low room =
        let first = get_or s at 0 in
        rw (
          one_byte (there s at (omega arith)) low,
          length-drop at s,
          ne_eqb (first / 32) 7 (λ e. omega arith),
          lt-leb 4 (first / 32) (omega arith),
          le-leb 2 (first / 32) (omega arith),
          le-leb (first % 32) (length s - at - 1) room,
        )

    pub byte_string_passed : 64 ≤ get_or s at 0 → get_or s at 0 < 128 → get_or s at 0 % 32 ≡ 24 → 24 ≤ get_or s (at + 1) 0
        → get_or s (at + 1) 0 + 2 + at ≤ length s → step_at left (drop at s) ≡ Ok (Passed (2 + get_or s (at + 1) 0))
    unfolding step_at step_from step_of width_of least_of pick
    byte_string_passed lo hi is least room =
        let first = get_or s at 0 in
        let n = get_or s (at + 1) 0 in
        let spelled = one_spells (drop (suc at) s) ∙ after 0 in
        let low : first % 32 < 28 = omega arith in
        let long : 1 ≤ length (drop (suc at) s) = omega (arith, length-drop (suc at) s) in
        let head =
        in_place (omega arith)
        ∙ wide_head first 1 (drop (suc at) s) low (rw is refl) (omega arith) long (λ e _. absurd (omega arith)) (λ _. omega (arith, spelled, least))
        ∙ ap (λ (k : ℕ). a_head (first / 32) k 2) spelled in
        rw (
          head,
          length-drop at s,
          ne_eqb (first / 32) 7 (λ e. omega arith),
          lt-leb 4 (first / 32) (omega arith),
          le-leb 2 (first / 32) (omega arith),
          le-leb n (length s - at - 2) (omega arith),
        )

    pub array_opened : 128 ≤ get_or s at 0 → get_or s at 0 < 152 → left ≢ 0 → step_at left (drop at s) ≡ Ok (Opened 1 (get_or s at 0 - 128) false)
    unfolding step_at step_from step_of opens pick
    array_opened lo hi may = rw (array_head lo hi, ne_eqb left 0 may)

    pub byte_tag_opened : at + 1 < length s → get_or s at 0 ≡ 216 → 24 ≤ get_or s (at + 1) 0 → left ≢ 0 → step_at left (drop at s) ≡ Ok (Opened 2 1 false)
    unfolding step_at step_from step_of opens width_of least_of pick
    byte_tag_opened h is least may =
        let spelled = one_spells (drop (suc at) s) ∙ after 0 in
        let long : 1 ≤ length (drop (suc at) s) = omega (arith, length-drop (suc at) s) in
        let wide = wide_head 216 1 (drop (suc at) s) (omega arith) refl (omega arith) long (λ e _. absurd (omega arith)) (λ _. omega (arith, spelled, least)) in
        rw (in_place (omega arith), is, wide, ne_eqb left 0 may)

    -- what holds of a byte and whatever follows it holds in place
    pub by_byte : (r : Option Turn) → at < length s → ((l : ℕ) (rest : List ℕ) → l ≢ 0 → CommonIs l (get_or s at 0 ∷ rest) r) → left ≢ 0
        → CommonIs left (drop at s) r
    by_byte r h f may = subst (λ (z : List ℕ). CommonIs left z r) (sym (drop-cons s at 0 h)) (f left (drop (suc at) s) may)
