-- The bounds of a token and of an item's size, and how the code's answers meet the definitions.
-- Assumes nothing.
use Rattle.std.specs.Result.{result_unwrap_or}
use Rattle.std.specs.Prelude.{Ok, Err}
use Rattle.cbor.specs.Head.{HeadRead, a_head}
use Rattle.cbor.specs.Item.{ItemRead}
use mathlib.Core.Path.{◌≡◌, refl, sym, ap, ◌∙◌, subst}
use mathlib.Core.List.{List, [], ◌∷◌}
use Prim.Native.Nat.{ℕ, ◌+◌, ◌-◌, ◌/◌, ◌%◌, ◌≤◌, ◌<◌, zero-le}
use native.Mathlib.Nat.{add-zero, le_refl}
use native.Mathlib.Omega.{arith}
use lib.ListN.{length, take, drop, length-drop}
use lib.Seq.{drop-drop}
use lib.Dec.{ltb, leb, eqb, lit≤}
use borrow.Author.Tests.{ltb-true, ltb-false, leb-true, eqb-true}
use Rattle.base.specs.Pick.{pick}
use Rattle.base.proofs.Picks.{pick-case, both, one_test}
use Rattle.base.proofs.Parts.{rest_is, drop_past}
use Rattle.cbor.specs.declared.token.Token.{Token}
use Rattle.cbor.specs.Head.{width_of, arg_of, head_at}
use Rattle.cbor.specs.Item.{first_item, run, enough, next, step_at, step_from}
use Rattle.cbor.specs.Token.{nothing_at, token_of, token_from, token_at, TokenIs, size_from, size_at, SizeIs, items_in, up_to}
use Rattle.cbor.proofs.Bounds.{HeadOk, head_ok}
use Rattle.cbor.proofs.HeadExact.{judged_case, first_case}
use Rattle.cbor.proofs.Within.{size_within}

-- ---- the bounds of a token
-- a head with an argument above 23 has two bytes at least
abbrev HeadLong : HeadRead → Type 0
HeadLong (Err why) = Unit {0}
HeadLong (Ok head) = 23 < head.arg → 2 ≤ head.len

head_long : (s : List ℕ) → HeadLong (head_at s)
unfolding head_at arg_of width_of pick
head_long [] = tt
head_long (first ∷ s) =
    first_case HeadLong first s (λ _ _. tt) (λ _. tt) (λ _ _. tt)
    (λ _ _. judged_case HeadLong (first / 32) (arg_of first (width_of (first % 32)) s) (width_of (first % 32)) (λ _ _ _. tt) (λ _ _. tt)
    (λ _ _ over. let one = wide over in omega arith))
  where
    By : ℕ → Type 0
    By width = 23 < arg_of first width s → 1 ≤ width

    wide : By (width_of (first % 32))
    wide =
        pick-case By (ltb (first % 32) 24) (λ e over. absurd (omega (arith, ltb-true (first % 32) 24 e)))
        (λ _. both By (eqb (first % 32) 24) (λ _. lit≤ tt)
        (both By (eqb (first % 32) 25) (λ _. lit≤ tt) (both By (eqb (first % 32) 26) (λ _. lit≤ tt) (λ _. lit≤ tt))))

-- where it stands, and what it has at least: a byte, two where the argument is above 23, and a string's own
pub record TokenHas (size at : ℕ) (t : Token) : Type 0 where
  pub here : t.at ≡ at
  pub start : t.body ≤ t.next
  pub end : t.next ≤ size
  pub some : t.major < 8 → at + 1 ≤ t.next
  pub wide : 23 < t.arg → at + 2 ≤ t.next
  pub string : 1 < t.major → t.major < 4 → t.next ≡ t.body + t.arg

nothing_has : (size at : ℕ) → TokenHas size at (nothing_at at)
unfolding nothing_at
nothing_has size at =
    record {
      here = refl;
      start = zero-le;
      end = zero-le;
      some = λ k. absurd (omega arith);
      wide = λ k. absurd (omega arith);
      string = λ _ k. absurd (omega arith);
    }

has_from : (size at room : ℕ) (x : HeadRead) → room ≡ size - at → HeadOk room x → HeadLong x → TokenHas size at (token_from at room x)
unfolding token_from token_of
has_from size at room (Err why) r h l = nothing_has size at
has_from size at room (Ok head) r (some, fits) l =
    pick-case Has _
    (λ e. pick-case Has _
    (λ f. pick-case Has _
    (λ g. record {
      here = refl;
      start = omega arith;
      end = omega (arith, leb-true head.arg (room - head.len) g);
      some = λ _. omega arith;
      wide = λ k. omega (arith, l k);
      string = λ _ _. refl;
    })
    (λ _. nothing_has size at))
    (λ f. leaf (λ _ k. omega (arith, ltb-false head.major 4 f))))
    (λ e. leaf (λ k _. omega (arith, ltb-false 1 head.major e)))
  where
    Has : Token → Type 0
    Has = TokenHas size at

    leaf : (1 < head.major → head.major < 4 → ⊥)
        → Has (record { at = at; major = head.major; arg = head.arg; body = at + head.len; next = at + head.len })
    leaf other =
        record {
          here = refl;
          start = le_refl (at + head.len);
          end = omega arith;
          some = λ _. omega arith;
          wide = λ k. omega (arith, l k);
          string = λ j k. absurd (other j k);
        }

pub token_has : (s : List ℕ) (at : ℕ) → TokenHas (length s) at (token_at s at)
unfolding token_at
token_has s at = has_from (length s) at (length (drop at s)) (head_at (drop at s)) (length-drop at s) (head_ok (drop at s)) (head_long (drop at s))

-- ---- the code's answers
pub token_is : (s : List ℕ) (at : ℕ) (t : Token) → t ≡ token_at s at → TokenIs s at t
token_is s at t e = let h = subst (TokenHas (length s) at) (sym e) (token_has s at) in record { is = e; here = h.here; start = h.start; end = h.end }

pub token_none : (s : List ℕ) (at : ℕ) (t : Token) → length s ≤ at → t ≡ nothing_at at → TokenIs s at t
unfolding token_at token_from head_at
token_none s at t h e = token_is s at t (rw (drop_past s at h) e)

pub token_found : (s : List ℕ) (at : ℕ) (t : Token) (x y : HeadRead) → y ≡ head_at (take (length s - at) (drop at s)) → y ≡ x
    → t ≡ token_from at (length s - at) x → TokenIs s at t
unfolding token_at
token_found s at t x y e q f = token_is s at t (rw (length-drop at s, ← rest_is at s, ← e, q) f)

-- a token whose head is told otherwise
pub token_told : (s : List ℕ) (at : ℕ) (t : Token) (major arg len n : ℕ) → head_at (drop at s) ≡ a_head major arg len → n ≡ arg
    → t ≡ token_of at (length s - at) major n len → TokenIs s at t
unfolding token_at token_from
token_told s at t major arg len n e same f = token_is s at t (rw (e, length-drop at s, ← same) f)

pub head_fits : (s : List ℕ) (at major arg len : ℕ) (y : HeadRead) → y ≡ head_at (take (length s - at) (drop at s)) → y ≡ a_head major arg len
    → len ≤ length s - at
head_fits s at major arg len y e q =
    rw (length-drop at s) at (subst (HeadOk (length (drop at s))) (ap head_at (sym (rest_is at s)) ∙ sym e ∙ q) (head_ok (drop at s))).1

pub token_end : (s : List ℕ) (at : ℕ) → (token_at s at).next ≤ length s
token_end s at = (token_has s at).end

-- ---- by its numbers
-- items are of an array
pub is_array : (t : Token) → (items_in t ≡ 0 → ⊥) → t.major ≡ 4
unfolding items_in
is_array t = pick-case (λ n. (n ≡ 0 → ⊥) → t.major ≡ 4) (eqb t.major 4) (λ e _. eqb-true t.major 4 e) (λ e n. absurd (n refl))

-- a number within its limit
pub is_number : (limit : ℕ) (t : Token) → up_to limit t ≤ limit → (t.major ≡ 0) × (up_to limit t ≡ t.arg)
unfolding up_to
is_number limit t =
    pick-case by (eqb t.major 0)
    (λ e. pick-case by (leb t.arg limit) (λ _ _. (eqb-true t.major 0 e, refl)) (λ _ h. absurd (omega arith)))
    (λ e h. absurd (omega arith))
  where
    by : ℕ → Type 0
    by n = n ≤ limit → (t.major ≡ 0) × (n ≡ t.arg)

-- ---- a token seen from an earlier place
-- the same head with its string at two places: one is nothing where the other is, and the next heads lie as far off
pub record Shifted (by : ℕ) (t u : Token) : Type 0 where
  pub major : t.major ≡ u.major
  pub arg : t.arg ≡ u.arg
  pub next : (u.major ≡ 8 → ⊥) → t.next ≡ by + u.next

shifted_from : (by at room : ℕ) (x : HeadRead) → Shifted by (token_from (by + at) room x) (token_from at room x)
unfolding token_from token_of nothing_at pick
shifted_from by at room (Err why) = record { major = refl; arg = refl; next = λ ne. absurd (ne refl) }
shifted_from by at room (Ok head) =
    one_test Same (ltb 1 head.major)
    (one_test Same (ltb head.major 4)
    (one_test Same (leb head.arg (room - head.len)) (record { major = refl; arg = refl; next = λ _. omega arith })
    (record { major = refl; arg = refl; next = λ ne. absurd (ne refl) }))
    (record { major = refl; arg = refl; next = λ _. omega arith }))
    (record { major = refl; arg = refl; next = λ _. omega arith })
  where
    Same : Token → Token → Type 0
    Same = Shifted by

pub token_shifted : (s : List ℕ) (by at : ℕ) → Shifted by (token_at s (by + at)) (token_at (drop by s) at)
unfolding token_at
token_shifted s by at = rw (drop-drop at by s) (shifted_from by at (length (drop (by + at) s)) (head_at (drop (by + at) s)))

-- so at the part that begins with it
pub token_first : (s : List ℕ) (at : ℕ) → Shifted at (token_at s at) (token_at (drop at s) 0)
token_first s at = subst (λ (p : ℕ). Shifted at (token_at s p) (token_at (drop at s) 0)) (add-zero at) (token_shifted s at 0)

-- ---- an item passed over
pub size_le : (levels : ℕ) (s : List ℕ) (at : ℕ) → size_at levels s at ≤ length s - at
unfolding size_at
size_le levels s at = rw (length-drop at s) at (size_within levels (drop at s))

pub size_none : (levels : ℕ) (s : List ℕ) (at : ℕ) → length s ≤ at → SizeIs levels s at 0
unfolding size_at size_from first_item run enough next step_at step_from head_at
size_none levels s at h = record { is = rw (drop_past s at h); within = zero-le }

-- an item's size, where none is there 0
unwrapped : (x : ItemRead) → result_unwrap_or x 0 ≡ size_from x
unfolding size_from
unwrapped (Ok end) = refl
unwrapped (Err why) = refl

pub size_found : (levels : ℕ) (s : List ℕ) (at size : ℕ) (x : ItemRead) → x ≡ first_item levels (take (length s - at) (drop at s))
    → size ≡ result_unwrap_or x 0 → SizeIs levels s at size
unfolding size_at
size_found levels s at size x e is =
    let same : x ≡ first_item levels (drop at s) = e ∙ ap (first_item levels) (rest_is at s) in
    let here : size ≡ size_at levels s at = is ∙ unwrapped x ∙ ap size_from same in
    record { is = here; within = rw here (size_le levels s at) }
