-- What is accepted as UTF-8 is just what spells scalar values, in one way.
-- Assumes nothing.
use mathlib.Core.Path.{◌≡◌, refl, sym, ap, ap₂, ◌∙◌}
use mathlib.Core.Logic.{◌↔◌}
use mathlib.Core.Bool.{Bool, true, false, false≢true}
use mathlib.Core.List.{List, [], ◌∷◌, ◌++◌, append_cancel_left}
use Prim.Native.Nat.{ℕ, zero, suc, ◌<◌, ◌≤◌}
use native.Mathlib.Omega.{arith}
use borrow.Author.Tests.{ltb-true, ltb-false, eqb-true, eqb-false}
use lib.Dec.{ltb, eqb}
use lib.ListN.{length}
use Rattle.base.specs.Pick.{pick}
use Rattle.base.specs.Lists.{Every}
use Rattle.base.proofs.Picks.{pick-case, past}
use Rattle.utf8.specs.Utf8.{tails_of, least_tail, greatest_tail, goes_on, is_utf8, Scalar, scalar_bytes, text_bytes, Utf8}
use Rattle.utf8.proofs.Utf8Scalar.{tails_case, passed, Spells, spells_one, spells_two, spells_three, spells_four, first_of, first_is, some_bytes}

-- one scalar value more
put : (h s : List ℕ) → Spells h → Utf8 s → Utf8 (h ++ s)
unfolding text_bytes
put h s (c, g, e) (cs, gs, es) = (c ∷ cs, (g, gs), cc)

-- so many tails, the first from low to high, and then a text
abbrev Rest : (due low high : ℕ) → List ℕ → Type 0
Rest zero low high s = Utf8 s
Rest (suc due) low high [] = ⊥
Rest (suc due) low high (t ∷ s) = (low ≤ t) × (t ≤ high) × Rest due 0x80 0xBF s

-- a lead byte, its tails and a text

joined_two : (b : ℕ) (s : List ℕ) → 0xC2 ≤ b → b < 0xE0 → Rest 1 (least_tail b) (greatest_tail b) s → Utf8 (b ∷ s)
joined_two b [] l h r = elim r [ ]
joined_two b (t ∷ s) l h (tl, th, r) = put (b ∷ t ∷ []) s (spells_two b t l h tl th) r

joined_three : (b : ℕ) (s : List ℕ) → 0xE0 ≤ b → b < 0xF0 → Rest 2 (least_tail b) (greatest_tail b) s → Utf8 (b ∷ s)
joined_three b [] l h r = elim r [ ]
joined_three b (t ∷ []) l h (tl, th, r) = elim r [ ]
joined_three b (t ∷ u ∷ s) l h (tl, th, (ul, uh, r)) = put (b ∷ t ∷ u ∷ []) s (spells_three b t u l h tl th ul uh) r

joined_four : (b : ℕ) (s : List ℕ) → 0xF0 ≤ b → b < 0xF5 → Rest 3 (least_tail b) (greatest_tail b) s → Utf8 (b ∷ s)
joined_four b [] l h r = elim r [ ]
joined_four b (t ∷ []) l h (tl, th, r) = elim r [ ]
joined_four b (t ∷ u ∷ []) l h (tl, th, (ul, uh, r)) = elim r [ ]
joined_four b (t ∷ u ∷ v ∷ s) l h (tl, th, (ul, uh, (vl, vh, r))) = put (b ∷ t ∷ u ∷ v ∷ []) s (spells_four b t u v l h tl th ul uh vl vh) r

joined : (b : ℕ) (s : List ℕ) → (tails_of b ≡ 0 → ⊥) → Rest (tails_of b) (least_tail b) (greatest_tail b) s → Utf8 (b ∷ s)
joined b s =
    tails_case b (λ n. (n ≡ 0 → ⊥) → Rest n (least_tail b) (greatest_tail b) s → Utf8 (b ∷ s)) (λ _ some _. absurd (some refl))
    (λ l h _. joined_two b s l h) (λ l h _. joined_three b s l h) (λ l h _. joined_four b s l h) (λ _ some _. absurd (some refl))

-- a byte with nothing due, where what is accepted after it is what the state asks for
begun : (go : (due low high : ℕ) → Bool) (b low high : ℕ) (s : List ℕ) → ((due low high : ℕ) → go due low high ≡ true → Rest due low high s)
    → pick (ltb b 0x80) (go 0 low high) (pick (eqb (tails_of b) 0) false (go (tails_of b) (least_tail b) (greatest_tail b))) ≡ true → Utf8 (b ∷ s)
begun go b low high s rest = pick-case (λ x. x ≡ true → Utf8 (b ∷ s)) (ltb b 0x80) alone (λ _. led)
  where
    alone : ltb b 0x80 ≡ true → go 0 low high ≡ true → Utf8 (b ∷ s)
    alone t e = put (b ∷ []) s (spells_one b (ltb-true b 0x80 t)) (rest 0 low high e)

    led : pick (eqb (tails_of b) 0) false (go (tails_of b) (least_tail b) (greatest_tail b)) ≡ true → Utf8 (b ∷ s)
    led e =
        let p = past (eqb (tails_of b) 0) e false≢true in
        joined b s (eqb-false (tails_of b) 0 p.0) (rest (tails_of b) (least_tail b) (greatest_tail b) p.1)

-- what is accepted in a state is what the state asks for
accepted : (s : List ℕ) (due low high : ℕ) → goes_on due low high s ≡ true → Rest due low high s
unfolding goes_on text_bytes
accepted [] zero low high e = ([], tt, refl)
accepted [] (suc due) low high e = absurd (omega (arith, eqb-true (suc due) 0 e))
accepted (b ∷ s) zero low high e = begun (λ due low high. goes_on due low high s) b low high s (accepted s) e
accepted (b ∷ s) (suc due) low high e =
    let p = past (ltb b low) e false≢true in
    let q = past (ltb high b) p.1 false≢true in
    (ltb-false b low p.0, ltb-false high b q.0, accepted s due 0x80 0xBF q.1)

complete : (cs : List ℕ) → Every Scalar cs → is_utf8 (text_bytes cs) ≡ true
unfolding is_utf8 text_bytes goes_on
complete [] g = refl
complete (c ∷ cs) g = passed c (text_bytes cs) g.0 ∙ complete cs g.1

-- for readers

-- What is accepted is just the bytes of texts, lists of scalar values,
pub utf8_exactly : (s : List ℕ) → is_utf8 s ≡ true ↔ Utf8 s
unfolding is_utf8
utf8_exactly s = (accepted s 0 0x80 0xBF, λ (cs, g, e). ap is_utf8 (sym e) ∙ complete cs g)

-- and two texts never have the same bytes.
pub utf8_unique : (cs ds : List ℕ) → text_bytes cs ≡ text_bytes ds → cs ≡ ds
unfolding text_bytes
utf8_unique [] [] e = refl
utf8_unique [] (d ∷ ds) e = absurd (omega (arith, some_bytes d (text_bytes ds), ap length e))
utf8_unique (c ∷ cs) [] e = absurd (omega (arith, some_bytes c (text_bytes cs), ap length e))
utf8_unique (c ∷ cs) (d ∷ ds) e =
    let q : c ≡ d = sym (first_is c (text_bytes cs)) ∙ ap first_of e ∙ first_is d (text_bytes ds) in
    ap₂ (λ (x : ℕ) (xs : List ℕ). x ∷ xs) q (utf8_unique cs ds (append_cancel_left (scalar_bytes d) (text_bytes cs) (text_bytes ds) (rw q at e)))
