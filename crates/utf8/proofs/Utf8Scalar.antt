-- One scalar value and its bytes: they are accepted, what is accepted after a lead byte spells one, and the bytes tell
-- which one.
-- Assumes nothing.
use mathlib.Core.Path.{◌≡◌, refl, ◌∙◌}
use mathlib.Core.Logic.{inl, inr, ⊎_elim}
use mathlib.Core.List.{List, [], ◌∷◌, ◌++◌}
use Prim.Native.Nat.{ℕ, suc, ◌+◌, ◌-◌, ◌*◌, ◌/◌, ◌%◌, ◌^◌, ◌<◌, ◌≤◌}
use native.Mathlib.Decide.{dec_lt}
use native.Mathlib.Omega.{arith}
use borrow.Author.Tests.{ltb-true, ltb-false, eqb-true, eqb-false, lt-ltb, le-ltb, ne_eqb}
use lib.Dec.{ltb, eqb}
use lib.ListN.{length, get_or}
use Rattle.base.specs.Pick.{pick}
use Rattle.base.proofs.Picks.{pick-case}
use Rattle.utf8.specs.Utf8.{tails_of, least_tail, greatest_tail, goes_on, Scalar, scalar_bytes}

-- Cases of the definitions.

pub tails_case : (b : ℕ) (P : ℕ → Type 0)
    → (b < 0xC2 → P 0) → (0xC2 ≤ b → b < 0xE0 → P 1) → (0xE0 ≤ b → b < 0xF0 → P 2) → (0xF0 ≤ b → b < 0xF5 → P 3) → (0xF5 ≤ b → P 0) → P (tails_of b)
unfolding tails_of
tails_case b P none one two three past =
    pick-case P (ltb b 0xC2) (λ e. none (ltb-true b 0xC2 e)) (λ l1.
    pick-case P (ltb b 0xE0) (λ e. one (ltb-false b 0xC2 l1) (ltb-true b 0xE0 e)) (λ l2.
    pick-case P (ltb b 0xF0) (λ e. two (ltb-false b 0xE0 l2) (ltb-true b 0xF0 e)) (λ l3.
    pick-case P (ltb b 0xF5) (λ e. three (ltb-false b 0xF0 l3) (ltb-true b 0xF5 e)) (λ l4. past (ltb-false b 0xF5 l4)))))

-- a byte that tails follow
pub lead_from : (b : ℕ) → (tails_of b ≡ 0 → ⊥) → 0xC2 ≤ b
lead_from b =
    tails_case b (λ n. (n ≡ 0 → ⊥) → 0xC2 ≤ b) (λ _ some. absurd (some refl)) (λ l _ _. l) (λ l _ _. omega arith) (λ l _ _. omega arith) (λ l _. omega arith)

least_case : (b : ℕ) (P : ℕ → Type 0) → (b ≡ 0xE0 → P 0xA0) → (b ≡ 0xF0 → P 0x90) → ((b ≡ 0xE0 → ⊥) → (b ≡ 0xF0 → ⊥) → P 0x80) → P (least_tail b)
unfolding least_tail
least_case b P three four other =
    pick-case P (eqb b 0xE0) (λ e. three (eqb-true b 0xE0 e)) (λ n3.
    pick-case P (eqb b 0xF0) (λ e. four (eqb-true b 0xF0 e)) (λ n4. other (eqb-false b 0xE0 n3) (eqb-false b 0xF0 n4)))

greatest_case : (b : ℕ) (P : ℕ → Type 0) → (b ≡ 0xED → P 0x9F) → (b ≡ 0xF4 → P 0x8F) → ((b ≡ 0xED → ⊥) → (b ≡ 0xF4 → ⊥) → P 0xBF) → P (greatest_tail b)
unfolding greatest_tail
greatest_case b P three four other =
    pick-case P (eqb b 0xED) (λ e. three (eqb-true b 0xED e)) (λ n3.
    pick-case P (eqb b 0xF4) (λ e. four (eqb-true b 0xF4 e)) (λ n4. other (eqb-false b 0xED n3) (eqb-false b 0xF4 n4)))

scalar_case : (c : ℕ) (P : List ℕ → Type 0)
    → (c < 0x80 → P (c ∷ []))
    → (0x80 ≤ c → c < 0x800 → P ((0xC0 + c / 2 ^ 6) ∷ (0x80 + c % 2 ^ 6) ∷ []))
    → (0x800 ≤ c → c < 0x10000 → P ((0xE0 + c / 2 ^ 12) ∷ (0x80 + c / 2 ^ 6 % 2 ^ 6) ∷ (0x80 + c % 2 ^ 6) ∷ []))
    → (0x10000 ≤ c → P ((0xF0 + c / 2 ^ 18) ∷ (0x80 + c / 2 ^ 12 % 2 ^ 6) ∷ (0x80 + c / 2 ^ 6 % 2 ^ 6) ∷ (0x80 + c % 2 ^ 6) ∷ []))
    → P (scalar_bytes c)
unfolding scalar_bytes
scalar_case c P one two three four =
    pick-case P (ltb c 0x80) (λ e. one (ltb-true c 0x80 e)) (λ l1.
    pick-case P (ltb c 0x800) (λ e. two (ltb-false c 0x80 l1) (ltb-true c 0x800 e)) (λ l2.
    pick-case P (ltb c 0x10000) (λ e. three (ltb-false c 0x800 l2) (ltb-true c 0x10000 e)) (λ l3. four (ltb-false c 0x10000 l3))))

-- The bytes of a scalar value are accepted.

ascii : (b : ℕ) (s : List ℕ) → b < 0x80 → goes_on 0 0x80 0xBF (b ∷ s) ≡ goes_on 0 0x80 0xBF s
unfolding goes_on pick
ascii b s h = rw (lt-ltb b 0x80 h)

lead : (due b t : ℕ) (s : List ℕ) → tails_of b ≡ suc due → least_tail b ≤ t → t ≤ greatest_tail b → goes_on 0 0x80 0xBF (b ∷ t ∷ s) ≡ goes_on due 0x80 0xBF s
unfolding goes_on pick
lead due b t s e l g =
    let low = lead_from b (λ z. omega arith) in
    rw (le-ltb b 0x80 (omega arith), e, ne_eqb (suc due) 0 (λ q. omega arith), le-ltb t (least_tail b) l, le-ltb (greatest_tail b) t g)

tail : (due t : ℕ) (s : List ℕ) → 0x80 ≤ t → t ≤ 0xBF → goes_on (suc due) 0x80 0xBF (t ∷ s) ≡ goes_on due 0x80 0xBF s
unfolding goes_on pick
tail due t s l h = rw (le-ltb t 0x80 l, le-ltb 0xBF t h)

passed_two : (c : ℕ) (r : List ℕ) → 0x80 ≤ c → c < 0x800 → goes_on 0 0x80 0xBF ((0xC0 + c / 2 ^ 6) ∷ (0x80 + c % 2 ^ 6) ∷ r) ≡ goes_on 0 0x80 0xBF r
passed_two c r l h =
    let b = 0xC0 + c / 2 ^ 6 in
    let t = 0x80 + c % 2 ^ 6 in
    lead 0 b t r (tails_case b (λ n. n ≡ 1) (omega arith) (omega arith) (omega arith) (omega arith) (omega arith))
    (least_case b (λ x. x ≤ t) (omega arith) (omega arith) (omega arith)) (greatest_case b (λ x. t ≤ x) (omega arith) (omega arith) (omega arith))

passed_three : (c : ℕ) (r : List ℕ) → Scalar c → 0x800 ≤ c → c < 0x10000
    → goes_on 0 0x80 0xBF ((0xE0 + c / 2 ^ 12) ∷ (0x80 + c / 2 ^ 6 % 2 ^ 6) ∷ (0x80 + c % 2 ^ 6) ∷ r) ≡ goes_on 0 0x80 0xBF r
passed_three c r g l h =
    let b = 0xE0 + c / 2 ^ 12 in
    let t = 0x80 + c / 2 ^ 6 % 2 ^ 6 in
    lead 1 b t _ (tails_case b (λ n. n ≡ 2) (omega arith) (omega arith) (omega arith) (omega arith) (omega arith))
    (least_case b (λ x. x ≤ t) (omega arith) (omega arith) (omega arith))
    (greatest_case b (λ x. t ≤ x) (λ e. ⊎_elim (λ k. omega arith) (λ k. omega arith) g) (omega arith) (omega arith))
    ∙ tail 0 (0x80 + c % 2 ^ 6) r (omega arith) (omega arith)

passed_four : (c : ℕ) (r : List ℕ) → 0x10000 ≤ c → c ≤ 0x10FFFF
    → goes_on 0 0x80 0xBF ((0xF0 + c / 2 ^ 18) ∷ (0x80 + c / 2 ^ 12 % 2 ^ 6) ∷ (0x80 + c / 2 ^ 6 % 2 ^ 6) ∷ (0x80 + c % 2 ^ 6) ∷ r) ≡ goes_on 0 0x80 0xBF r
passed_four c r l h =
    let b = 0xF0 + c / 2 ^ 18 in
    let t = 0x80 + c / 2 ^ 12 % 2 ^ 6 in
    lead 2 b t _ (tails_case b (λ n. n ≡ 3) (omega arith) (omega arith) (omega arith) (omega arith) (omega arith))
    (least_case b (λ x. x ≤ t) (omega arith) (omega arith) (omega arith)) (greatest_case b (λ x. t ≤ x) (omega arith) (omega arith) (omega arith))
    ∙ tail 1 (0x80 + c / 2 ^ 6 % 2 ^ 6) _ (omega arith) (omega arith)
    ∙ tail 0 (0x80 + c % 2 ^ 6) r (omega arith) (omega arith)

pub passed : (c : ℕ) (r : List ℕ) → Scalar c → goes_on 0 0x80 0xBF (scalar_bytes c ++ r) ≡ goes_on 0 0x80 0xBF r
passed c r g =
    scalar_case c (λ s. goes_on 0 0x80 0xBF (s ++ r) ≡ goes_on 0 0x80 0xBF r)
    (ascii c r) (passed_two c r) (passed_three c r g) (λ l. passed_four c r l (⊎_elim (λ k. omega arith) (λ k. k.1) g))

-- What two, three and four bytes spell: their lower bits put together, which is their sum less what the upper bits add
-- to it.

abbrev value_two : (b t : ℕ) → ℕ
value_two b t = b * 2 ^ 6 + t - 0x3080

abbrev value_three : (b t u : ℕ) → ℕ
value_three b t u = b * 2 ^ 12 + t * 2 ^ 6 + u - 0xE2080

abbrev value_four : (b t u v : ℕ) → ℕ
value_four b t u v = b * 2 ^ 18 + t * 2 ^ 12 + u * 2 ^ 6 + v - 0x3C82080

-- What is accepted after a lead byte spells a scalar value with it.

abbrev pub Spells : List ℕ → Type 0
Spells s = (c : ℕ) × Scalar c × (scalar_bytes c ≡ s)

-- the first tail, whatever the lead byte
first_tail : (b t : ℕ) → least_tail b ≤ t → t ≤ greatest_tail b → (0x80 ≤ t) × (t ≤ 0xBF)
first_tail b t l h = (
  least_case b (λ x. x ≤ t → 0x80 ≤ t) (omega arith) (omega arith) (omega arith) l,
  greatest_case b (λ x. t ≤ x → t ≤ 0xBF) (omega arith) (omega arith) (omega arith) h,
)

pub spells_one : (b : ℕ) → b < 0x80 → Spells (b ∷ [])
unfolding scalar_bytes pick
spells_one b h = (b, inl (omega arith), rw (lt-ltb b 0x80 h))

pub spells_two : (b t : ℕ) → 0xC2 ≤ b → b < 0xE0 → least_tail b ≤ t → t ≤ greatest_tail b → Spells (b ∷ t ∷ [])
unfolding scalar_bytes pick
spells_two b t bl bh tl th =
    let c = value_two b t in
    let range = first_tail b t tl th in
    let l1 : 0x80 ≤ c = omega arith in
    let l2 : c < 0x800 = omega arith in
    let eb : 0xC0 + c / 2 ^ 6 ≡ b = omega arith in
    let et : 0x80 + c % 2 ^ 6 ≡ t = omega arith in
    (c, inl (omega arith), rw (le-ltb c 0x80 l1, lt-ltb c 0x800 l2) (cc))

scalar_three : (b t u : ℕ) → b < 0xF0 → 0x80 ≤ t → t ≤ greatest_tail b → 0x80 ≤ u → u ≤ 0xBF → Scalar (value_three b t u)
scalar_three b t u bh tl th ul uh =
    greatest_case b (λ x. t ≤ x → Scalar (value_three b t u)) (λ e h. inl (omega arith)) (λ e h. inl (omega arith))
    (λ n _ h. elim (dec_lt b 0xED) [ yes k ↦ inl (omega arith) | no k ↦ inr (omega arith) ])
    th

pub spells_three : (b t u : ℕ) → 0xE0 ≤ b → b < 0xF0 → least_tail b ≤ t → t ≤ greatest_tail b → 0x80 ≤ u → u ≤ 0xBF → Spells (b ∷ t ∷ u ∷ [])
unfolding scalar_bytes pick
spells_three b t u bl bh tl th ul uh =
    let c = value_three b t u in
    let range = first_tail b t tl th in
    let l2 : 0x800 ≤ c = least_case b (λ x. x ≤ t → 0x800 ≤ c) (omega arith) (omega arith) (omega arith) tl in
    let l1 : 0x80 ≤ c = omega arith in
    let l3 : c < 0x10000 = omega arith in
    let eb : 0xE0 + c / 2 ^ 12 ≡ b = omega arith in
    let et : 0x80 + c / 2 ^ 6 % 2 ^ 6 ≡ t = omega arith in
    let eu : 0x80 + c % 2 ^ 6 ≡ u = omega arith in
    (c, scalar_three b t u bh range.0 th ul uh, rw (le-ltb c 0x80 l1, le-ltb c 0x800 l2, lt-ltb c 0x10000 l3) (cc))

pub spells_four : (b t u v : ℕ) → 0xF0 ≤ b → b < 0xF5 → least_tail b ≤ t → t ≤ greatest_tail b → 0x80 ≤ u → u ≤ 0xBF → 0x80 ≤ v → v ≤ 0xBF
    → Spells (b ∷ t ∷ u ∷ v ∷ [])
unfolding scalar_bytes pick
spells_four b t u v bl bh tl th ul uh vl vh =
    let c = value_four b t u v in
    let range = first_tail b t tl th in
    let l3 : 0x10000 ≤ c = least_case b (λ x. x ≤ t → 0x10000 ≤ c) (omega arith) (omega arith) (omega arith) tl in
    let h3 : c ≤ 0x10FFFF = greatest_case b (λ x. t ≤ x → c ≤ 0x10FFFF) (omega arith) (omega arith) (omega arith) th in
    let l1 : 0x80 ≤ c = omega arith in
    let l2 : 0x800 ≤ c = omega arith in
    let eb : 0xF0 + c / 2 ^ 18 ≡ b = omega arith in
    let et : 0x80 + c / 2 ^ 12 % 2 ^ 6 ≡ t = omega arith in
    let eu : 0x80 + c / 2 ^ 6 % 2 ^ 6 ≡ u = omega arith in
    let ev : 0x80 + c % 2 ^ 6 ≡ v = omega arith in
    (c, inr (omega arith), rw (le-ltb c 0x80 l1, le-ltb c 0x800 l2, le-ltb c 0x10000 l3) (cc))

-- The bytes tell which scalar value they begin with.

pub first_of : List ℕ → ℕ
first_of s =
    pick (ltb (get_or s 0 0) 0x80) (get_or s 0 0)
    (pick (ltb (get_or s 0 0) 0xE0) (value_two (get_or s 0 0) (get_or s 1 0))
    (pick (ltb (get_or s 0 0) 0xF0) (value_three (get_or s 0 0) (get_or s 1 0) (get_or s 2 0))
    (value_four (get_or s 0 0) (get_or s 1 0) (get_or s 2 0) (get_or s 3 0))))

value_four_is : (c : ℕ) → value_four (0xF0 + c / 2 ^ 18) (0x80 + c / 2 ^ 12 % 2 ^ 6) (0x80 + c / 2 ^ 6 % 2 ^ 6) (0x80 + c % 2 ^ 6) ≡ c
value_four_is c =
    let e : c / 2 ^ 12 ≡ c / 2 ^ 6 / 2 ^ 6 = omega arith in
    let e' : c / 2 ^ 18 ≡ c / 2 ^ 12 / 2 ^ 6 = omega arith in
    omega arith

pub first_is : (c : ℕ) (r : List ℕ) → first_of (scalar_bytes c ++ r) ≡ c
unfolding first_of pick
first_is c r =
    scalar_case c (λ s. first_of (s ++ r) ≡ c) (λ h. rw (lt-ltb c 0x80 h))
    (λ l h. let b = 0xC0 + c / 2 ^ 6 in rw (le-ltb b 0x80 (omega arith), lt-ltb b 0xE0 (omega arith)) (omega arith))
    (λ l h. let b = 0xE0 + c / 2 ^ 12 in rw (le-ltb b 0x80 (omega arith), le-ltb b 0xE0 (omega arith), lt-ltb b 0xF0 (omega arith)) (omega arith))
    (λ l. let b = 0xF0 + c / 2 ^ 18 in rw (le-ltb b 0x80 (omega arith), le-ltb b 0xE0 (omega arith), le-ltb b 0xF0 (omega arith)) (value_four_is c))

pub some_bytes : (c : ℕ) (r : List ℕ) → 1 ≤ length (scalar_bytes c ++ r)
some_bytes c r = scalar_case c (λ s. 1 ≤ length (s ++ r)) (omega arith) (omega arith) (omega arith) (omega arith)
