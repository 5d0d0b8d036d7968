-- The relay table between its bytes and its numbers.
-- Assumes nothing.
use Prim.Native.Nat.{ℕ, zero, suc, ◌+◌, ◌*◌, ◌-◌, ◌^◌, ◌≤◌, ◌<◌}
use mathlib.Core.Path.{◌≡◌, refl, sym, ap, ◌∙◌}
use mathlib.Core.List.{List, [], ◌∷◌, flat_map, append-nil}
use native.Mathlib.Nat.{mul-suc}
use native.Mathlib.Numerals.{towards_suc}
use native.Mathlib.Decide.{dec_lt}
use native.Mathlib.Omega.{arith}
use lib.ListN.{length, get_or, set, take, drop, length-append, length-drop}
use lib.Seq.{set_out, sets, sets-eq, take_all, take-add, drop_at, drop-cons, drop-drop}
use Rattle.base.specs.BigEndian.{Bytes, big_endian, bytes_of}
use Rattle.base.specs.Lists.{Every}
use Rattle.base.proofs.Digits.{length_bytes, read_back, spelled}
use Rattle.base.proofs.Parts.{bytes_drop, drop_past}
use Rattle.node_state.specs.Table.{table_numbers}
use Rattle.host.specs.Table.{table_bytes, numbers_in, loaded, saved}
use Rattle.host.specs.Widths.{TableFits}

-- ---- the loops: what is left of the whole, put from here on, gives the whole

-- at first all of it is left
sets_all : (l vs : List ℕ) → length vs ≡ length l → sets l 0 vs ≡ vs
sets_all l vs e = sets-eq vs l 0 (omega arith) ∙ rw (drop_past l (0 + length vs) (omega arith)) (append-nil vs)

pub length_numbers : (n : ℕ) (s : List ℕ) → length (numbers_in n s) ≡ n
unfolding numbers_in
length_numbers zero s = refl
length_numbers (suc n) s = ap suc (length_numbers n (drop 8 s))

module _ (b : List ℕ) where
  abbrev pub Loading : ℕ → List ℕ → Type 0
  Loading i t = sets t i (numbers_in (table_numbers - i) (drop (8 * i) b)) ≡ loaded b

  pub load_begun : (t : List ℕ) → length t ≡ table_numbers → Loading 0 t
  unfolding loaded
  load_begun t l = sets_all t (numbers_in table_numbers b) (length_numbers table_numbers b ∙ sym l)

  load_step : (i : ℕ) (t : List ℕ) → Loading i t → Loading (suc i) (set t i (big_endian (drop (8 * i) b) 8))
  unfolding numbers_in loaded
  load_step i t l = elim (dec_lt i table_numbers) [
    | yes h ↦
        let e : table_numbers - i ≡ suc (table_numbers - suc i) = omega arith in
        rw (mul-suc 8 i) (rw (e, drop-drop 8 (8 * i) b) at l)
    | no h ↦
        let none : table_numbers - i ≡ 0 = omega arith in
        let none' : table_numbers - suc i ≡ 0 = omega arith in
        let is : t ≡ loaded b = rw none at l in
        rw none' (set_out t i (big_endian (drop (8 * i) b) 8) (omega (arith, ap length is, length_numbers table_numbers b)) ∙ is)
  ]

  pub load_turn : (i x₀ x₁ x₂ x₃ : ℕ) (t : List ℕ) → Loading i t → x₀ ≡ big_endian (drop (8 * i) b) 8 → x₁ ≡ big_endian (drop (8 * (i + 1)) b) 8
      → x₂ ≡ big_endian (drop (8 * (i + 2)) b) 8 → x₃ ≡ big_endian (drop (8 * (i + 3)) b) 8
      → Loading (i + 4) (set (set (set (set t i x₀) (i + 1) x₁) (i + 2) x₂) (i + 3) x₃)
  load_turn i x₀ x₁ x₂ x₃ t l q₀ q₁ q₂ q₃ =
      simp (q₀, q₁, q₂, q₃, towards_suc)
      (load_step _ _ (load_step _ _ (load_step _ _ (load_step i t l))))

  pub load_done : (t : List ℕ) → Loading table_numbers t → t ≡ loaded b
  unfolding numbers_in
  load_done t l = l

-- nothing is stored past the end
sets_out : (l : List ℕ) (i : ℕ) (vs : List ℕ) → length l ≤ i → sets l i vs ≡ l
sets_out l i [] h = refl
sets_out l i (v ∷ vs) h = ap (λ (m : List ℕ). sets m (suc i) vs) (set_out l i v h) ∙ sets_out l (suc i) vs (omega arith)

pub length_saved : (t : List ℕ) → length (saved t) ≡ 8 * length t
unfolding saved flat_map
length_saved [] = refl
length_saved (x ∷ t) = length-append (bytes_of 8 x) (saved t) ∙ omega (arith, length_bytes 8 x, length_saved t)

module _ (t : List ℕ) where
  abbrev pub Saving : ℕ → List ℕ → Type 0
  Saving i b = sets b (8 * i) (saved (drop i t)) ≡ saved t

  pub save_begun : (b : List ℕ) → length t ≡ table_numbers → length b ≡ table_bytes → Saving 0 b
  save_begun b l h = sets_all b (saved t) (omega (arith, length_saved t))

  save_step : (i : ℕ) (b : List ℕ) → Saving i b → Saving (suc i) (sets b (8 * i) (bytes_of 8 (get_or t i 0)))
  unfolding saved flat_map bytes_of
  save_step i b l = elim (dec_lt i (length t)) [
    | yes h ↦ simp (mul-suc, towards_suc) (rw (drop-cons t i 0 h) at l)
    | no h ↦
        let is : b ≡ saved t = rw (drop_past t i (omega arith)) at l in
        rw (drop_past t (suc i) (omega arith)) (sets_out b (8 * i) (bytes_of 8 (get_or t i 0)) (omega (arith, ap length is, length_saved t)) ∙ is)
  ]

  pub save_turn : (i : ℕ) (b b₁ b₂ b₃ b₄ : List ℕ) → Saving i b → b₁ ≡ sets b (8 * i) (bytes_of 8 (get_or t i 0))
      → b₂ ≡ sets b₁ (8 * (i + 1)) (bytes_of 8 (get_or t (i + 1) 0)) → b₃ ≡ sets b₂ (8 * (i + 2)) (bytes_of 8 (get_or t (i + 2) 0))
      → b₄ ≡ sets b₃ (8 * (i + 3)) (bytes_of 8 (get_or t (i + 3) 0))
      → Saving (i + 4) b₄
  save_turn i b b₁ b₂ b₃ b₄ l q₁ q₂ q₃ q₄ =
      simp (q₄, q₃, q₂, q₁, towards_suc)
      (save_step (suc (suc (suc i))) _ (save_step (suc (suc i)) _ (save_step (suc i) _ (save_step i b l))))

  pub save_done : (b : List ℕ) → length t ≡ table_numbers → Saving table_numbers b → b ≡ saved t
  unfolding saved flat_map
  save_done b e l = rw (drop_past t table_numbers (omega arith)) at l

-- ---- there and back

numbers_saved : (t : List ℕ) → Every (λ x. x < 2 ^ 64) t → numbers_in (length t) (saved t) ≡ t
unfolding numbers_in saved flat_map
numbers_saved [] h = refl
numbers_saved (x ∷ t) h = rw (read_back 8 x (saved t) h.0, drop_at (bytes_of 8 x) (saved t) 8 (length_bytes 8 x), numbers_saved t h.1)

bytes_loaded : (n : ℕ) (b : List ℕ) → Bytes b → 8 * n ≤ length b → saved (numbers_in n b) ≡ take (8 * n) b
unfolding numbers_in saved flat_map
bytes_loaded zero b h l = refl
bytes_loaded (suc n) b h l =
    let e : 8 * suc n ≡ 8 + 8 * n = omega arith in
    rw (e, take-add 8 (8 * n) b, spelled 8 b (λ i _. h i) (omega arith), bytes_loaded n (drop 8 b) (bytes_drop 8 b h) (omega (arith, length-drop 8 b)))

-- for readers

-- Loading what was saved gives the table back.
pub saved_loads : (t : List ℕ) → TableFits t → loaded (saved t) ≡ t
unfolding loaded
saved_loads t h = rw (← h.sized) (numbers_saved t h.wide)

-- Saving what was loaded gives the bytes back.
pub loaded_saves : (b : List ℕ) → length b ≡ table_bytes → Bytes b → saved (loaded b) ≡ b
unfolding loaded
loaded_saves b e h = bytes_loaded table_numbers b h (omega arith) ∙ take_all table_bytes b (omega arith)
