-- Two keys have the same numbers exactly if kind, session and initiator (with its length) are the same (rules 7.9).
-- Assumes nothing.
use mathlib.Core.Path.{◌≡◌, refl, sym, ap, ◌∙◌}
use mathlib.Core.Logic.{◌⊎◌, inl, inr, ◌↔◌}
use mathlib.Core.Bool.{Bool, true, false}
use mathlib.Core.List.{List}
use Prim.Native.Nat.{ℕ, ◌+◌, ◌*◌, ◌^◌, ◌≤◌, ◌<◌}
use native.Mathlib.Nat.{le_of_eq}
use native.Mathlib.Omega.{arith}
use lib.ListN.{length, take, drop, length-drop, take-append-drop}
use lib.Seq.{take_all}
use Rattle.base.specs.Pick.{pick}
use Rattle.base.specs.BigEndian.{big_endian, bytes_of, Bytes}
use Rattle.base.proofs.Digits.{spelled}
use Rattle.base.proofs.Parts.{bytes_drop}
use Rattle.node_state.proofs.Keys.{flag_same, tag_read}
use Rattle.node_state.specs.declared.key.Key.{Key}
use Rattle.node_state.specs.Table.{tag_in}
use Rattle.node_state.specs.Key.{tag_of, key_of}

-- ---- by the initiator's length

abbrev key_by : ℕ → ℕ → ℕ → Key
key_by first second third = record { first = first; second = second; third = third }

key_4 : (flood : Bool) (session : ℕ) (i : List ℕ) → length i ≡ 4 → key_of flood session i ≡ key_by (session + 2 ^ 32 * pick flood 3 1) (big_endian i 4) 0
unfolding key_of tag_of pick
key_4 flood session i e = rw (e) refl

key_16 : (flood : Bool) (session : ℕ) (i : List ℕ) → length i ≡ 16
    → key_of flood session i ≡ key_by (session + 2 ^ 32 * pick flood 4 2) (big_endian i 8) (big_endian (drop 8 i) 8)
unfolding key_of tag_of pick
key_16 flood session i e = rw (e) refl

-- ---- first numbers

first_same : (s s' g g' : ℕ) → s < 2 ^ 32 → s' < 2 ^ 32 → s + 2 ^ 32 * g ≡ s' + 2 ^ 32 * g' → (g ≡ g') × (s ≡ s')
first_same s s' g g' h h' e =
    let tags : g ≡ g' = sym (tag_read s g h) ∙ ap tag_in e ∙ tag_read s' g' h' in
    (tags, let e' : s + 2 ^ 32 * g ≡ s' + 2 ^ 32 * g = rw (← tags) at e in omega arith)

lengths_differ : (f g : Bool) → ◌≡◌ {A = ℕ} (pick f 3 1) (pick g 4 2) → ⊥
unfolding pick
lengths_differ true true e = omega arith
lengths_differ true false e = omega arith
lengths_differ false true e = omega arith
lengths_differ false false e = omega arith

-- ---- bytes by their numbers

front_same : (n : ℕ) (a b : List ℕ) → Bytes a → Bytes b → n ≤ length a → n ≤ length b → big_endian a n ≡ big_endian b n → take n a ≡ take n b
front_same n a b ba bb la lb e = sym (spelled n a (λ i _. ba i) la) ∙ ap (bytes_of n) e ∙ spelled n b (λ i _. bb i) lb

whole_same : (n : ℕ) (a b : List ℕ) → Bytes a → Bytes b → length a ≡ n → length b ≡ n → big_endian a n ≡ big_endian b n → a ≡ b
whole_same n a b ba bb la lb e =
    sym (take_all n a (le_of_eq la)) ∙ front_same n a b ba bb (le_of_eq (sym la)) (le_of_eq (sym lb)) e ∙ take_all n b (le_of_eq lb)

halves_same : (a b : List ℕ) → Bytes a → Bytes b → length a ≡ 16 → length b ≡ 16 → big_endian a 8 ≡ big_endian b 8
    → big_endian (drop 8 a) 8 ≡ big_endian (drop 8 b) 8 → a ≡ b
halves_same a b ba bb la lb e f =
    let front : take 8 a ≡ take 8 b = front_same 8 a b ba bb (omega arith) (omega arith) e in
    let back : drop 8 a ≡ drop 8 b =
    whole_same 8 (drop 8 a) (drop 8 b) (bytes_drop 8 a ba) (bytes_drop 8 b bb) (omega (arith, length-drop 8 a)) (omega (arith, length-drop 8 b)) f
    in
    sym (take-append-drop 8 a) ∙ rw (front, back) (take-append-drop 8 b)

-- for readers

-- Two keys have the same numbers exactly if kind, session and initiator are the same; initiators of 4 and of 16 bytes
-- differ.
pub keys_exactly : (flood flood' : Bool) (session session' : ℕ) (i i' : List ℕ) → session < 2 ^ 32 → session' < 2 ^ 32 → Bytes i → Bytes i'
    → (length i ≡ 4) ⊎ (length i ≡ 16) → (length i' ≡ 4) ⊎ (length i' ≡ 16)
    → key_of flood session i ≡ key_of flood' session' i' ↔ ((flood ≡ flood') × (session ≡ session') × (i ≡ i'))
keys_exactly f f' s s' i i' h h' b b' l l' = (there l l', λ (e, g, k). rw (e, g, k) refl)
  where
    there : (length i ≡ 4) ⊎ (length i ≡ 16) → (length i' ≡ 4) ⊎ (length i' ≡ 16) → key_of f s i ≡ key_of f' s' i' → (f ≡ f') × (s ≡ s') × (i ≡ i')
    there (inl n) (inl n') e =
        let same = sym (key_4 f s i n) ∙ e ∙ key_4 f' s' i' n' in
        let (tags, sessions) = first_same s s' (pick f 3 1) (pick f' 3 1) h h' (ap (λ (k : Key). k.first) same) in
        (flag_same 3 1 (λ z. omega arith) f f' tags, sessions, whole_same 4 i i' b b' n n' (ap (λ (k : Key). k.second) same))
    there (inr n) (inr n') e =
        let same = sym (key_16 f s i n) ∙ e ∙ key_16 f' s' i' n' in
        let (tags, sessions) = first_same s s' (pick f 4 2) (pick f' 4 2) h h' (ap (λ (k : Key). k.first) same) in
        (flag_same 4 2 (λ z. omega arith) f f' tags, sessions, halves_same i i' b b' n n' (ap (λ (k : Key). k.second) same) (ap (λ (k : Key). k.third) same))
    there (inl n) (inr n') e =
        let same = sym (key_4 f s i n) ∙ e ∙ key_16 f' s' i' n' in
        absurd (lengths_differ f f' (first_same s s' (pick f 3 1) (pick f' 4 2) h h' (ap (λ (k : Key). k.first) same)).0)
    there (inr n) (inl n') e =
        let same = sym (key_16 f s i n) ∙ e ∙ key_4 f' s' i' n' in
        absurd (lengths_differ f' f (sym (first_same s s' (pick f 4 2) (pick f' 3 1) h h' (ap (λ (k : Key). k.first) same)).0))
