-- Numbers of n bytes, the most significant first: the laws of `big_endian` and `bytes_of`, once for every width.
-- Assumes nothing.
use mathlib.Core.Path.{◌≡◌, refl, sym, ◌∙◌, ap, ap₂, subst}
use mathlib.Core.List.{List, [], ◌∷◌, ◌++◌, append_assoc}
use Prim.Native.Nat.{ℕ, zero, suc, ◌+◌, ◌*◌, ◌/◌, ◌%◌, ◌^◌, ◌<◌, ◌≤◌}
use native.Mathlib.Nat.{mul_comm, pow-suc, div-div-eq-div-mul, lt_of_lt_of_le, div-add-mod'}
use native.Mathlib.Decide.{ℕ_discrete}
use native.Mathlib.Omega.{arith}
use lib.Arith.{digits_lt, digits_div, digits_mod}
use lib.Pow.{pow-add, pow_mono, shr_lt}
use lib.ListN.{length, take, get_or, length-append}
use lib.Seq.{get_or-take, get_or_at, take-suc}
use Rattle.std.specs.Int.{w32, w64, bytes_high_first, from_be_bytes}
use Rattle.base.specs.BigEndian.{FirstBytes, big_endian, bytes_of}

-- one byte more
pub below_more : (n v b : ℕ) → v < 2 ^ (8 * n) → b < 2 ^ 8 → v * 256 + b < 2 ^ (8 * (n + 1))
below_more n v b hv hb =
    let e : 8 * (n + 1) ≡ 8 * n + 8 = omega arith in
    rw (e, pow-add 2 (8 * n) 8) (digits_lt hv hb)

-- up to eight bytes fit 64 bits
pub below_word : (n v : ℕ) → n ≤ 8 → v < 2 ^ (8 * n) → v < 2 ^ 64
below_word n v hn hv = lt_of_lt_of_le hv (pow_mono {j = 64} (omega arith))

pub length_bytes : (n v : ℕ) → length (bytes_of n v) ≡ n
unfolding bytes_of
length_bytes zero v = refl
length_bytes (suc n) v = length-append (bytes_of n (v / 256)) (v % 256 ∷ []) ∙ ap (λ (k : ℕ). k + 1) (length_bytes n (v / 256)) ∙ omega arith

-- bytes that spell v are read as v
pub read_back : (n v : ℕ) (rest : List ℕ) → v < 2 ^ (8 * n) → big_endian (bytes_of n v ++ rest) n ≡ v
unfolding big_endian bytes_of
read_back zero v rest h = omega arith
read_back (suc n) v rest h =
    let e : 8 * suc n ≡ 8 * n + 8 = omega arith in
    let last : bytes_of (suc n) v ++ rest ≡ bytes_of n (v / 256) ++ (v % 256 ∷ rest) = rw append_assoc in
    let back = read_back n (v / 256) (v % 256 ∷ rest) (shr_lt (8 * n) 8 (rw e at h)) in
    let end = get_or_at (bytes_of n (v / 256)) (v % 256) rest 0 n (length_bytes n (v / 256)) in
    subst (λ (s : List ℕ). big_endian s (suc n) ≡ v) (sym last) (rw (back, end) (div-add-mod' v 256))

-- bytes are those of the number that they are read as
pub spelled : (n : ℕ) (s : List ℕ) → FirstBytes n s → n ≤ length s → bytes_of n (big_endian s n) ≡ take n s
unfolding big_endian bytes_of
spelled zero s b h = refl
spelled (suc n) s b h =
    let last = b n (omega arith) in
    rw (digits_div (big_endian s n) last, digits_mod (big_endian s n) last, spelled n s (λ i l. b i (omega arith)) (omega arith))
    (sym (take-suc s n 0 h))

pub big_endian_lt : (n : ℕ) (s : List ℕ) → FirstBytes n s → big_endian s n < 2 ^ (8 * n)
unfolding big_endian
big_endian_lt zero s b = omega arith
big_endian_lt (suc n) s b =
    let e : n + 1 ≡ suc n = omega arith in
    rw e at (below_more n (big_endian s n) (get_or s n 0) (big_endian_lt n s (λ i l. b i (omega arith))) (b n (omega arith)))

-- elements that are read as a number below 256 are
pub small_bytes : (n : ℕ) (s : List ℕ) → big_endian s n < 2 ^ 8 → FirstBytes n s
unfolding big_endian
small_bytes zero s h i l = absurd (omega arith)
small_bytes (suc n) s h i l = elim (ℕ_discrete i n) [ yes e ↦ rw e (omega arith) | no e ↦ small_bytes n s (omega arith) i (omega arith) ]

-- ---- as the library spells numbers

-- the lowest byte last
high_last : (n v : ℕ) → bytes_high_first (suc n) v ≡ bytes_high_first n (v / 256) ++ (v % 256 ∷ [])
high_last zero v = refl
high_last (suc zero) v = refl
high_last (suc (suc n)) v =
    let e : v / 256 ^ suc (suc n) % 256 ≡ v / 256 / 256 ^ suc n % 256 =
    rw (pow-suc 256 (suc n), div-div-eq-div-mul v 256 (256 ^ suc n), mul_comm (256 ^ suc n) 256) refl in
    ap₂ (λ (x : ℕ) (t : List ℕ). x ∷ t) e (high_last (suc n) v)

pub high_first : (n v : ℕ) → bytes_high_first n v ≡ bytes_of n v
unfolding bytes_of
high_first zero v = refl
high_first (suc n) v = high_last n v ∙ ap (λ (t : List ℕ). t ++ (v % 256 ∷ [])) (high_first n (v / 256))

pub four_read : (s : List ℕ) → from_be_bytes w32 s ≡ big_endian s 4
unfolding big_endian
four_read s = omega arith

pub eight_read : (s : List ℕ) → from_be_bytes w64 s ≡ big_endian s 8
unfolding big_endian
eight_read s = omega arith

-- no byte after them counts
pub front_read : (k n : ℕ) (s : List ℕ) → n ≤ k → big_endian (take k s) n ≡ big_endian s n
unfolding big_endian
front_read k zero s h = refl
front_read k (suc n) s h = rw (front_read k n s (omega arith), get_or-take k s n 0 (omega arith)) refl
