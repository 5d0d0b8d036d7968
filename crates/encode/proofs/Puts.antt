-- Steps of an encoder: a byte, a head, bytes, two steps in a row, no step, and what stands in the buffer at the end.
-- Assumes nothing.
use Prim.Native.Nat.{ℕ, ◌+◌, ◌≤◌, ◌<◌}
use mathlib.Core.Path.{◌≡◌, refl, sym, ap, ap₂, ◌∙◌}
use mathlib.Core.List.{List, [], ◌∷◌, ◌++◌}
use native.Mathlib.Nat.{add-zero, zero-add}
use native.Mathlib.Decide.{dec_lt}
use native.Mathlib.Omega.{arith}
use lib.Dec.{leb}
use lib.ListN.{length, take, drop, set, replicate, length-append, length-drop, length-set, length-replicate}
use lib.Seq.{sets, sets-eq, length-sets, take-append_seam}
use borrow.Author.Tests.{leb-true, le-ltb, le-leb, lt-leb}
use Rattle.base.specs.Pick.{pick}
use Rattle.base.proofs.Picks.{pick-case, both}
use Rattle.base.proofs.Parts.{sets_append}
use Rattle.cbor.specs.Put.{head, all_end, all_put, head_end, head_put}
use Rattle.cbor.proofs.Stores.{all_over, all_stored}
use Rattle.encode.specs.Put.{front_end, front_put, Wrote}

-- two steps in a row
pub then : {l l' l'' : List ℕ} {at m r : ℕ} {a b : List ℕ} → Wrote l l' at a m → Wrote l' l'' m b r → Wrote l l'' at (a ++ b) r
then {l} {l'} {l''} {at} {m} {r} {a} {b} v w =
    record {
      same = w.same ∙ v.same;
      fits = λ h.
          let e : length (a ++ b) ≡ length a + length b = length-append a b in
          let x = v.fits (omega arith) in
          let y = w.fits (omega (arith, x.0)) in
          (omega (arith, x.0, y.0), y.1 ∙ ap₂ (λ (t : List ℕ) (k : ℕ). sets t k b) x.1 x.0 ∙ sets_append l at a b);
      over = λ h.
          let e : length (a ++ b) ≡ length a + length b = length-append a b in
          elim (dec_lt (length l) (at + length a)) [
            | yes k ↦ omega (arith, v.same, w.over (omega (arith, v.same, v.over k)))
            | no k ↦ omega (arith, v.same, w.over (omega (arith, v.same, (v.fits (omega arith)).0)))
          ];
    }

-- no step
pub still : (l : List ℕ) (at : ℕ) → Wrote l l at [] at
still l at = record { same = refl; fits = λ h. (sym (add-zero at), refl); over = λ h. omega (arith, h) }

-- one byte past the buffer's end, and one that is stored
pub byte_over : (l : List ℕ) (at b : ℕ) → length l ≤ at → Wrote l l at (b ∷ []) (length l + 1)
byte_over l at b g = record { same = refl; fits = λ h. absurd (omega arith); over = λ h. omega arith }

pub byte_in : (l : List ℕ) (at b : ℕ) → Wrote l (set l at b) at (b ∷ []) (at + 1)
byte_in l at b = record { same = length-set l at b; fits = λ h. (refl, refl); over = λ h. h }

-- bytes
pub all_in : {l l' bs : List ℕ} {at r : ℕ} → r ≡ all_end l at bs → l' ≡ all_put l at bs → Wrote l l' at bs r
unfolding all_put
all_in {l} {l'} {bs} {at} {r} e p =
    record {
      same = ap length p ∙ both (λ (t : List ℕ). length t ≡ length l) (leb (at + length bs) (length l)) (length-sets l at bs) refl;
      fits = λ h. let q = all_stored l at bs h in (e ∙ sym q.0, p ∙ sym q.1);
      over = λ h. let q = all_over l at bs h in omega (arith, q.0);
    }

-- the shortest head
pub head_in : (l l' : List ℕ) (at major arg r : ℕ) → major < 7 → r ≡ head_end l at major arg → l' ≡ head_put l at major arg → Wrote l l' at (head major arg) r
unfolding head_end head_put pick
head_in l l' at major arg r m e p =
    let m6 : major ≤ 6 = omega arith in
    all_in (rw (le-ltb 6 major m6) at e) (rw (le-ltb 6 major m6) at p)

-- bytes put at the front: their number, and what stands in the buffer
pub finished : {l l' bs : List ℕ} {r : ℕ} → Wrote l l' 0 bs r → length bs ≤ length l → (r ≡ length bs) × (l' ≡ bs ++ drop (length bs) l)
finished {l} {l'} {bs} w k =
    let x = w.fits (omega arith) in
    (omega (arith, x.0), x.1 ∙ sets-eq bs l 0 (omega arith) ∙ ap (λ (n : ℕ). bs ++ drop n l) (zero-add (length bs)))

-- a draft that ends in time is the bytes, and one that doesn't is too short for them
pub drafted : {l l' bs : List ℕ} {r : ℕ} → Wrote l l' 0 bs r → r ≤ length l → (take r l' ≡ bs) × (length bs ≤ length l)
drafted {l} {bs = bs} w h =
    let k : length bs ≤ length l = elim (dec_lt (length l) (length bs)) [ yes p ↦ absurd (omega (arith, w.over (omega arith))) | no p ↦ omega arith ] in
    let x = finished w k in
    (ap₂ take x.0 x.1 ∙ take-append_seam bs (drop (length bs) l), k)

pub long : {l l' bs : List ℕ} {r : ℕ} → Wrote l l' 0 bs r → length l < r → length l < length bs
long {l} {bs = bs} w k = elim (dec_lt (length l) (length bs)) [ yes p ↦ p | no p ↦ absurd (omega (arith, (w.fits (omega arith)).0)) ]

-- ---- a message at the front of a buffer
pub front_in : {l l' bs : List ℕ} {r : ℕ} → Wrote l l' 0 bs r → r ≤ length l → (r ≡ front_end l bs) × (l' ≡ front_put l bs)
unfolding front_end front_put pick
front_in {l} {l'} {bs} w h =
    let k : length bs ≤ length l = (drafted w h).1 in
    rw (le-leb (length bs) (length l) k) (finished w k)

pub front_over : {l l' l'' bs : List ℕ} {r : ℕ} → Wrote l l' 0 bs r → length l' < r → l'' ≡ replicate (length l') 0
    → (length l'' + 1 ≡ front_end l bs) × (l'' ≡ front_put l bs)
unfolding front_end front_put pick
front_over {l} {l'} {l''} {bs} {r} w h e =
    let k : length l < length bs = long w (omega (arith, w.same)) in
    let n : length l' ≡ length l = w.same in
    rw (lt-leb (length bs) (length l) k) (rw (e, length-replicate, n), rw n at e)

-- and as a step
pub front_step : {l l' bs : List ℕ} {r : ℕ} → r ≡ front_end l bs → l' ≡ front_put l bs → Wrote l l' 0 bs r
unfolding front_end front_put pick
front_step {l} {l'} {bs} {r} e p =
    record {
      same =
          ap length p
          ∙ pick-case (λ (t : List ℕ). length t ≡ length l) (leb (length bs) (length l))
          (λ q. length-append bs (drop (length bs) l) ∙ omega (arith, leb-true (length bs) (length l) q, length-drop (length bs) l))
          (λ _. length-replicate {A = ℕ} (length l) 0);
      fits = λ h.
          let k : length bs ≤ length l = omega arith in
          let e' : r ≡ length bs = rw (le-leb (length bs) (length l) k) at e in
          let p' : l' ≡ bs ++ drop (length bs) l = rw (le-leb (length bs) (length l) k) at p in
          (omega arith, p' ∙ sym (sets-eq bs l 0 h ∙ ap (λ (n : ℕ). bs ++ drop n l) (zero-add (length bs))));
      over = λ h.
          let k : length l < length bs = omega arith in
          let e' : r ≡ length l + 1 = rw (lt-leb (length bs) (length l) k) at e in omega arith;
    }
