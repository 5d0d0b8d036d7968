-- Locators one after the other, and a divert of them: they lie within their part, each has six bytes at least, and the
-- walk passes over them; and the turns of the loop over them.
-- Assumes nothing.
use mathlib.Core.Path.{◌≡◌, refl, sym, ap, ◌∙◌, subst}
use mathlib.Core.Logic.{inl}
use mathlib.Core.List.{List}
use mathlib.Core.Bool.{Bool, true, false}
use Prim.Native.Nat.{ℕ, zero, suc, ◌+◌, ◌-◌, ◌*◌, ◌≤◌}
use native.Mathlib.Nat.{le_refl, zero-add, add-zero}
use native.Mathlib.Omega.{arith}
use lib.ListN.{length, take, drop}
use lib.Dec.{ltb, eqb}
use borrow.Author.Tests.{ltb-false, eqb-true, eqb-false}
use Rattle.options.specs.Text.{Noted}
use Rattle.std.specs.Prelude.{Ok, Err, Some, None}
use Rattle.base.specs.Pick.{pick}
use Rattle.base.proofs.Picks.{pick-case, both}
use Rattle.base.proofs.Parts.{rest_is}
use Rattle.cbor.specs.Head.{head_at}
use Rattle.cbor.specs.Token.{nothing_at, token_from, token_at, items_in, up_to}
use Rattle.cbor.proofs.Tokens.{token_end, is_array, is_number}
use Rattle.cbor.proofs.Passes.{Passes, passes_none, passes_then, passes_within, leaf_passes, array_passes}
use Rattle.options.specs.declared.locator.Locator.{Locator}
use Rattle.options.specs.declared.Departure.{Departure}
use Rattle.options.specs.declared.Part.{Part}
use Rattle.options.specs.Text.{first_of}
use Rattle.options.specs.Part.{Read, departs}
use Rattle.options.specs.Locator.{locator_reached, locator_in}
use Rattle.options.specs.Locators.{LocatorsRead, ran, text_led, locator_then, locators_from, locators_led, locators_in, locators_at}
use Rattle.options.specs.Divert.{DivertRead, no_divert, divert_of, divert_led, divert_in, divert_at}
use Rattle.options.proofs.Fits.{LocatorOk, locator_within, LocatorWalked, locator_walked, none_past}
use Rattle.options.proofs.Led.{never_led}

module _ (base : ℕ) (s : List ℕ) where
  -- ---- they lie within their part
  -- of n items from `at` on all but those that are left have six bytes at least
  abbrev pub LocatorsOk : ℕ → ℕ → LocatorsRead → Type 0
  LocatorsOk n at (Err e) = Unit {0}
  LocatorsOk n at (Ok l) = (at + 6 * (n - l.left) ≤ l.end) × (l.left ≤ n) × (l.end ≤ length s)

  ok_more : (n at size : ℕ) (r : LocatorsRead) → 6 ≤ size → LocatorsOk n (at + size) r → LocatorsOk (suc n) at r
  ok_more n at size (Err e) six h = tt
  ok_more n at size (Ok l) six h = (omega arith, omega arith, h.2)

  -- those after the first
  from_ok : (first : Locator) (n at : ℕ) (bad : Noted) → at ≤ length s → LocatorsOk n at (locators_from base s first n at bad)
  unfolding locators_from locator_then
  from_ok first zero at bad low = (omega arith, le_refl 0, low)
  from_ok first (suc n) at bad low =
      both (LocatorsOk (suc n) at) _ (omega arith, le_refl (suc n), low)
      (next (from_ok first n) (locator_in (base + at) (drop at s)) (locator_within s (base + at) at _ _ refl refl))
    where
      next : ((at' : ℕ) (bad' : Noted) → at' ≤ length s → LocatorsOk n at' (locators_from base s first n at' bad')) → (x : Read Locator)
          → LocatorOk (length s - at) x
          → LocatorsOk (suc n) at (locator_then (locators_from base s first n) at bad x)
      next go (Err e) h = tt
      next go (Ok l) h = ok_more n at l.size (locators_from base s first n (at + l.size) (first_of bad l.bad)) h.0
          (go (at + l.size) (first_of bad l.bad) (omega arith))

  -- the first too; one that is left over leaves the first
  pub locators_ok : (from more : ℕ) → from ≤ length s → LocatorsOk (suc more) from (locators_in base s from more)
  unfolding locators_in locators_led
  locators_ok from more low = by (locator_in (base + from) (drop from s)) (locator_within s (base + from) from _ _ refl refl)
    where
      by : (x : Read Locator) → LocatorOk (length s - from) x → LocatorsOk (suc more) from (locators_led base s from more x)
      by (Err e) h = tt
      by (Ok l) h =
          ok_more more from l.size (locators_from base s l.value more (from + l.size) l.bad) h.0 (from_ok l.value more (from + l.size) l.bad (omega arith))

  -- ---- the walk passes over them
  -- of n items all are passed but those that are left over, where so many levels may open in each
  abbrev pub LocatorsWalked : ℕ → ℕ → ℕ → LocatorsRead → Type 0
  LocatorsWalked left n p (Err e) = Unit {0}
  LocatorsWalked left n p (Ok l) = (c : ℕ) × (n ≡ c + l.left) × Passes (suc left) c s p l.end

  -- one locator, and then others
  walked_more : (n : ℕ) {left p m : ℕ} (r : LocatorsRead) → Passes (suc left) 1 s p m → LocatorsWalked left n m r → LocatorsWalked left (suc n) p r
  walked_more n (Err e) h rest = tt
  walked_more n (Ok l) h (c, sum, rest) = (1 + c, omega arith, passes_then h rest)

  -- those after the first
  from_walked : (left : ℕ) (first : Locator) (n p : ℕ) (bad : Noted) → LocatorsWalked left n p (locators_from base s first n p bad)
  unfolding locators_from locator_then
  from_walked left first zero p bad = (0, refl, passes_none)
  from_walked left first (suc n) p bad =
      both (LocatorsWalked left (suc n) p) _ (0, sym (zero-add (suc n)), passes_none)
      (next (from_walked left first n) (locator_in (base + p) (drop p s)) (locator_walked (base + p) (drop p s)))
    where
      next : ((p' : ℕ) (bad' : Noted) → LocatorsWalked left n p' (locators_from base s first n p' bad')) → (x : Read Locator) → LocatorWalked (drop p s) x
          → LocatorsWalked left (suc n) p (locator_then (locators_from base s first n) p bad x)
      next go (Err e) h = tt
      next go (Ok l) h =
          walked_more n (locators_from base s first n (p + l.size) (first_of bad l.bad)) (passes_within (h left)) (go (p + l.size) (first_of bad l.bad))

  -- the first too
  pub locators_walked : (left from more : ℕ) → LocatorsWalked left (suc more) from (locators_in base s from more)
  unfolding locators_in locators_led
  locators_walked left from more = by (locator_in (base + from) (drop from s)) (locator_walked (base + from) (drop from s))
    where
      by : (x : Read Locator) → LocatorWalked (drop from s) x → LocatorsWalked left (suc more) from (locators_led base s from more x)
      by (Err e) h = tt
      by (Ok l) h =
          walked_more more (locators_from base s l.value more (from + l.size) l.bad) (passes_within (h left)) (from_walked left l.value more
          (from + l.size) l.bad)

  -- ---- a divert
  -- it lies within so many bytes, and so do its locators, of six bytes at least
  abbrev pub DivertOk : DivertRead → Type 0
  DivertOk (Err e) = Unit {0}
  DivertOk (Ok None) = Unit {0}
  DivertOk (Ok (Some d)) = (6 * d.value.many ≤ d.size) × (d.size ≤ length s)

  -- the walk passes over it, of two levels
  abbrev pub DivertWalked : DivertRead → Type 0
  DivertWalked (Err e) = Unit {0}
  DivertWalked (Ok None) = Unit {0}
  DivertWalked (Ok (Some d)) = (left : ℕ) → Passes (suc (suc left)) 1 s 0 d.size

  -- both
  abbrev Told : DivertRead → Type 0
  Told x = DivertOk x × DivertWalked x

  -- by its locators
  divert_of_told : (many from : ℕ) (x : LocatorsRead) → 1 ≤ many → LocatorsOk (suc (many - 1)) from x
      → ((left : ℕ) → LocatorsWalked left (suc (many - 1)) from x) → ((left e : ℕ) → Passes (suc left) many s from e → Passes (suc (suc left)) 1 s 0 e)
      → Told (divert_of base s many from x)
  unfolding divert_of
  divert_of_told many from (Err e) some ok walked close = (tt, tt)
  divert_of_told many from (Ok l) some ok walked close =
      pick-case Told (eqb l.left 0)
      (λ none. (
        (omega (arith, eqb-true l.left 0 none), ok.2),
        λ left.
            let (c, sum, h) = walked left in
            let all : many ≡ c = omega (arith, eqb-true l.left 0 none) in
            close left l.end (rw all h),
      ))
      (λ _. (tt, tt))

  divert_told : Told (divert_in base s)
  unfolding divert_in divert_led
  divert_told =
      let a = token_at s 0 in
      let k = token_at s a.next in
      pick-case Told (eqb (items_in a) 0) (λ _. (tt, tt))
      (λ t₁. pick-case Told (eqb (up_to 100 k) 100)
      (λ t₂. pick-case Told (ltb a.arg 2) (λ _. (tt, tt))
      (λ t₃.
      let two : 2 ≤ a.arg = ltb-false a.arg 2 t₃ in
      let lead : up_to 100 k ≡ 100 = eqb-true (up_to 100 k) 100 t₂ in
      let (number, _) = is_number 100 k (omega arith) in
      let sum : a.arg ≡ 1 + (a.arg - 1) = omega arith in
      divert_of_told (a.arg - 1) k.next _ (omega arith) (locators_ok k.next (a.arg - 1 - 1) (token_end s a.next))
      (λ left. locators_walked left k.next (a.arg - 1 - 1))
      (λ left e h. array_passes s 0 (is_array a (eqb-false (items_in a) 0 t₁)) (rw sum (passes_then (leaf_passes s a.next (inl (omega arith))) h)))))
      (λ _. (tt, tt)))

  pub divert_ok : DivertOk (divert_in base s)
  divert_ok = divert_told.0

  pub divert_walked : DivertWalked (divert_in base s)
  divert_walked = divert_told.1

  -- ---- the turns of the loop
  module _ (first : Locator) (n from : ℕ) (bad₀ : Noted) where
    -- what is left of the loop is the whole
    abbrev pub Turns : ℕ → ℕ → Noted → Type 0
    Turns left at bad = locators_from base s first left at bad ≡ locators_from base s first n from bad₀

    pub turns_end : (left at : ℕ) (bad : Noted) → left ≡ 0 → Turns left at bad → ran first at 0 bad ≡ locators_from base s first n from bad₀
    unfolding locators_from
    turns_end left at bad e i = rw e at i

    pub turns_stop : (left rest at : ℕ) (bad : Noted) (b : Bool) → left ≡ suc rest → b ≡ text_led (take (length s - at) (drop at s)) → b ≡ true
        → Turns left at bad
        → ran first at left bad ≡ locators_from base s first n from bad₀
    unfolding locators_from pick
    turns_stop left rest at bad b one e t i = rw one (rw (ap text_led (sym (rest_is at s)) ∙ sym e ∙ t) at (rw one at i))

    next : (left rest at : ℕ) (bad : Noted) (r x : Read Locator) → left ≡ suc rest → text_led (drop at s) ≡ false
        → r ≡ locator_in (base + at) (take (length s - at) (drop at s)) → r ≡ x → Turns left at bad
        → locator_then (locators_from base s first rest) at bad x ≡ locators_from base s first n from bad₀
    unfolding locators_from pick
    next left rest at bad r x one f g q i =
        rw (f, ap (locator_in (base + at)) (sym (rest_is at s)) ∙ sym g ∙ q) at (rw one at i)

    pub turns_bad : (left rest at : ℕ) (bad : Noted) (e : Departure) (b : Bool) (r : Read Locator) → left ≡ suc rest
        → b ≡ text_led (take (length s - at) (drop at s)) → b ≡ false → r ≡ locator_in (base + at) (take (length s - at) (drop at s)) → r ≡ Err e
        → Turns left at bad → Err e ≡ locators_from base s first n from bad₀
    unfolding locator_then
    turns_bad left rest at bad d b r one e f = next left rest at bad r (Err d) one (ap text_led (sym (rest_is at s)) ∙ sym e ∙ f)

    pub turns_next : (left rest at : ℕ) (bad : Noted) (l : Part Locator) (new : Noted) (r : Read Locator) → left ≡ suc rest
        → r ≡ locator_in (base + at) (take (length s - at) (drop at s)) → r ≡ Ok l
        → new ≡ first_of bad l.bad → Turns left at bad → Turns rest (at + l.size) new
    unfolding locator_then
    turns_next left rest at bad l new r one g q k i =
        rw k
        (next left rest at bad r (Ok l) one
        (never_led (base + at) (drop at s) l (ap (locator_in (base + at)) (sym (rest_is at s)) ∙ sym g ∙ q)) g q i)

-- ---- what is read at a place of the message
pub locators_within : (s : List ℕ) (at more : ℕ) (r x : LocatorsRead) → r ≡ locators_at s at more → r ≡ x → LocatorsOk at (drop at s) (suc more) 0 x
locators_within s at more r x e q = subst (LocatorsOk at (drop at s) (suc more) 0) (sym e ∙ q) (locators_ok at (drop at s) 0 more (omega arith))

pub divert_within : (s : List ℕ) (at : ℕ) (r x : DivertRead) → r ≡ divert_at s at → r ≡ x → DivertOk at (drop at s) x
divert_within s at r x e q = subst (DivertOk at (drop at s)) (sym e ∙ q) (divert_ok at (drop at s))

-- ---- what a `match` has found, and what is past the message's end
pub first_found : (base : ℕ) (s : List ℕ) (from more : ℕ) (r x : Read Locator) → r ≡ locator_in (base + from) (take (length s - from) (drop from s)) → r ≡ x
    → locators_led base s from more x ≡ locators_in base s from more
unfolding locators_in
first_found base s from more r x h q = rw (← rest_is from s, ← h, q)

pub locators_past : (s : List ℕ) (at more : ℕ) → length s ≤ at → departs at ≡ locators_in at (drop at s) 0 more
unfolding locators_in locators_led locator_in locator_reached items_in token_at token_from nothing_at head_at pick
locators_past s at more h =
    none_past (λ (l : List ℕ). departs at ≡ locators_in at l 0 more) s at h (ap (λ (p : ℕ). departs p) (sym (add-zero at)))

pub divert_past : (s : List ℕ) (at : ℕ) → length s ≤ at → no_divert ≡ divert_in at (drop at s)
unfolding divert_in items_in token_at token_from nothing_at head_at pick
divert_past s at h = none_past (λ (l : List ℕ). no_divert ≡ divert_in at l) s at h refl
