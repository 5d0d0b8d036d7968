-- Which blocks the writer takes: those of descriptions, and no others. For readers: the statement at the end stands
-- alone.
-- Assumes nothing.
use mathlib.Core.Path.{◌≡◌, refl, sym, ap, ap₂, ◌∙◌, subst}
use mathlib.Core.Logic.{◌↔◌}
use mathlib.Core.Bool.{Bool, true, false}
use mathlib.Core.List.{List, [], ◌∷◌}
use Prim.Native.Nat.{ℕ, zero, suc, ◌+◌, ◌/◌, ◌≤◌}
use native.Mathlib.Omega.{arith}
use lib.Dec.{ltb, eqb}
use lib.ListN.{length, drop, get_or}
use lib.Seq.{drop-cons, drop-length}
use borrow.Author.Tests.{ltb-false, le-ltb, eqb-true, eqb-false, eq-eqb}
use Rattle.base.specs.Pick.{pick}
use Rattle.base.specs.Bits.{has_bit}
use Rattle.base.specs.Lists.{Every}
use Rattle.base.proofs.Picks.{pick-case}
use Rattle.options.specs.declared.Span.{Span}
use Rattle.options.specs.declared.outcome.Outcome.{Outcome}
use Rattle.options.specs.Text.{span_of}
use Rattle.message.specs.Opening.{most_number}
use Rattle.std.specs.Prelude.{Option, Some, None}
use Rattle.description.specs.declared.GivenObjective.{GivenObjective}
use Rattle.description.specs.declared.Description.{Description}
use Rattle.description.specs.declared.Description.TheVariants as D
use Rattle.description.specs.Meaning.{locator_row, pair_row}
use Rattle.description.specs.Judge.{all_from}
use Rattle.forms.specs.declared.described.Narrow.{Narrow}
use Rattle.forms.specs.Described.{allowed_in, field_fits, all_fit, is_blank, given_objective, described_objective, described_targets, described_response}
use Rattle.forms.specs.Described.{described_end, described_flood, described_kind, described_by}
use Rattle.forms.specs.BlockFor.{targets_sort, block_for, DescriptionFits}

-- ---- masks
-- of n places from i on, those that a mask lacks
unfoldable lacking : ℕ → ℕ → ℕ → List ℕ
lacking mask zero i = []
lacking mask (suc n) i = pick (has_bit mask i) (lacking mask n (suc i)) (i ∷ lacking mask n (suc i))

-- a block has 0 in these places
abbrev Zeros : List ℕ → List ℕ → Type 0
Zeros f = Every (λ (i : ℕ). get_or f i 0 ≡ 0)

module _ (f : List ℕ) (mask : ℕ) where
  -- a block that fits a mask has 0 in the others
  fit_zeros : (n i : ℕ) → all_from (field_fits f mask) n i ≡ true → Zeros f (lacking mask n i)
  unfolding all_from field_fits lacking pick
  fit_zeros zero i = λ _. tt
  fit_zeros (suc n) i = by (has_bit mask i) (eqb (get_or f i 0) 0) refl (fit_zeros n (suc i))
    where
      by : (b t : Bool) → eqb (get_or f i 0) 0 ≡ t → (all_from (field_fits f mask) n (suc i) ≡ true → Zeros f (lacking mask n (suc i)))
          → pick (pick t true b) (all_from (field_fits f mask) n (suc i)) false ≡ true
          → Zeros f (pick b (lacking mask n (suc i)) (i ∷ lacking mask n (suc i)))
      by true true q more e = more e
      by true false q more e = more e
      by false true q more e = (eqb-true (get_or f i 0) 0 q, more e)
      by false false q more e = absurd (let z : ◌≡◌ {A = ℕ} 0 1 = cc in omega arith)

  -- and the other way
  zeros_fit : (n i : ℕ) → Zeros f (lacking mask n i) → all_from (field_fits f mask) n i ≡ true
  unfolding all_from field_fits lacking pick
  zeros_fit zero i = λ _. refl
  zeros_fit (suc n) i = by (has_bit mask i) (eqb (get_or f i 0) 0) refl (zeros_fit n (suc i))
    where
      by : (b t : Bool) → eqb (get_or f i 0) 0 ≡ t → (Zeros f (lacking mask n (suc i)) → all_from (field_fits f mask) n (suc i) ≡ true)
          → Zeros f (pick b (lacking mask n (suc i)) (i ∷ lacking mask n (suc i)))
          → pick (pick t true b) (all_from (field_fits f mask) n (suc i)) false ≡ true
      by true true q more z = more z
      by true false q more z = more z
      by false true q more z = more z.1
      by false false q more z = absurd (eqb-false (get_or f i 0) 0 q z.0)

-- ---- blocks by their numbers
-- the same n numbers from i on
abbrev SameFrom : List ℕ → List ℕ → ℕ → ℕ → Type 0
SameFrom f g zero i = Unit {0}
SameFrom f g (suc n) i = (get_or f i 0 ≡ get_or g i 0) × SameFrom f g n (suc i)

same_from : (f g : List ℕ) (n i : ℕ) → i + n ≡ length f → i + n ≡ length g → SameFrom f g n i → drop i f ≡ drop i g
same_from f g zero i e e' h =
    let all : i ≡ length f = omega arith in
    let all' : i ≡ length g = omega arith in
    ap (λ (k : ℕ). drop k f) all ∙ drop-length f ∙ sym (drop-length g) ∙ ap (λ (k : ℕ). drop k g) (sym all')
same_from f g (suc n) i e e' h =
    drop-cons f i 0 (omega arith) ∙ ap₂ (λ (x : ℕ) (l : List ℕ). x ∷ l) h.0 (same_from f g n (suc i) (omega arith) (omega arith) h.1)
    ∙ sym (drop-cons g i 0 (omega arith))

-- a description's block has nineteen
pub block_long : (d : Description) (numbers : ℕ) → length (block_for d numbers) ≡ 19
unfolding block_for
block_long D.Noop numbers = refl
block_long (D.Discovery session initiator o) numbers = refl
block_long (D.Response session initiator ttl divert None) numbers = refl
block_long (D.Response session initiator ttl divert (Some o)) numbers = refl
block_long (D.RequestNegotiation session o) numbers = refl
block_long (D.RequestSynchronization session o) numbers = refl
block_long (D.Negotiate session o) numbers = refl
block_long (D.End session Outcome.Accept) numbers = refl
block_long (D.End session Outcome.Decline) numbers = refl
block_long (D.End session (Outcome.Reason reason)) numbers = refl
block_long (D.Wait session time) numbers = refl
block_long (D.Synch session o) numbers = refl
block_long (D.Flood session initiator ttl) numbers = refl
block_long (D.Invalid session item) numbers = refl

-- the numbers that have 32 or 8 bits
abbrev narrow : List ℕ → Narrow
narrow f = record { session = get_or f 1 0; ttl = get_or f 4 0; flags = get_or f 8 0; count = get_or f 9 0 }

-- the places of an objective
abbrev objective_eight : List ℕ
objective_eight = 5 ∷ 6 ∷ 7 ∷ 8 ∷ 9 ∷ 10 ∷ 11 ∷ 12 ∷ []

-- where there is none they hold 0
blank_zeros : (f : List ℕ) → is_blank f ≡ true → Zeros f objective_eight
unfolding is_blank all_fit lacking has_bit pick
blank_zeros f = fit_zeros f _ 19 0

zeros_blank : (f : List ℕ) → Zeros f objective_eight → is_blank f ≡ true
unfolding is_blank all_fit lacking has_bit pick
zeros_blank f = zeros_fit f _ 19 0

-- ---- what is taken is a description's
module _ (f : List ℕ) (numbers : ℕ) (long : length f ≡ 19) where
  -- what a block says is what its numbers are
  abbrev Says : Option Description → Type 0
  Says r = (d : Description) → r ≡ Some d → (f ≡ block_for d numbers) × DescriptionFits d

  nothing : Says None
  nothing d q = absurd (let z : ◌≡◌ {A = ℕ} 0 1 = cc in omega arith)

  given : (d : Description) → SameFrom f (block_for d numbers) 19 0 → DescriptionFits d → Says (Some d)
  given d same fits d' q =
      let again : d ≡ d' = cc in
      let is : f ≡ block_for d numbers = same_from f (block_for d numbers) 19 0 (sym long) (sym (block_long d numbers)) same in
      subst (λ (d : Description). (f ≡ block_for d numbers) × DescriptionFits d) again (is, fits)

  module _ (fit : all_fit f (allowed_in (get_or f 0 0)) ≡ true) (session : get_or f 1 0 ≤ most_number) (ttl : get_or f 4 0 ≤ most_number)
      (flags : get_or f 8 0 ≤ 255) (count : get_or f 9 0 ≤ 255) where
    zeros : (k : ℕ) → get_or f 0 0 ≡ k → Zeros f (lacking (allowed_in k) 19 0)
    unfolding all_fit
    zeros k e = fit_zeros f (allowed_in k) 19 0 (rw e at fit)

    -- a kind's description, whose numbers stand in its places
    noop_says : get_or f 0 0 ≡ 0 → Says (Some D.Noop)
    unfolding lacking allowed_in has_bit pick block_for
    noop_says k = let z = zeros 0 k in given _ (omega arith) tt

    discovery_says : get_or f 0 0 ≡ 1 → get_or f 5 0 ≡ 1 → Says (Some (D.Discovery (get_or f 1 0) (span_of (get_or f 2 0) (get_or f 3 0))
        (given_objective f (narrow f))))
    unfolding lacking allowed_in has_bit pick block_for given_objective
    discovery_says k one = let z = zeros 1 k in given _ (omega arith) (omega arith, (omega arith, omega arith))

    request_negotiation_says : get_or f 0 0 ≡ 3 → get_or f 5 0 ≡ 1 → Says (Some (D.RequestNegotiation (get_or f 1 0) (given_objective f (narrow f))))
    unfolding lacking allowed_in has_bit pick block_for given_objective
    request_negotiation_says k one = let z = zeros 3 k in given _ (omega arith) (omega arith, (omega arith, omega arith))

    request_synchronization_says : get_or f 0 0 ≡ 4 → get_or f 5 0 ≡ 1 → Says (Some (D.RequestSynchronization (get_or f 1 0) (given_objective f (narrow f))))
    unfolding lacking allowed_in has_bit pick block_for given_objective
    request_synchronization_says k one = let z = zeros 4 k in given _ (omega arith) (omega arith, (omega arith, omega arith))

    negotiate_says : get_or f 0 0 ≡ 5 → get_or f 5 0 ≡ 1 → Says (Some (D.Negotiate (get_or f 1 0) (given_objective f (narrow f))))
    unfolding lacking allowed_in has_bit pick block_for given_objective
    negotiate_says k one = let z = zeros 5 k in given _ (omega arith) (omega arith, (omega arith, omega arith))

    synch_says : get_or f 0 0 ≡ 8 → get_or f 5 0 ≡ 1 → Says (Some (D.Synch (get_or f 1 0) (given_objective f (narrow f))))
    unfolding lacking allowed_in has_bit pick block_for given_objective
    synch_says k one = let z = zeros 8 k in given _ (omega arith) (omega arith, (omega arith, omega arith))

    wait_says : get_or f 0 0 ≡ 7 → Says (Some (D.Wait (get_or f 1 0) (get_or f 4 0)))
    unfolding lacking allowed_in has_bit pick block_for
    wait_says k = let z = zeros 7 k in given _ (omega arith) (omega arith, omega arith)

    invalid_says : get_or f 0 0 ≡ 99 → Says (Some (D.Invalid (get_or f 1 0) (span_of (get_or f 17 0) (get_or f 18 0))))
    unfolding lacking allowed_in has_bit pick block_for
    invalid_says k = let z = zeros 99 k in given _ (omega arith) (omega arith)

    flood_leaf : get_or f 0 0 ≡ 9 → get_or f 13 0 ≡ 3 → get_or f 15 0 ≡ numbers / pair_row
        → Says (Some (D.Flood (get_or f 1 0) (span_of (get_or f 2 0) (get_or f 3 0)) (get_or f 4 0)))
    unfolding lacking allowed_in has_bit pick block_for
    flood_leaf k sort many = let z = zeros 9 k in given _ (omega arith) (omega arith, omega arith)

    accept_leaf : get_or f 0 0 ≡ 6 → get_or f 16 0 ≡ 1 → get_or f 17 0 ≡ 0 → get_or f 18 0 ≡ 0 → Says (Some (D.End (get_or f 1 0) Outcome.Accept))
    unfolding lacking allowed_in has_bit pick block_for
    accept_leaf k sort at len = let z = zeros 6 k in given _ (omega arith) (omega arith)

    decline_leaf : get_or f 0 0 ≡ 6 → get_or f 16 0 ≡ 2 → get_or f 17 0 ≡ 0 → get_or f 18 0 ≡ 0 → Says (Some (D.End (get_or f 1 0) Outcome.Decline))
    unfolding lacking allowed_in has_bit pick block_for
    decline_leaf k sort at len = let z = zeros 6 k in given _ (omega arith) (omega arith)

    reason_leaf : get_or f 0 0 ≡ 6 → get_or f 16 0 ≡ 3 → Says (Some (D.End (get_or f 1 0) (Outcome.Reason (span_of (get_or f 17 0) (get_or f 18 0)))))
    unfolding lacking allowed_in has_bit pick block_for
    reason_leaf k sort = let z = zeros 6 k in given _ (omega arith) (omega arith)

    module _ (k : get_or f 0 0 ≡ 2) (many : get_or f 15 0 ≡ numbers / locator_row) where
      with_leaf : (divert : Bool) → get_or f 13 0 ≡ targets_sort divert → get_or f 5 0 ≡ 1
          → Says (Some (D.Response (get_or f 1 0) (span_of (get_or f 2 0) (get_or f 3 0)) (get_or f 4 0) divert (Some (given_objective f (narrow f)))))
      unfolding lacking allowed_in has_bit pick block_for given_objective
      with_leaf divert sort one = let z = zeros 2 k in given _ (omega arith) (omega arith, omega arith, (omega arith, omega arith))

      without_leaf : (divert : Bool) → get_or f 13 0 ≡ targets_sort divert → Zeros f objective_eight
          → Says (Some (D.Response (get_or f 1 0) (span_of (get_or f 2 0) (get_or f 3 0)) (get_or f 4 0) divert None))
      unfolding lacking allowed_in has_bit pick block_for
      without_leaf divert sort y = let z = zeros 2 k in given _ (omega arith) (omega arith, omega arith, tt)

    -- the tests, from top to bottom
    objective_says : get_or f 5 0 ≡ 1
        → Says (described_objective (get_or f 0 0) (narrow f) (span_of (get_or f 2 0) (get_or f 3 0)) (given_objective f (narrow f)))
    unfolding described_objective
    objective_says one =
        let k = get_or f 0 0 in
        pick-case Says (eqb k 1) (λ e. discovery_says (eqb-true k 1 e) one)
        (λ _. pick-case Says (eqb k 3) (λ e. request_negotiation_says (eqb-true k 3 e) one)
        (λ _. pick-case Says (eqb k 4) (λ e. request_synchronization_says (eqb-true k 4 e) one)
        (λ _. pick-case Says (eqb k 5) (λ e. negotiate_says (eqb-true k 5 e) one)
        (λ _. pick-case Says (eqb k 8) (λ e. synch_says (eqb-true k 8 e) one) (λ _. nothing)))))

    targets_says : (extra : Option GivenObjective)
        → ((divert : Bool) → get_or f 13 0 ≡ targets_sort divert
        → Says (Some (D.Response (get_or f 1 0) (span_of (get_or f 2 0) (get_or f 3 0)) (get_or f 4 0) divert extra)))
        → Says (described_targets (get_or f 13 0) (narrow f) (span_of (get_or f 2 0) (get_or f 3 0)) extra)
    unfolding described_targets
    targets_says extra leaf =
        let sort = get_or f 13 0 in
        pick-case Says (eqb sort 1) (λ e. leaf false (eqb-true sort 1 e))
        (λ _. pick-case Says (eqb sort 2) (λ e. leaf true (eqb-true sort 2 e)) (λ _. nothing))

    response_says : get_or f 0 0 ≡ 2 → Says (described_response f numbers (narrow f))
    unfolding described_response
    response_says k =
        pick-case Says (eqb (get_or f 15 0) (numbers / locator_row))
        (λ many. pick-case Says (eqb (get_or f 5 0) 0)
        (λ _. pick-case Says (is_blank f)
        (λ blank. targets_says None (λ divert sort. without_leaf k (eqb-true _ _ many) divert sort (blank_zeros f blank))) (λ _. nothing))
        (λ _. pick-case Says (eqb (get_or f 5 0) 1)
        (λ one. targets_says _ (λ divert sort. with_leaf k (eqb-true _ _ many) divert sort (eqb-true _ _ one))) (λ _. nothing)))
        (λ _. nothing)

    end_says : get_or f 0 0 ≡ 6 → Says (described_end f (narrow f))
    unfolding described_end
    end_says k =
        let sort = get_or f 16 0 in
        pick-case Says (eqb sort 3) (λ e. reason_leaf k (eqb-true sort 3 e))
        (λ _. pick-case Says (eqb (get_or f 17 0) 0)
        (λ at. pick-case Says (eqb (get_or f 18 0) 0)
        (λ len. pick-case Says (eqb sort 1) (λ e. accept_leaf k (eqb-true sort 1 e) (eqb-true _ _ at) (eqb-true _ _ len))
        (λ _. pick-case Says (eqb sort 2) (λ e. decline_leaf k (eqb-true sort 2 e) (eqb-true _ _ at) (eqb-true _ _ len)) (λ _. nothing)))
        (λ _. nothing)) (λ _. nothing))

    flood_says : get_or f 0 0 ≡ 9 → Says (described_flood f numbers (narrow f))
    unfolding described_flood
    flood_says k =
        pick-case Says (eqb (get_or f 13 0) 3)
        (λ sort. pick-case Says (eqb (get_or f 15 0) (numbers / pair_row)) (λ many. flood_leaf k (eqb-true _ _ sort) (eqb-true _ _ many)) (λ _. nothing))
        (λ _. nothing)

    kind_says : Says (described_kind f numbers (narrow f))
    unfolding described_kind
    kind_says =
        let k = get_or f 0 0 in
        pick-case Says (eqb k 0) (λ e. noop_says (eqb-true k 0 e))
        (λ _. pick-case Says (eqb k 2) (λ e. response_says (eqb-true k 2 e))
        (λ _. pick-case Says (eqb k 6) (λ e. end_says (eqb-true k 6 e))
        (λ _. pick-case Says (eqb k 7) (λ e. wait_says (eqb-true k 7 e))
        (λ _. pick-case Says (eqb k 9) (λ e. flood_says (eqb-true k 9 e))
        (λ _. pick-case Says (eqb k 99) (λ e. invalid_says (eqb-true k 99 e))
        (λ _. pick-case Says (eqb (get_or f 5 0) 1) (λ one. objective_says (eqb-true _ _ one)) (λ _. nothing)))))))

  block_says : Says (described_by f numbers)
  unfolding described_by
  block_says =
      pick-case Says (all_fit f (allowed_in (get_or f 0 0)))
      (λ fit. pick-case Says (ltb most_number (get_or f 1 0)) (λ _. nothing)
      (λ session. pick-case Says (ltb most_number (get_or f 4 0)) (λ _. nothing)
      (λ ttl. pick-case Says (ltb 255 (get_or f 8 0)) (λ _. nothing)
      (λ flags. pick-case Says (ltb 255 (get_or f 9 0)) (λ _. nothing)
      (λ count. kind_says fit (ltb-false _ _ session) (ltb-false _ _ ttl) (ltb-false _ _ flags) (ltb-false _ _ count))))))
      (λ _. nothing)

-- ---- a description's block is taken
-- the tests that all kinds share are passed
passes : (f : List ℕ) (numbers : ℕ) → Zeros f (lacking (allowed_in (get_or f 0 0)) 19 0) → get_or f 1 0 ≤ most_number → get_or f 4 0 ≤ most_number
    → get_or f 8 0 ≤ 255 → get_or f 9 0 ≤ 255
    → described_by f numbers ≡ described_kind f numbers (narrow f)
unfolding described_by all_fit pick
passes f numbers z session ttl flags count =
    rw (
      zeros_fit f (allowed_in (get_or f 0 0)) 19 0 z,
      le-ltb most_number (get_or f 1 0) session,
      le-ltb most_number (get_or f 4 0) ttl,
      le-ltb 255 (get_or f 8 0) flags,
      le-ltb 255 (get_or f 9 0) count,
    )

-- a Response's
targets_taken : (divert : Bool) (n : Narrow) (initiator : Span) (extra : Option GivenObjective)
    → described_targets (targets_sort divert) n initiator extra ≡ Some (D.Response n.session initiator n.ttl divert extra)
unfolding described_targets pick
targets_taken false n initiator extra = refl
targets_taken true n initiator extra = refl

response_taken : (session : ℕ) (initiator : Span) (ttl : ℕ) (divert : Bool) (extra : Option GivenObjective) (numbers : ℕ)
    → DescriptionFits (D.Response session initiator ttl divert extra)
    → described_by (block_for (D.Response session initiator ttl divert extra) numbers) numbers ≡ Some (D.Response session initiator ttl divert extra)
unfolding block_for lacking allowed_in has_bit pick described_kind described_response given_objective
response_taken session initiator ttl divert None numbers fits =
    passes _ numbers (omega arith) (omega arith) (omega arith) (omega arith) (omega arith)
    ∙ rw (
      eq-eqb (numbers / 5) (numbers / 5) refl,
      zeros_blank (block_for (D.Response session initiator ttl divert None) numbers) (omega arith),
    ) (targets_taken divert _ initiator None)
response_taken session initiator ttl divert (Some o) numbers fits =
    passes _ numbers (omega arith) (omega arith) (omega arith) (omega arith) (omega arith)
    ∙ rw (eq-eqb (numbers / 5) (numbers / 5) refl) (targets_taken divert _ initiator (Some o))

-- kind by kind
taken : (d : Description) (numbers : ℕ) → DescriptionFits d → described_by (block_for d numbers) numbers ≡ Some d
unfolding block_for lacking allowed_in has_bit pick described_kind described_objective given_objective described_end described_flood
taken D.Noop numbers fits = passes _ numbers (omega arith) (omega arith) (omega arith) (omega arith) (omega arith)
taken (D.Discovery session initiator o) numbers fits = passes _ numbers (omega arith) (omega arith) (omega arith) (omega arith) (omega arith)
taken (D.Response session initiator ttl divert extra) numbers fits = response_taken session initiator ttl divert extra numbers fits
taken (D.RequestNegotiation session o) numbers fits = passes _ numbers (omega arith) (omega arith) (omega arith) (omega arith) (omega arith)
taken (D.RequestSynchronization session o) numbers fits = passes _ numbers (omega arith) (omega arith) (omega arith) (omega arith) (omega arith)
taken (D.Negotiate session o) numbers fits = passes _ numbers (omega arith) (omega arith) (omega arith) (omega arith) (omega arith)
taken (D.End session Outcome.Accept) numbers fits = passes _ numbers (omega arith) (omega arith) (omega arith) (omega arith) (omega arith)
taken (D.End session Outcome.Decline) numbers fits = passes _ numbers (omega arith) (omega arith) (omega arith) (omega arith) (omega arith)
taken (D.End session (Outcome.Reason reason)) numbers fits = passes _ numbers (omega arith) (omega arith) (omega arith) (omega arith) (omega arith)
taken (D.Wait session time) numbers fits = passes _ numbers (omega arith) (omega arith) (omega arith) (omega arith) (omega arith)
taken (D.Synch session o) numbers fits = passes _ numbers (omega arith) (omega arith) (omega arith) (omega arith) (omega arith)
taken (D.Flood session initiator ttl) numbers fits =
    passes _ numbers (omega arith) (omega arith) (omega arith) (omega arith) (omega arith) ∙ rw (eq-eqb (numbers / 12) (numbers / 12) refl)
taken (D.Invalid session item) numbers fits = passes _ numbers (omega arith) (omega arith) (omega arith) (omega arith) (omega arith)

-- for readers

-- A block of nineteen numbers, beside a list of so many, says a description exactly if it is that description's block
-- and the description's numbers have the widths of their types: every description has a block, a block says one at
-- most, and nothing else is taken.
pub described_exactly : (f : List ℕ) (numbers : ℕ) (d : Description) → length f ≡ 19
    → described_by f numbers ≡ Some d ↔ (f ≡ block_for d numbers) × DescriptionFits d
described_exactly f numbers d long = (block_says f numbers long d, λ (e, fits). ap (λ (g : List ℕ). described_by g numbers) e ∙ taken d numbers fits)
