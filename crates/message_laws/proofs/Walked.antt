-- The walk passes over what is read of a message's parts, whatever numbers the list has: it accepts a message that its
-- parts make up, and ends where they end.
-- Assumes nothing.
use mathlib.Core.Path.{◌≡◌, refl, ap, ◌∙◌}
use mathlib.Core.Logic.{inl}
use mathlib.Core.List.{List}
use mathlib.Core.Bool.{true, false}
use Prim.Native.Nat.{ℕ, zero, suc, ◌+◌, ◌-◌, ◌≤◌}
use native.Mathlib.Omega.{arith}
use lib.ListN.{drop}
use lib.Dec.{ltb}
use borrow.Author.Tests.{ltb-false, eqb-true, eqb-false}
use Rattle.options.specs.Text.{Noted}
use Rattle.std.specs.Prelude.{Result, Ok, Err, Some, None}
use Rattle.options.specs.Part.{Read, departs, part}
use Rattle.options.specs.declared.outcome.Outcome.{Outcome}
use Rattle.message.proofs.Clear.{clear_case}
use Rattle.message.proofs.Fits.{accepted_same}
use Rattle.message.specs.Opening.{WithNext}
use Rattle.options.specs.Divert.{DivertRead}
use Rattle.options.specs.Locators.{LocatorsRead}
use Rattle.message.specs.Sequence.{PairsRead}
use Rattle.base.proofs.Picks.{pick-case, both}
use Rattle.cbor.specs.declared.token.Token.{Token}
use Rattle.cbor.specs.Item.{left_under, first_item}
use Rattle.cbor.specs.Token.{token_at, size_at, items_in, up_to}
use Rattle.cbor.proofs.Tokens.{is_array, is_number}
use Rattle.cbor.proofs.Passes.{Passes, passes_none, passes_then, passes_within, leaf_passes, array_passes, size_passes, passes_item}
use Rattle.options.specs.declared.objective.Objective.{Objective}
use Rattle.options.specs.declared.pair.Pair.{Pair}
use Rattle.options.specs.Text.{first_of}
use Rattle.options.specs.Locators.{locators_at}
use Rattle.options.specs.Divert.{divert_at}
use Rattle.options.specs.Outcome.{outcome_at}
use Rattle.options.specs.Objective.{objective_at}
use Rattle.options.specs.Pair.{pair_at}
use Rattle.options.proofs.Fits.{OutcomeWalked, outcome_walked, ObjectiveWalked, objective_walked, PairWalked, pair_walked}
use Rattle.options.proofs.Series.{LocatorsWalked, locators_walked, DivertWalked, divert_walked}
use Rattle.message.specs.declared.Series.{Series}
use Rattle.message.specs.declared.Targets.{Targets}
use Rattle.message.specs.declared.Message.{Message}
use Rattle.message.specs.declared.opening.Opening.{Opening}
use Rattle.message.specs.declared.Examined.{Examined}
use Rattle.refusal.specs.declared.Refused.{Refused}
use Rattle.message.specs.Opening.{most_number, objective_levels, is_initiator, opening_at}
use Rattle.message.specs.Sequence.{pair_then, pairs_from}
use Rattle.message.specs.Shape.{noop_at, discovered, discovery_at, exchanged, exchange_at, wait_at, invalid_at, ended, end_at}
use Rattle.message.specs.Response.{rest_of, rest_at, located_of, located_at, targets_of, targets_at, response_by, response_at}
use Rattle.message.specs.Flood.{flooded_by, flooded_of, flooded_at, flood_by, flood_at}
use Rattle.message.specs.Examined.{accepted_to, by_kind, judged_shape, examined}
use Rattle.message.proofs.Parts.{initiated}
use Rattle.message_laws.proofs.Whole.{part_levels, IfGood, past_case, held_case}

-- what has items has some
array_filled : (t : Token) → (items_in t ≡ 0 → ⊥) → 1 ≤ t.arg
unfolding items_in
array_filled t = pick-case (λ (n : ℕ). (n ≡ 0 → ⊥) → 1 ≤ t.arg) _ (λ _ some. omega arith) (λ _ some. absurd (some refl))

module _ (s : List ℕ) where
  -- n items of the message, one level under it
  abbrev Parts : ℕ → ℕ → ℕ → Type 0
  Parts n p e = Passes part_levels n s p e

  -- ---- tokens
  -- a number within its limit
  number_passes : {left p : ℕ} (limit : ℕ) → up_to limit (token_at s p) ≤ limit → Passes left 1 s p (token_at s p).next
  number_passes {p = p} limit low = leaf_passes s p (inl (omega (arith, (is_number limit (token_at s p) low).0)))

  -- one of sessions, ttls and waiting times
  most_passes : {left p : ℕ} → ltb most_number (up_to most_number (token_at s p)) ≡ false → Passes left 1 s p (token_at s p).next
  most_passes {p = p} e = number_passes most_number (ltb-false most_number (up_to most_number (token_at s p)) e)

  -- an initiator
  initiator_passes : {left p : ℕ} → is_initiator (token_at s p) ≡ true → Passes left 1 s p (token_at s p).next
  initiator_passes {p = p} e = leaf_passes s p (inl (omega (arith, (initiated (token_at s p) e).0)))

  -- ---- pairs, one after the other
  -- all n pairs are passed
  abbrev PairsWalked : ℕ → ℕ → PairsRead → Type 0
  PairsWalked n p (Err e) = Unit {0}
  PairsWalked n p (Ok run) = Parts n p run.end

  -- one pair, and then others
  pairs_more : (n : ℕ) {p m : ℕ} (r : PairsRead) → Parts 1 p m → PairsWalked n m r → PairsWalked (suc n) p r
  pairs_more n (Err e) h rest = tt
  pairs_more n (Ok run) h rest = let sum : suc n ≡ 1 + n = omega arith in rw sum (passes_then h rest)

  -- the loop over pairs
  pairs_walked : (n p : ℕ) (bad long : Noted) → PairsWalked n p (pairs_from s n p bad long)
  unfolding pairs_from pair_then
  pairs_walked zero p bad long = passes_none
  pairs_walked (suc n) p bad long = next (pairs_walked n) (pair_at s p) (pair_walked p (drop p s))
    where
      next : ((p' : ℕ) (bad' long' : Noted) → PairsWalked n p' (pairs_from s n p' bad' long')) → (x : Read Pair) → PairWalked (drop p s) x
          → PairsWalked (suc n) p (pair_then (pairs_from s n) p bad long x)
      next go (Err e) h = tt
      next go (Ok r) h = pairs_more n (pairs_from s n (p + r.size) (first_of bad r.bad) (first_of long r.long)) (passes_within h)
          (go (p + r.size) (first_of bad r.bad) (first_of long r.long))

  -- ---- the shapes
  -- the n items from p on are passed, up to where the parts of a shape end
  abbrev ShapeWalked : ℕ → ℕ → Read Message → Type 0
  ShapeWalked n p = IfGood (λ (m : Message) (end : ℕ) (bad long : Noted). Parts n p end)

  -- as many items as there are
  counted : {n c p : ℕ} {m : Message} {end : ℕ} {bad long : Noted} → n ≡ c → Parts c p end → ShapeWalked n p (part m end bad long)
  counted {end = end} sum h = IfGood.good {end = end} (rw sum h)

  -- some items, and then a shape's
  after : {n c d p m : ℕ} {x : Read Message} → n ≡ c + d → Parts c p m → ShapeWalked d m x → ShapeWalked n p x
  after sum h IfGood.bad = IfGood.bad
  after sum h (IfGood.good rest) = counted sum (passes_then h rest)

  -- an objective
  objective_then : {n p : ℕ} (f : Read Objective → Read Message) → ((place : ℕ) → ShapeWalked n p (f (departs place)))
      → ((o : Objective) (size : ℕ) (bad long : Noted) → Parts 1 p (p + size) → ShapeWalked n p (f (part o size bad long)))
      → ShapeWalked n p (f (objective_at objective_levels s p))
  objective_then {n} {p} f none got = by (objective_at objective_levels s p) (objective_walked objective_levels p (drop p s))
    where
      by : (x : Read Objective) → ObjectiveWalked objective_levels (drop p s) x → ShapeWalked n p (f x)
      by (Err e) h = none e.place
      by (Ok o) h = got o.value o.size o.bad o.long (passes_within h)

  -- 0, Noop
  noop_walked : (n p : ℕ) → ShapeWalked (n - 1) p (noop_at n p)
  unfolding noop_at
  noop_walked n p = held_case _ (λ one. counted (omega (arith, eqb-true n 1 one)) passes_none)

  -- 1, Discovery
  discovery_walked : (n p : ℕ) → ShapeWalked (n - 1) p (discovery_at s n p)
  unfolding discovery_at discovered
  discovery_walked n p =
      held_case _
      (λ four. past_case _
      (λ e. held_case _
      (λ e'. after (omega (arith, eqb-true n 4 four)) (passes_then (most_passes e) (initiator_passes e'))
      (objective_then (discovered _ _ _) (λ _. IfGood.bad) (λ _ _ _ _ o. IfGood.good o)))))

  -- 3, 4, 5 and 8, a session and an objective
  exchange_walked : (kind n p : ℕ) → ShapeWalked (n - 1) p (exchange_at s kind n p)
  unfolding exchange_at exchanged
  exchange_walked kind n p =
      held_case _
      (λ three. past_case _
      (λ e. after (omega (arith, eqb-true n 3 three)) (most_passes e) (objective_then (exchanged kind _ _) (λ _. IfGood.bad) (λ _ _ _ _ o. IfGood.good o))))

  -- 7, Wait
  wait_walked : (n p : ℕ) → ShapeWalked (n - 1) p (wait_at s n p)
  unfolding wait_at
  wait_walked n p =
      held_case _
      (λ three. past_case _
      (λ e. past_case _
      (λ e'. after (omega (arith, eqb-true n 3 three)) (most_passes e) (IfGood.good (most_passes e')))))

  -- 99, Invalid
  invalid_walked : (n p : ℕ) → ShapeWalked (n - 1) p (invalid_at s n p)
  unfolding invalid_at
  invalid_walked n p =
      past_case _
      (λ lo. past_case _
      (λ hi. past_case _
      (λ e. pick-case (ShapeWalked (n - 1) p) _
      (λ two. after (omega (arith, eqb-true n 2 two)) (most_passes e) (IfGood.good passes_none))
      (λ more. past_case _
      (λ some. after (omega (arith, ltb-false n 2 lo, ltb-false 3 n hi, eqb-false n 2 more)) (most_passes e)
      (IfGood.good (size_passes 1 s (token_at s p).next (eqb-false (size_at 1 s (token_at s p).next) 0 some))))))))

  -- 6, End
  end_walked : (n p : ℕ) → ShapeWalked (n - 1) p (end_at s n p)
  unfolding end_at ended
  end_walked n p =
      held_case _
      (λ three. past_case _
      (λ e. after (omega (arith, eqb-true n 3 three)) (most_passes e)
      (by _ (token_at s p).next (outcome_at s (token_at s p).next) (outcome_walked (token_at s p).next (drop (token_at s p).next s)))))
    where
      by : (session q : ℕ) (x : Read Outcome) → OutcomeWalked (drop q s) x → ShapeWalked 1 q (ended session q x)
      by session q (Err e) h = IfGood.bad
      by session q (Ok o) h = IfGood.good (passes_within (h (left_under 2)))

  -- what Response and Flood begin with
  data OpeningWalked (p : ℕ) : WithNext Opening → Type 0 where
    refused : {place : ℕ} → OpeningWalked p (departs place)
    opened : {opening : Opening} {next : ℕ} → Parts 3 p next → OpeningWalked p (Ok (opening, next))

  -- its three items
  opening_walked : (p : ℕ) → OpeningWalked p (opening_at s p)
  unfolding opening_at
  opening_walked p =
      pick-case (OpeningWalked p) _ (λ _. OpeningWalked.refused)
      (λ e. pick-case (OpeningWalked p) _
      (λ e'. pick-case (OpeningWalked p) _ (λ _. OpeningWalked.refused)
      (λ e''. OpeningWalked.opened (passes_then (passes_then (most_passes e) (initiator_passes e')) (most_passes e''))))
      (λ _. OpeningWalked.refused))

  -- the pairs of a Flood
  flooded_walked : (n p : ℕ) (opening : Opening) → 1 ≤ n → ShapeWalked n p (flooded_at s opening n p)
  unfolding flooded_at flooded_of flooded_by
  flooded_walked n p opening some = by (pair_at s p) (pair_walked p (drop p s))
    where
      all : (m : ℕ) (first : Pair) (pairs : Series) (x : PairsRead) → PairsWalked (n - 1) m x → ShapeWalked (n - 1) m (flooded_by opening first pairs x)
      all m first pairs (Err e) h = IfGood.bad
      all m first pairs (Ok run) h = IfGood.good h

      by : (x : Read Pair) → PairWalked (drop p s) x → ShapeWalked n p (flooded_of s opening n p x)
      by (Err e) h = IfGood.bad
      by (Ok r) h =
          after (omega arith) (passes_within h) (all (p + r.size) _ _ (pairs_from s (n - 1) (p + r.size) r.bad r.long) (pairs_walked (n - 1) (p + r.size) r.bad
          r.long))

  -- 9, Flood
  flood_walked : (n p : ℕ) → ShapeWalked (n - 1) p (flood_at s n p)
  unfolding flood_at flood_by
  flood_walked n p = past_case _ (λ five. by (ltb-false n 5 five) (opening_at s p) (opening_walked p))
    where
      by : 5 ≤ n → (x : WithNext Opening) → OpeningWalked p x → ShapeWalked (n - 1) p (flood_by s n x)
      by five _ OpeningWalked.refused = IfGood.bad
      by five _ (OpeningWalked.opened {opening} {next} h) = after (omega arith) h (flooded_walked (n - 4) next opening (omega arith))

  module _ (opening : Opening) where
    -- what follows the locators or the divert of a Response
    rest_walked : (targets : Targets) (left p : ℕ) (bad : Noted) → ShapeWalked left p (rest_at s opening targets left p bad)
    unfolding rest_at rest_of
    rest_walked targets left p bad =
        pick-case (ShapeWalked left p) _ (λ none. counted (eqb-true left 0 none) passes_none)
        (λ _. objective_then (rest_of s opening targets left p bad) (λ _. IfGood.bad) (λ _ _ _ _ h. held_case _ (λ one. counted (eqb-true left 1 one) h)))

    -- locators first
    located_walked : (n p : ℕ) → 1 ≤ n → ShapeWalked n p (located_at s opening n p)
    unfolding located_at located_of
    located_walked n p some = by (locators_at s p (n - 1)) (locators_walked p (drop p s) (left_under 2) 0 (n - 1))
      where
        by : (x : LocatorsRead) → LocatorsWalked p (drop p s) (left_under 2) (suc (n - 1)) 0 x → ShapeWalked n p (located_of s opening n p x)
        by (Err e) h = IfGood.bad
        by (Ok run) (c, sum, h) = after (omega arith) (passes_within h) (rest_walked _ run.left (p + run.end) run.bad)

    -- a divert first, or else locators
    targets_walked : (n p : ℕ) → 1 ≤ n → ShapeWalked n p (targets_at s opening n p)
    unfolding targets_at targets_of
    targets_walked n p some = by (divert_at s p) (divert_walked p (drop p s))
      where
        by : (x : DivertRead) → DivertWalked p (drop p s) x → ShapeWalked n p (targets_of s opening n p x)
        by (Ok None) h = located_walked n p some
        by (Err e) h = IfGood.bad
        by (Ok (Some d)) h = after (omega arith) (passes_within (h (left_under 3))) (rest_walked _ (n - 1) (p + d.size) d.bad)

  -- 2, Response
  response_walked : (n p : ℕ) → ShapeWalked (n - 1) p (response_at s n p)
  unfolding response_at response_by
  response_walked n p = past_case _ (λ five. by (ltb-false n 5 five) (opening_at s p) (opening_walked p))
    where
      by : 5 ≤ n → (x : WithNext Opening) → OpeningWalked p x → ShapeWalked (n - 1) p (response_by s n x)
      by five _ OpeningWalked.refused = IfGood.bad
      by five _ (OpeningWalked.opened {opening} {next} h) = after (omega arith) h (targets_walked opening (n - 4) next (omega arith))

  -- any kind
  kind_walked : (kind n p : ℕ) → ShapeWalked (n - 1) p (by_kind s kind n p)
  unfolding by_kind
  kind_walked kind n p =
      both P _ (noop_walked n p)
      (both P _ (discovery_walked n p)
      (both P _ (response_walked n p)
      (both P _ (end_walked n p) (both P _ (wait_walked n p) (both P _ (flood_walked n p) (both P _ (invalid_walked n p) (exchange_walked kind n p)))))))
    where
      P : Read Message → Type 0
      P = ShapeWalked (n - 1) p

  -- ---- the whole
  module _ (filled : items_in (token_at s 0) ≡ 0 → ⊥) (number : (token_at s (token_at s 0).next).major ≡ 0) where
    -- the walk ends where the parts after the kind end
    whole_walked : {end : ℕ} → Parts ((token_at s 0).arg - 1) (token_at s (token_at s 0).next).next end → first_item 0 s ≡ Ok end
    whole_walked {end} h =
        let a = token_at s 0 in
        let sum : a.arg ≡ 1 + (a.arg - 1) = omega (arith, array_filled a filled) in
        passes_item 0 s end (array_passes s 0 (is_array a filled) (rw sum (passes_then (leaf_passes s a.next (inl (omega arith))) h)))

    -- which are those of a message that is accepted
    judged_walked : {m : Message} {end : ℕ} {x : Read Message} → ShapeWalked ((token_at s 0).arg - 1) (token_at s (token_at s 0).next).next x
        → judged_shape x ≡ accepted_to m end → first_item 0 s ≡ Ok end
    unfolding judged_shape
    judged_walked IfGood.bad = λ q. cc
    judged_walked {m} {end} (IfGood.good {end = end'} h) =
        clear_case P _ (clear_case P _ (λ q. let same : end' ≡ end = (accepted_same q).1 in whole_walked h ∙ ap Ok same) (λ _ q. cc)) (λ _ q. cc)
      where
        P : Result Examined Refused → Type 0
        P x = x ≡ accepted_to m end → first_item 0 s ≡ Ok end

-- The walk accepts a message that its parts make up, and ends where they end.
pub parts_walked : (s : List ℕ) {m : Message} {end : ℕ} → examined s ≡ accepted_to m end → first_item 0 s ≡ Ok end
unfolding examined
parts_walked s {m} {end} =
    pick-case P _ (λ _ q. cc)
    (λ filled. pick-case P _
    (λ number.
    let read = judged_walked s (eqb-false (items_in (token_at s 0)) 0 filled) (eqb-true (token_at s (token_at s 0).next).major 0 number) (kind_walked s _ _ _)
    in
    both P _ (both P _ read (λ q. cc)) read)
    (λ _ q. cc))
  where
    P : Result Examined Refused → Type 0
    P x = x ≡ accepted_to m end → first_item 0 s ≡ Ok end
