-- What is known of a message that was examined, of any list of numbers: that its session has 32 bits and a count is at
-- most 255, where an initiator, the objective of a Discovery, a Flood or an exchange, and its parts lie, and that each
-- locator and each pair has six bytes at least; and of a refusal, that its number is at most 11.
-- Assumes nothing.
use mathlib.Core.Path.{◌≡◌, refl, subst}
use mathlib.Core.List.{List}
use mathlib.Core.Bool.{true, ◌||◌}
use mathlib.Core.Logic.{◌⊎◌, inl, inr, ⊎_elim}
use Prim.Native.Nat.{ℕ, suc, ◌+◌, ◌-◌, ◌*◌, ◌≤◌}
use native.Mathlib.Omega.{arith}
use lib.ListN.{length, drop, length-drop}
use lib.Dec.{eqb, lit≤}
use borrow.Author.Tests.{ltb-false, eqb-true}
use Rattle.options.specs.Text.{Noted}
use Rattle.std.specs.Prelude.{Result, Ok, Err, Some, None}
use Rattle.base.proofs.Bools.{and_left, and_right, or_true}
use Rattle.base.proofs.Picks.{pick-case, both}
use Rattle.cbor.specs.declared.token.Token.{Token}
use Rattle.cbor.specs.Token.{token_at}
use Rattle.cbor.proofs.Tokens.{token_end, token_has}
use Rattle.options.specs.declared.Span.{Span}
use Rattle.options.specs.declared.objective.Objective.{Objective}
use Rattle.options.specs.declared.outcome.Outcome.{Outcome}
use Rattle.options.specs.declared.pair.Pair.{Pair}
use Rattle.options.specs.Text.{content_of}
use Rattle.options.specs.Part.{Read}
use Rattle.options.specs.Locators.{LocatorsRead}
use Rattle.options.specs.Divert.{DivertRead, divert_at}
use Rattle.options.specs.Objective.{objective_at}
use Rattle.options.specs.Pair.{pair_at}
use Rattle.options.proofs.Fits.{ObjectiveParts, ObjectiveOk, objective_within, PairOk, pair_within}
use Rattle.options.proofs.Series.{LocatorsOk, locators_ok, DivertOk, divert_ok}
use Rattle.message.specs.declared.Series.{Series}
use Rattle.message.specs.declared.Targets.{Targets}
use Rattle.message.specs.Fields.{Extra}
use Rattle.message.specs.declared.Message.{Message}
use Rattle.message.specs.declared.Message.TheVariants as M
use Rattle.message.specs.declared.opening.Opening.{Opening}
use Rattle.refusal.specs.declared.Refused.{Refused}
use Rattle.refusal.specs.Refusal.{number_of}
use Rattle.message.specs.declared.Examined.{Examined}
use Rattle.message.specs.Sequence.{PairsRead}
use Rattle.message.specs.Opening.{WithNext, most_number, objective_levels, is_initiator, opening_at}
use Rattle.message.specs.Shape.{noop_at, discovered, discovery_at, exchange_of, exchanged, exchange_at, wait_at, invalid_at, ended, end_at}
use Rattle.message.specs.Response.{rest_of, rest_at, located_of, located_at, targets_of, targets_at, response_by, response_at}
use Rattle.message.specs.Flood.{flooded_by, flooded_of, flooded_at, flood_by, flood_at}
use Rattle.message.proofs.Clear.{clear_case}
use Rattle.message.proofs.Fits.{PairsRan, pairs_ran}
use Rattle.message.specs.Examined.{by_kind, judged_shape, examined}

-- a session of 32 bits, and an initiator of 4 or 16 bytes in the message
pub record Opened (s : List ℕ) (number : ℕ) (i : Span) : Type 0 where
  pub session : number ≤ most_number
  pub within : i.at + i.len ≤ length s
  pub bytes : (i.len ≡ 4) ⊎ (i.len ≡ 16)

-- so many elements of six bytes at least
abbrev pub Six : List ℕ → Series → Type 0
Six s series = 6 * series.many ≤ length s

abbrev pub TargetsSix : List ℕ → Targets → Type 0
TargetsSix s (Targets.Locators first series) = Six s series
TargetsSix s (Targets.Divert first series) = Six s series

-- a count of at most 255
abbrev pub SmallCount : Extra → Type 0
SmallCount None = Unit {0}
SmallCount (Some o) = o.count ≤ 255

abbrev pub MessageParts : List ℕ → Message → Type 0
MessageParts s M.Noop = Unit {0}
MessageParts s (M.Discovery session initiator o) = Opened s session initiator × ObjectiveParts (length s) o
MessageParts s (M.Response session initiator ttl targets extra) = Opened s session initiator × TargetsSix s targets × SmallCount extra
MessageParts s (M.RequestNegotiation session o) = (session ≤ most_number) × ObjectiveParts (length s) o
MessageParts s (M.RequestSynchronization session o) = (session ≤ most_number) × ObjectiveParts (length s) o
MessageParts s (M.Negotiate session o) = (session ≤ most_number) × ObjectiveParts (length s) o
MessageParts s (M.End session outcome) = session ≤ most_number
MessageParts s (M.Wait session time) = session ≤ most_number
MessageParts s (M.Synch session o) = (session ≤ most_number) × ObjectiveParts (length s) o
MessageParts s (M.Flood session initiator ttl first pairs) = Opened s session initiator × ObjectiveParts (length s) first.objective × Six s pairs
MessageParts s (M.Invalid session item) = session ≤ most_number

-- a Discovery is of kind 1 and a Flood of kind 9
abbrev pub OfKind : ℕ → Message → Type 0
OfKind kind M.Noop = Unit {0}
OfKind kind (M.Discovery session initiator o) = kind ≡ 1
OfKind kind (M.Response session initiator ttl targets extra) = Unit {0}
OfKind kind (M.RequestNegotiation session o) = Unit {0}
OfKind kind (M.RequestSynchronization session o) = Unit {0}
OfKind kind (M.Negotiate session o) = Unit {0}
OfKind kind (M.End session outcome) = Unit {0}
OfKind kind (M.Wait session time) = Unit {0}
OfKind kind (M.Synch session o) = Unit {0}
OfKind kind (M.Flood session initiator ttl first pairs) = kind ≡ 9
OfKind kind (M.Invalid session item) = Unit {0}

-- what the test of an initiator says
pub initiated : (t : Token) → is_initiator t ≡ true → (t.major ≡ 2) × ((t.arg ≡ 4) ⊎ (t.arg ≡ 16))
unfolding is_initiator
initiated t q =
    let size = eqb t.arg 4 || eqb t.arg 16 in (
      eqb-true t.major 2 (and_left (eqb t.major 2) size q),
      ⊎_elim (λ e. inl (eqb-true t.arg 4 e)) (λ e. inr (eqb-true t.arg 16 e))
          (or_true (eqb t.arg 4) (eqb t.arg 16) (and_right (eqb t.major 2) size q)),
    )

module _ (s : List ℕ) where
  -- ---- parts of a message
  -- a session, and an initiator of 4 or 16 bytes
  opened : {session : ℕ} (at : ℕ) → session ≤ most_number → is_initiator (token_at s at) ≡ true → Opened s session (content_of (token_at s at))
  opened at h e =
      let t = token_at s at in
      let (two, size) = initiated t e in
      let string : t.next ≡ t.body + t.arg = (token_has s at).string (omega arith) (omega arith) in
      let long : t.arg ≡ t.next - t.body = omega arith in
      record { session = h; within = omega (arith, (token_has s at).start, token_end s at); bytes = subst (λ (n : ℕ). (n ≡ 4) ⊎ (n ≡ 16)) long size }

  -- an objective
  objective_in_lem : {at : ℕ} {o : Objective} → at ≤ length s → ObjectiveParts (at + (length s - at)) o → ObjectiveParts (length s) o
  objective_in_lem {at} {o} low = subst (λ (end : ℕ). ObjectiveParts end o) (omega arith)

  objective_read_lem : (at : ℕ) → ObjectiveOk at (length s - at) (objective_at objective_levels s at)
  objective_read_lem at = objective_within objective_levels s at at _ _ refl refl

  -- an opening
  abbrev OpeningParts : WithNext Opening → Type 0
  OpeningParts (Err e) = Unit {0}
  OpeningParts (Ok (opening, next)) = (next ≤ length s) × Opened s opening.session opening.initiator

  opening_parts : (at : ℕ) → OpeningParts (opening_at s at)
  unfolding opening_at
  opening_parts at =
      let next = (token_at s at).next in
      pick-case OpeningParts _ (λ _. tt)
      (λ e. pick-case OpeningParts _ (λ f. both OpeningParts _ tt (token_end s (token_at s next).next, opened next (ltb-false most_number _ e) f)) (λ _. tt))

  -- ---- the shapes
  module _ (kind : ℕ) where
    abbrev pub ShapeParts : Read Message → Type 0
    ShapeParts (Err e) = Unit {0}
    ShapeParts (Ok m) = OfKind kind m.value × MessageParts s m.value

    -- Discovery
    discovered_parts : (session at : ℕ) (i : Span) (x : Read Objective) → kind ≡ 1 → at ≤ length s → Opened s session i → ObjectiveOk at (length s - at) x
        → ShapeParts (discovered session i at x)
    unfolding discovered
    discovered_parts session at i (Err e) one low h ok = tt
    discovered_parts session at i (Ok o) one low h ok = (one, (h, objective_in_lem low ok.0))

    discovery_parts : (n at : ℕ) → kind ≡ 1 → ShapeParts (discovery_at s n at)
    unfolding discovery_at
    discovery_parts n at one =
        let next = (token_at s at).next in
        let end = (token_at s next).next in
        both ShapeParts _
        (pick-case ShapeParts _ (λ _. tt)
        (λ e. pick-case ShapeParts _
        (λ f. discovered_parts _ end _ _ one (token_end s next) (opened next (ltb-false most_number _ e) f) (objective_read_lem end)) (λ _. tt))) tt

    -- Flood
    flooded_by_lem : (from n at : ℕ) (opening : Opening) (first : Pair) (x : PairsRead) → kind ≡ 9 → Opened s opening.session opening.initiator
        → ObjectiveParts (length s) first.objective
        → PairsRan s (n - 1) at x → 6 ≤ at → ShapeParts (flooded_by opening first (record { at = from; many = n }) x)
    unfolding flooded_by
    flooded_by_lem from n at opening first (Err e) nine h parts ran six = tt
    flooded_by_lem from n at opening first (Ok r) nine h parts ran six = (nine, (h, parts, omega arith))

    flooded_of_lem : (n at : ℕ) (opening : Opening) (x : Read Pair) → kind ≡ 9 → Opened s opening.session opening.initiator → PairOk at (length s - at) x
        → ShapeParts (flooded_of s opening n at x)
    unfolding flooded_of
    flooded_of_lem n at opening (Err e) nine h ok = tt
    flooded_of_lem n at opening (Ok p) nine h ok =
        flooded_by_lem at n (at + p.size) opening _ _ nine h (objective_in_lem (omega arith) ok.0)
        (pairs_ran s (n - 1) (at + p.size) p.bad p.long (omega arith)) (omega arith)

    flood_parts : (n at : ℕ) → kind ≡ 9 → ShapeParts (flood_at s n at)
    unfolding flood_at flood_by flooded_at
    flood_parts n at nine = both ShapeParts _ tt (by (opening_at s at) (opening_parts at))
      where
        by : (x : WithNext Opening) → OpeningParts x → ShapeParts (flood_by s n x)
        by (Err e) h = tt
        by (Ok (opening, next)) h = flooded_of_lem (n - 4) next opening (pair_at s next) nine h.1 (pair_within s next next _ _ refl refl)

    -- Response
    module _ (opening : Opening) (h : Opened s opening.session opening.initiator) where
      rest_parts : (targets : Targets) (left at : ℕ) (bad : Noted) → TargetsSix s targets → ShapeParts (rest_at s opening targets left at bad)
      unfolding rest_at rest_of
      rest_parts targets left at bad six = both ShapeParts _ (tt, (h, six, tt)) (by (objective_at objective_levels s at) (objective_read_lem at))
        where
          by : (x : Read Objective) → ObjectiveOk at (length s - at) x → ShapeParts (rest_of s opening targets left at bad x)
          by (Err e) ok = tt
          by (Ok o) ok = both ShapeParts _ (tt, (h, six, ok.0.limit)) tt

      located_parts : (n at : ℕ) (x : LocatorsRead) → LocatorsOk at (drop at s) (suc (n - 1)) 0 x → ShapeParts (located_of s opening n at x)
      unfolding located_of
      located_parts n at (Err e) ok = tt
      located_parts n at (Ok l) ok = rest_parts _ l.left (at + l.end) l.bad (omega (arith, length-drop at s))

      targets_parts : (n at : ℕ) (x : DivertRead) → at ≤ length s → DivertOk at (drop at s) x → ShapeParts (targets_of s opening n at x)
      unfolding targets_of located_at
      targets_parts n at (Ok None) low ok = located_parts n at _ (locators_ok at (drop at s) 0 (n - 1) (omega arith))
      targets_parts n at (Err e) low ok = tt
      targets_parts n at (Ok (Some d)) low ok = rest_parts _ (n - 1) (at + d.size) d.bad (omega (arith, length-drop at s))

    response_parts : (n at : ℕ) → ShapeParts (response_at s n at)
    unfolding response_at response_by targets_at
    response_parts n at = both ShapeParts _ tt (by (opening_at s at) (opening_parts at))
      where
        by : (x : WithNext Opening) → OpeningParts x → ShapeParts (response_by s n x)
        by (Err e) h = tt
        by (Ok (opening, next)) (low, h) = targets_parts opening h (n - 4) next (divert_at s next) low (divert_ok next (drop next s))

    -- the other kinds
    ended_parts : (session at : ℕ) (x : Read Outcome) → session ≤ most_number → ShapeParts (ended session at x)
    unfolding ended
    ended_parts session at (Err e) h = tt
    ended_parts session at (Ok o) h = (tt, h)

    exchanged_parts : (session at : ℕ) (x : Read Objective) → session ≤ most_number → at ≤ length s → ObjectiveOk at (length s - at) x
        → ShapeParts (exchanged kind session at x)
    unfolding exchanged exchange_of
    exchanged_parts session at (Err e) h low ok = tt
    exchanged_parts session at (Ok o) h low ok =
        let parts = objective_in_lem low ok.0 in
        both Parts _ (tt, (h, parts)) (both Parts _ (tt, (h, parts)) (both Parts _ (tt, (h, parts)) (tt, (h, parts))))
      where
        Parts : Message → Type 0
        Parts m = OfKind kind m × MessageParts s m

    pub kind_parts : (n at : ℕ) → ShapeParts (by_kind s kind n at)
    unfolding by_kind noop_at end_at wait_at invalid_at exchange_at
    kind_parts n at =
        both P _ (both P _ (tt, tt) tt)
        (pick-case P _ (λ e. discovery_parts n at (eqb-true kind 1 e))
        (λ _. both P _ (response_parts n at)
        (both P _ (both P _ (pick-case P _ (λ _. tt) (λ e. ended_parts _ _ _ (ltb-false most_number _ e))) tt)
        (both P _ (both P _ (pick-case P _ (λ _. tt) (λ e. both P _ tt (tt, ltb-false most_number _ e))) tt)
        (pick-case P _ (λ e. flood_parts n at (eqb-true kind 9 e))
        (λ _. both P _
        (both P _ tt (both P _ tt (pick-case P _ (λ _. tt) (λ e. both P _ (tt, ltb-false most_number _ e) (both P _ tt (tt, ltb-false most_number _ e))))))
        (both P _ (pick-case P _ (λ _. tt) (λ e. exchanged_parts _ _ _ (ltb-false most_number _ e) (token_end s at) (objective_read_lem _))) tt)))))))
      where
        P : Read Message → Type 0
        P = ShapeParts

  -- ---- the answer
  abbrev pub ExaminedParts : Result Examined Refused → Type 0
  ExaminedParts (Err e) = number_of e.refusal ≤ 11
  ExaminedParts (Ok m) = MessageParts s m.message

  judged_parts : (kind : ℕ) (x : Read Message) → ShapeParts kind x → ExaminedParts (judged_shape x)
  unfolding judged_shape
  judged_parts kind (Err e) h = lit≤ tt
  judged_parts kind (Ok m) h = clear_case ExaminedParts m.bad (clear_case ExaminedParts m.long h.1 (λ place. lit≤ tt)) (λ place. lit≤ tt)

  pub examined_parts : ExaminedParts (examined s)
  unfolding examined
  examined_parts =
      let read = judged_parts _ _ (kind_parts (token_at s (token_at s 0).next).arg _ _) in
      both P _ (lit≤ tt) (both P _ (both P _ (both P _ read (lit≤ tt)) read) (lit≤ tt))
    where
      P : Result Examined Refused → Type 0
      P = ExaminedParts
