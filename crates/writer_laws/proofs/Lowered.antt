-- A Discovery or a Flood whose count's head is replaced by that of one less: it is read, as it was but for that count.
-- Assumes nothing.
use mathlib.Core.Path.{◌≡◌, refl, ap, ◌∙◌, subst}
use mathlib.Core.List.{List, ◌++◌}
use mathlib.Core.Bool.{true, false}
use Prim.Native.Nat.{ℕ, ◌+◌, ◌-◌, ◌≤◌}
use native.Mathlib.Omega.{arith}
use lib.Dec.{ltb, eqb}
use lib.ListN.{length, drop, length-drop}
use borrow.Author.Tests.{ltb-false, eqb-true, eqb-false, le-ltb}
use Rattle.options.specs.Text.{Noted}
use Rattle.std.specs.Prelude.{None}
use Rattle.std.specs.Prelude.{Result, Ok, Err}
use Rattle.options.proofs.Same.{part_same}
use Rattle.options.specs.Part.{Read, departs, part}
use Rattle.message.specs.Opening.{WithNext}
use Rattle.options.specs.Pair.{paired}
use Rattle.message.specs.Sequence.{PairsRead}
use Rattle.message.specs.Sequence.{pairs_ended}
use Rattle.base.specs.Pick.{pick}
use Rattle.base.proofs.Picks.{pick-case, both}
use Rattle.cbor.specs.declared.token.Token.{Token}
use Rattle.cbor.specs.Put.{head}
use Rattle.cbor.specs.Token.{token_at, items_in, up_to}
use Rattle.cbor.proofs.Tokens.{token_is, token_has, is_array, is_number}
use Rattle.options.specs.declared.Span.{Span}
use Rattle.options.specs.declared.objective.Objective.{Objective}
use Rattle.options.specs.Pair.{PairTag}
use Rattle.options.specs.declared.pair.Pair.{Pair}
use Rattle.options.specs.Text.{held, content_of}
use Rattle.options.specs.Objective.{objective_at}
use Rattle.options.specs.Pair.{pair_at}
use Rattle.message.specs.declared.Series.{Series}
use Rattle.message.specs.declared.Message.{Message}
use Rattle.message.specs.declared.Message.TheVariants as M
use Rattle.message.specs.declared.opening.Opening.{Opening}
use Rattle.message.specs.declared.Examined.{Examined}
use Rattle.refusal.specs.declared.Refused.{Refused}
use Rattle.message.proofs.Clear.{clear_told}
use Rattle.message.proofs.Fits.{accepted_same}
use Rattle.message.specs.Opening.{most_number, objective_levels, is_initiator, opening_at}
use Rattle.message.specs.Shape.{discovered, discovery_at}
use Rattle.message.specs.Sequence.{pairs_from}
use Rattle.message.specs.Flood.{flooded_by, flooded_of, flooded_at, flood_by, flood_at}
use Rattle.message.specs.Examined.{accepted_to, by_kind, clear, judged_shape, examined}
use Rattle.message.proofs.Parts.{MessageParts, OfKind, ShapeParts, initiated, kind_parts}
use Rattle.message.specs.Fields.{session_of, initiator_of}
use Rattle.writer.specs.Lower.{Lowers, Relays}
use Rattle.writer_laws.proofs.Moved.{PairsMove, none_before, pairs_move}
use Rattle.writer_laws.proofs.Recounted.{held_kept, CountAt, Recounted, further, rest_kept, front_token, objective_beyond, pair_beyond}

-- a departure is no shape
no_shape : {place : ℕ} {m : Message} {end : ℕ} → departs place ≡ part m end None None → ⊥
no_shape q = let z : ◌≡◌ {A = ℕ} 0 1 = cc in omega arith

-- ---- the whole, by its lead
-- a shape that is accepted has no fault
judged_good : (x : Read Message) {m : Message} {end : ℕ} → judged_shape x ≡ accepted_to m end → x ≡ part m end None None
unfolding judged_shape
judged_good (Err e) = λ q. cc
judged_good (Ok got) {m} {end} =
    clear_told P got.bad
    (λ e. clear_told P got.long
    (λ f q.
    let (same, same') = accepted_same q in
    rw (same, same', e, f))
    (λ _ _ q. cc))
    (λ _ _ q. cc)
  where
    P : Result Examined Refused → Type 0
    P r = r ≡ accepted_to m end → part got.value got.size got.bad got.long ≡ part m end None None

-- an array with items, led by a number, whose shape by that number has no fault
record Led (s : List ℕ) (m : Message) (end : ℕ) : Type 0 where
  filled : eqb (items_in (token_at s 0)) 0 ≡ false
  number : eqb (token_at s (token_at s 0).next).major 0 ≡ true
  shape : by_kind s (token_at s (token_at s 0).next).arg (token_at s 0).arg (token_at s (token_at s 0).next).next ≡ part m end None None

-- a message that its parts make up is so led
led : (s : List ℕ) {m : Message} {end : ℕ} → examined s ≡ accepted_to m end → Led s m end
unfolding examined
led s {m} {end} =
    pick-case P _ (λ _ q. absurd (never q))
    (λ t₁. pick-case P _ (λ t₂. both P _ (both P _ (read t₁ t₂) (λ q. absurd (never q))) (read t₁ t₂)) (λ _ q. absurd (never q)))
  where
    a : Token
    a = token_at s 0

    k : Token
    k = token_at s a.next

    P : Result Examined Refused → Type 0
    P x = x ≡ accepted_to m end → Led s m end

    never : {e : Refused} → Err e ≡ accepted_to m end → ⊥
    never q = let z : ◌≡◌ {A = ℕ} 0 1 = cc in omega arith

    read : eqb (items_in a) 0 ≡ false → eqb k.major 0 ≡ true → P (judged_shape (by_kind s k.arg a.arg k.next))
    read t₁ t₂ q = record { filled = t₁; number = t₂; shape = judged_good (by_kind s k.arg a.arg k.next) q }

-- what stands before the count, its head and what follows it, and the new count
module _ (u h r : List ℕ) (n : ℕ) where
  abbrev old : List ℕ
  old = u ++ (h ++ r)

  abbrev new : List ℕ
  new = u ++ (head 0 n ++ r)

  -- ---- the two kinds
  -- a shape with an initiator, its session at `at`, is read with the new count; both stand before it
  pub record ShapeRecounted (at : ℕ) (i : Span) (read : Read Message) (make : Objective → Message) (end : ℕ) : Type 0 where
    pub start : at ≤ length u
    pub within : i.at + i.len ≤ length u
    pub shape : Recounted u h n read (λ o e. part (make o) e None None) end

  discovery_recounted : n ≤ 255 → (m at session : ℕ) (i : Span) (o : Objective) (end : ℕ) → CountAt u h 0 o
      → discovery_at old m at ≡ part (M.Discovery session i o) end None None
      → ShapeRecounted at i (discovery_at new m at) (M.Discovery session i) end
  unfolding discovery_at discovered pick
  discovery_recounted few m at session i o end place =
      pick-case P (eqb m 4)
      (λ t₁. pick-case P (ltb most_number (up_to most_number k)) (λ _ q. absurd (no_shape q))
      (λ t₂. pick-case P (is_initiator j) (λ t₃. by t₁ t₂ t₃ (objective_at objective_levels old j.next) refl) (λ _ q. absurd (no_shape q))))
      (λ _ q. absurd (no_shape q))
    where
      k : Token
      k = token_at old at

      j : Token
      j = token_at old k.next

      P : Read Message → Type 0
      P x = x ≡ part (M.Discovery session i o) end None None → ShapeRecounted at i (discovery_at new m at) (M.Discovery session i) end

      made : eqb m 4 ≡ true → ltb most_number (up_to most_number k) ≡ false → is_initiator j ≡ true → {size : ℕ} → j.next + size ≡ end
          → up_to most_number k ≡ session → content_of j ≡ i
          → (j.next ≤ length u) × Recounted (drop j.next u) h n (objective_at objective_levels new j.next) (λ o e. part o e None None) size
          → ShapeRecounted at i (discovery_at new m at) (M.Discovery session i) end
      made t₁ t₂ t₃ all same same' (low, x) =
          let (number, _) = is_number most_number k (ltb-false most_number (up_to most_number k) t₂) in
          let (two, _) = initiated j t₃ in
          let k₁ : at + 1 ≤ k.next = (token_has old at).some (omega arith) in
          let j₁ : k.next + 1 ≤ j.next = (token_has old k.next).some (omega arith) in
          record {
            start = omega arith;
            within = omega (arith, (token_is old k.next j refl).start, ap (λ (v : Span). v.at) same', ap (λ (v : Span). v.len) same');
            shape =
                rw all at
                (further j.next (discovery_at new m at) (λ o e. part (M.Discovery session i o) e None None)
                (λ o e got.
                rw (front_token h r n u at (omega arith) (omega arith), front_token h r n u k.next (omega arith) low, t₁, t₂, t₃, got, ← same, ← same'))
                x);
          }

      by : eqb m 4 ≡ true → ltb most_number (up_to most_number k) ≡ false → is_initiator j ≡ true → (x : Read Objective)
          → objective_at objective_levels old j.next ≡ x
          → P (discovered (up_to most_number k) (content_of j) j.next x)
      by t₁ t₂ t₃ (Err d) e = λ q. absurd (no_shape q)
      by t₁ t₂ t₃ (Ok got) e =
          λ q.
          let (message, end, fine, short) = part_same q in
          let same : got.value ≡ o = cc in
          made t₁ t₂ t₃ (cc) (cc) (cc)
          (objective_beyond h r n few u objective_levels 0 j.next j.next o got.size (omega arith) place (rw (same, fine, short) at e))

  -- what stands before the pairs of a Flood
  opening_kept : (at : ℕ) (o : Opening) (next : ℕ) → next ≤ length u → opening_at old at ≡ Ok (o, next)
      → (at ≤ length u) × (o.initiator.at + o.initiator.len ≤ length u) × (opening_at new at ≡ Ok (o, next))
  unfolding opening_at pick
  opening_kept at o next low =
      pick-case P (ltb most_number (up_to most_number k)) (λ _ q. absurd (never q))
      (λ t₁. pick-case P (is_initiator j)
      (λ t₂. pick-case P (ltb most_number (up_to most_number t)) (λ _ q. absurd (never q))
      (λ t₃ q.
      let (number, _) = is_number most_number k (ltb-false most_number (up_to most_number k) t₁) in
      let (two, _) = initiated j t₂ in
      let (time, _) = is_number most_number t (ltb-false most_number (up_to most_number t) t₃) in
      let k₁ : at + 1 ≤ k.next = (token_has old at).some (omega arith) in
      let j₁ : k.next + 1 ≤ j.next = (token_has old k.next).some (omega arith) in
      let t₄ : j.next + 1 ≤ t.next = (token_has old j.next).some (omega arith) in
      let all : t.next ≡ next = ap next_in q in
      let is : content_of j ≡ o.initiator = ap initiator_in q in (
        omega arith,
        omega (arith, (token_is old k.next j refl).start, ap (λ (v : Span). v.at) is, ap (λ (v : Span). v.len) is),
        rw (
          front_token h r n u at (omega arith) (omega arith),
          t₁,
          front_token h r n u k.next (omega arith) (omega arith),
          t₂,
          front_token h r n u j.next (omega arith) (omega arith),
          t₃,
        ) q,
      )))
      (λ _ q. absurd (never q)))
    where
      k : Token
      k = token_at old at

      j : Token
      j = token_at old k.next

      t : Token
      t = token_at old j.next

      P : WithNext Opening → Type 0
      P x =
          x ≡ Ok (o, next) → (at ≤ length u) × (o.initiator.at + o.initiator.len ≤ length u) × (opening_at new at ≡ Ok (o, next))

      never : {place : ℕ} → ◌≡◌ {A = WithNext Opening} (departs place) (Ok (o, next)) → ⊥
      never q = let z : ◌≡◌ {A = ℕ} 0 1 = cc in omega arith

      initiator_in : WithNext Opening → Span
      initiator_in (Err e) = content_of j
      initiator_in (Ok (opening, end)) = opening.initiator

      next_in : WithNext Opening → ℕ
      next_in (Err e) = t.next
      next_in (Ok (opening, end)) = end

  flood_recounted : n ≤ 255 → (m at session : ℕ) (i : Span) (ttl : ℕ) (first : Pair) (series : Series) (end : ℕ) → CountAt u h 0 first.objective
      → flood_at old m at ≡ part (M.Flood session i ttl first series) end None None
      → (tag : PairTag) × ShapeRecounted at i (flood_at new m at) (λ o. M.Flood session i ttl (record { objective = o; tag = tag }) series) end
  unfolding flood_at flood_by flooded_at flooded_of flooded_by pick
  flood_recounted few m at session i ttl pair series end place = pick-case P (ltb m 5) (λ _ q. absurd (no_shape q)) (λ t. opened t (opening_at old at) refl)
    where
      Found : Type 0
      Found = (tag : PairTag) × ShapeRecounted at i (flood_at new m at) (λ o. M.Flood session i ttl (record { objective = o; tag = tag }) series) end

      P : Read Message → Type 0
      P x = x ≡ part (M.Flood session i ttl pair series) end None None → Found

      -- with the opening, the first pair and the other pairs of the new bytes
      made : ltb m 5 ≡ false → {opening : Opening} {next : ℕ} {tag : PairTag} {size : ℕ}
          → (at ≤ length u) × (opening.initiator.at + opening.initiator.len ≤ length u) × (opening_at new at ≡ Ok (opening, next))
          → (x : Recounted (drop next u) h n (pair_at new next) (λ o e. paired o tag e None None) size)
          → PairsMove (next + size) end (next + (length (drop next u) + length (head 0 n) + x.rest))
          (pairs_from new (m - 4 - 1) (next + (length (drop next u) + length (head 0 n) + x.rest)) None None)
          → opening.session ≡ session → opening.initiator ≡ i → opening.ttl ≡ ttl → record { at = next; many = m - 4 } ≡ series → Found
      made t {next = next} {tag} (start, within, first) x (size, ends, run) a b c d =
          let to : next + (length (drop next u) + length (head 0 n) + x.rest) + size ≡ length u + length (head 0 n) + (x.rest + size + (next - length u)) =
          omega (arith, length-drop next u) in (
            tag,
            record {
              start = start;
              within = rw b at within;
              shape =
                  record {
                    rest = x.rest + size + (next - length u);
                    objective = x.objective;
                    sized = omega (arith, x.sized, length-drop next u);
                    is = rw (t, first, x.is, run, ← a, ← b, ← c, ← d, to);
                    count = x.count;
                  };
            },
          )

      relayed : ltb m 5 ≡ false → {opening : Opening} {next : ℕ} → opening_at old at ≡ Ok (opening, next) → {size : ℕ}
          → (next ≤ length u) × (tag : PairTag) × Recounted (drop next u) h n (pair_at new next) (λ o e. paired o tag e None None) size
          → pairs_from old (m - 4 - 1) (next + size) None None ≡ pairs_ended end None None
          → opening.session ≡ session → opening.initiator ≡ i → opening.ttl ≡ ttl → record { at = next; many = m - 4 } ≡ series → Found
      relayed t {opening} {next} e {size} (low, tag, x) run =
          made t (opening_kept at opening next low e) x
          (pairs_move old new (m - 4 - 1) (next + size) (next + (length (drop next u) + length (head 0 n) + x.rest)) end
          (λ y.
          let from : next + size + y ≡ length u + length h + (x.rest + y) = omega (arith, x.sized, length-drop next u) in
          let to : next + (length (drop next u) + length (head 0 n) + x.rest) + y ≡ length u + length (head 0 n) + (x.rest + y) =
          omega (arith, length-drop next u) in
          rw (from, to) (rest_kept h r n u (x.rest + y)))
          run)

      passed : ltb m 5 ≡ false → {opening : Opening} {next : ℕ} → opening_at old at ≡ Ok (opening, next) → {first : Pair} {size : ℕ} {bad long : Noted}
          → pair_at old next ≡ paired first.objective first.tag size bad long → (x : PairsRead)
          → pairs_from old (m - 4 - 1) (next + size) bad long ≡ x
          → P (flooded_by opening first (record { at = next; many = m - 4 }) x)
      passed t e f (Err d) g = λ q. absurd (no_shape q)
      passed t {opening} {next} e {first} {size} {bad} {long} f (Ok got) g =
          λ q.
          let (message, ends, none, short') = part_same q in
          let same : first ≡ pair = cc in
          let last : pairs_ended got.end got.bad got.long ≡ pairs_ended end None None = rw (ends, none, short') in
          let run : pairs_from old (m - 4 - 1) (next + size) bad long ≡ pairs_ended end None None = g ∙ last in
          let (fine, short) = none_before old (m - 4 - 1) (next + size) bad long end run in
          relayed t e (pair_beyond h r n few u 0 next next pair.objective pair.tag size (omega arith) place (rw (same, fine, short) at f))
          (rw (fine, short) at run) (cc) (cc) (cc) (cc)

      opened : ltb m 5 ≡ false → (x : WithNext Opening) → opening_at old at ≡ x → P (flood_by old m x)
      opened t (Err d) e = λ q. absurd (no_shape q)
      opened t (Ok (opening, next)) e = by (pair_at old next) refl
        where
          by : (x : Read Pair) → pair_at old next ≡ x → P (flooded_of old opening (m - 4) next x)
          by (Err e) f = λ q. absurd (no_shape q)
          by (Ok r) f = passed t e {first = r.value} f (pairs_from old (m - 4 - 1) (next + r.size) r.bad r.long) refl

  -- ---- the whole
  abbrev array : Token
  array = token_at old 0

  abbrev kind : Token
  kind = token_at old array.next

  -- the message is read with the new count, and relays what was read
  pub record MessageRecounted (m : Message) (o : Objective) (end : ℕ) : Type 0 where
    pub message : Message
    pub rest : ℕ
    pub sized : end ≡ length u + length h + rest
    pub read : examined new ≡ accepted_to message (length u + length (head 0 n) + rest)
    pub relays : Relays old m o new message

  -- so it is where its shape is
  whole : (m : Message) (make : Objective → Message) (o : Objective) (end : ℕ) (i : Span) → Led old m end → kind.arg ≤ 9
      → ShapeRecounted kind.next i (by_kind new kind.arg array.arg kind.next) make end
      → ((o' : Objective) → held new i ≡ held old i → o'.count ≡ n → Relays old m o new (make o')) → MessageRecounted m o end
  unfolding examined judged_shape clear pick
  whole m make o end i l known c relays =
      let four : array.major ≡ 4 = is_array array (eqb-false (items_in array) 0 l.filled) in
      let none : kind.major ≡ 0 = eqb-true kind.major 0 l.number in
      let one : array.next + 1 ≤ kind.next = (token_has old array.next).some (omega arith) in
      let first = front_token h r n u 0 (omega arith) (omega (arith, c.start)) in
      let second = front_token h r n u array.next (omega arith) c.start in
      record {
        message = make c.shape.objective;
        rest = c.shape.rest;
        sized = c.shape.sized;
        read = rw (first, l.filled, second, l.number, le-ltb 9 kind.arg known, c.shape.is);
        relays = relays c.shape.objective (held_kept u (h ++ r) (head 0 n ++ r) i c.within) c.shape.count;
      }

  -- its kind is the message's, and its parts lie in it
  of_kind_lem : (m : Message) (end : ℕ) → Led old m end → OfKind kind.arg m × MessageParts old m
  of_kind_lem m end l = subst (ShapeParts old kind.arg) l.shape (kind_parts old kind.arg array.arg kind.next)

  pub message_recounted : {m : Message} {o : Objective} (end : ℕ) → Lowers m o → CountAt u h 0 o → n ≡ o.count - 1 → examined old ≡ accepted_to m end
      → MessageRecounted m o end
  unfolding by_kind session_of initiator_of pick
  message_recounted end (Lowers.discovery {session} {i} {o}) place lower q =
      let l = led old q in
      let (one, parts) = of_kind_lem (M.Discovery session i o) end l in
      whole (M.Discovery session i o) (M.Discovery session i) o end i l (omega arith)
      (rw one (discovery_recounted (omega (arith, parts.1.limit)) array.arg kind.next session i o end place (rw one at l.shape)))
      (λ o' same e. record { kind = refl; session = refl; initiator = same; objective = o'; lowers = Lowers.discovery; lower = e ∙ lower })
  message_recounted end (Lowers.flood {session} {ttl} {i} {first} {series}) place lower q =
      let l = led old q in
      let (nine, parts) = of_kind_lem (M.Flood session i ttl first series) end l in
      let (tag, shape) =
      flood_recounted (omega (arith, parts.1.limit)) array.arg kind.next session i ttl first series end place (rw nine at l.shape) in
      whole (M.Flood session i ttl first series) (λ o. M.Flood session i ttl (record { objective = o; tag = tag }) series) first.objective end i l
      (omega arith) (rw nine shape)
      (λ o' same e. record { kind = refl; session = refl; initiator = same; objective = o'; lowers = Lowers.flood; lower = e ∙ lower })
