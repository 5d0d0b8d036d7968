-- A message of the grammar is described in one way: each part stands right after the one before it, so every place
-- follows from the start, and those of an objective from its end too, as no head has another width.
-- Assumes nothing.
use Rattle.cbor.specs.Head.{a_head}
use mathlib.Core.Path.{◌≡◌, refl, sym, ap, ap₂, ◌∙◌, subst}
use mathlib.Core.List.{List}
use mathlib.Core.Option.{Option, none, some}
use Prim.Native.Nat.{ℕ, suc, ◌+◌, ◌-◌}
use native.Mathlib.Omega.{arith}
use lib.ListN.{length, drop}
use lib.Dec.{eqb}
use borrow.Author.Tests.{eqb-true}
use Rattle.std.specs.Prelude.{Some}
use Rattle.base.proofs.Picks.{pick-case}
use Rattle.cbor.specs.Head.{head_at}
use Rattle.cbor.specs.Tree.{Item, Items, head_bytes, count, encode}
use Rattle.cbor.proofs.HeadExact.{length_head, head_read, same_head}
use Rattle.options.specs.declared.Span.{Span}
use Rattle.options.specs.declared.locator.Locator.{Locator}
use Rattle.options.specs.declared.locator.Locator.TheVariants as L
use Rattle.options.specs.declared.objective.Objective.{Objective}
use Rattle.options.specs.Pair.{PairTag}
use Rattle.options.specs.declared.pair.Pair as P
use Rattle.options.specs.Text.{span_of}
use Rattle.options.specs.Locator.{null_protocol, null_port}
use Rattle.rfc8990.specs.Message.{Loc, or_null, Obj, Pair, Tgts, Outc, Msg}
use Rattle.rfc8990.specs.Cddl.{uint, LocatorItems, PairItems, Value}
use Rattle.message_laws.specs.Stands.{Stands, ArrayHead, Before, Addressed, LocatorIs, TagIs, ValueIs, ObjectiveIs, PairIs}
use Rattle.message_laws.proofs.Bridge.{stands_once}
use Rattle.message.specs.declared.Series.{Series}
use Rattle.message.specs.declared.Targets.{Targets}
use Rattle.message.specs.Fields.{Extra}
use Rattle.options.specs.declared.outcome.Outcome.{Outcome}
use Rattle.message.specs.declared.Message.{Message}
use Rattle.message.specs.declared.Message.TheVariants as M
use Rattle.message_laws.specs.Describes.{KindIs, NumberIs, InitiatorIs, TargetsIs, ExtraIs, OutcomeIs, Describes}

-- ---- from one start
-- items end at one place
pub ends_once : {s : List ℕ} {p p' e e' : ℕ} {x y : Item} → p ≡ p' → Stands s p e x → Stands s p' e' y → e ≡ e'
ends_once {s} {p} {e' = e'} {y = y} q a b =
    let b' = subst (λ (k : ℕ). Stands s k e' y) (sym q) b in
    a.end ∙ ap (λ (z : Item). p + length (encode z)) (stands_once a b') ∙ sym b'.end

-- the head of an array ends at one place
pub head_once : {s : List ℕ} {p p' q q' n n' : ℕ} → p ≡ p' → ArrayHead s p q n → ArrayHead s p' q' n' → q ≡ q'
head_once {s} {p} {p'} {q} {q'} {n} {n'} e a b =
    let first : head_at (drop p s) ≡ a_head 4 n (length (head_bytes 4 a.width n)) =
    ap head_at a.is ∙ head_read 4 a.width n (drop q s) a.right in
    let second : head_at (drop p' s) ≡ a_head 4 n' (length (head_bytes 4 b.width n')) =
    ap head_at b.is ∙ head_read 4 b.width n' (drop q' s) b.right in
    let (_, _, same) = same_head (sym first ∙ ap (λ (k : ℕ). head_at (drop k s)) e ∙ second) in
    omega (arith, a.end, b.end)

-- the kind
kind_once : {s : List ℕ} {k p p' : ℕ} → KindIs s k p → KindIs s k p' → p ≡ p'
kind_once a b = ends_once (head_once refl a.opened b.opened) a.stands b.stands

-- a number
number_once : {s : List ℕ} {p p' e e' n : ℕ} → p ≡ p' → NumberIs s p e n → NumberIs s p' e' n → e ≡ e'
number_once q a b = ends_once q a.stands b.stands

-- the span of a content
before_once : (content : List ℕ) {p p' : ℕ} {i i' : Span} → p ≡ p' → Before p content i → Before p' content i' → i ≡ i'
before_once content e a b = a ∙ ap (λ (k : ℕ). span_of (k - length content) (length content)) e ∙ sym b

-- an initiator, and its span
initiator_once : {s : List ℕ} {p p' e e' : ℕ} {i i' : Span} {from : List ℕ} → p ≡ p' → InitiatorIs s p e i from → InitiatorIs s p' e' i' from
    → (e ≡ e') × (i ≡ i')
initiator_once {from = from} q a b =
    let same = ends_once q a.stands b.stands in
    (same, before_once from same a.held b.held)

-- ---- from one end
-- a number begins at one place
number_begins : {s : List ℕ} {p p' e e' w w' n : ℕ} → e ≡ e' → Stands s p e (uint w n) → Stands s p' e' (uint w' n) → p ≡ p'
unfolding encode
number_begins {w = w} {w'} {n} q a b =
    let first = a.good.short (λ z. omega arith) in
    let second = b.good.short (λ z. omega arith) in
    omega (arith, a.end, b.end, length_head 0 w n, length_head 0 w' n)

-- ---- objectives and values
-- a value
value_once : {s : List ℕ} {i i' : Span} {v : Value} → ValueIs s i v → ValueIs s i' v → i.len ≡ i'.len
value_once (ValueIs.absent e) (ValueIs.absent e') = e ∙ sym e'
value_once (ValueIs.present a) (ValueIs.present b) = omega (arith, a.end, b.end)

-- spans by their parts
span_ext : (i i' : Span) → i.at ≡ i'.at → i.len ≡ i'.len → i ≡ i'
span_ext i i' a b = ap₂ span_of a b

-- objectives by their parts
objective_ext : (o o' : Objective) → o.name ≡ o'.name → o.flags ≡ o'.flags → o.count ≡ o'.count → o.count_at ≡ o'.count_at
    → o.value ≡ o'.value → o ≡ o'
objective_ext o o' a b c d e = same a b c d e
  where
    of : Span → ℕ → ℕ → ℕ → Span → Objective
    of name flags count place value = record { name = name; flags = flags; count = count; count_at = place; value = value }

    same : {n n' v v' : Span} {f f' c c' k k' : ℕ} → n ≡ n' → f ≡ f' → c ≡ c' → k ≡ k' → v ≡ v' → of n f c k v ≡ of n' f' c' k' v'
    same a b c d e = cc

-- an objective, from where its flags stand
objective_from_lem : {s : List ℕ} {p p' e e' : ℕ} {o o' : Objective} {obj : Obj Value} (a : ObjectiveIs s p e o obj) (b : ObjectiveIs s p' e' o' obj)
    → a.flags_at ≡ b.flags_at → o ≡ o'
objective_from_lem {o = o} {o'} {obj} a b flags =
    let counts = ends_once flags a.flags_item b.flags_item in
    let value = ends_once counts a.count_item b.count_item in
    objective_ext o o' (before_once obj.name flags a.name b.name) (a.flags ∙ sym b.flags) (a.count ∙ sym b.count) counts
    (span_ext o.value o'.value value (value_once a.value b.value))

-- from one start
objective_once : {s : List ℕ} {p p' e e' : ℕ} {o o' : Objective} {obj : Obj Value} → p ≡ p' → ObjectiveIs s p e o obj → ObjectiveIs s p' e' o' obj → o ≡ o'
objective_once q a b = objective_from_lem a b (ends_once (head_once q a.opened b.opened) a.name_item b.name_item)

-- and from one end
objective_ended : {s : List ℕ} {p p' e : ℕ} {o o' : Objective} {obj : Obj Value} → ObjectiveIs s p e o obj → ObjectiveIs s p' e o' obj → o ≡ o'
objective_ended {o = o} {o'} a b =
    let value : o.value.at ≡ o'.value.at = omega (arith, a.ends, b.ends, value_once a.value b.value) in
    objective_from_lem a b (number_begins (number_begins value a.count_item b.count_item) a.flags_item b.flags_item)

-- ---- locators and tags
-- a number that may stand for null
null_once : (null n n' : ℕ) → or_null null n ≡ or_null null n' → n ≡ n'
unfolding or_null
null_once null n n' e = sym (back n) ∙ ap number e ∙ back n'
  where
    number : Option ℕ → ℕ
    number none = null
    number (some n) = n

    back : (n : ℕ) → number (or_null null n) ≡ n
    back n = pick-case (λ (x : Option ℕ). number x ≡ n) (eqb n null) (λ t. sym (eqb-true n null t)) (λ _. refl)

-- by a locator's items
addressed_once : {p p' : ℕ} {kind kind' address address' : Item} {l l' : Locator} {loc : Loc} → p ≡ p' → Addressed p kind address l loc
    → Addressed p' kind' address' l' loc → l ≡ l'
addressed_once e (Addressed.v6 {protocol = protocol} {port} {a} h) (Addressed.v6 h') = ap (λ (i : Span). L.V6 i.at protocol port) (before_once a e h h')
addressed_once e (Addressed.v4 {protocol = protocol} {port} {a} h) (Addressed.v4 h') = ap (λ (i : Span). L.V4 i.at protocol port) (before_once a e h h')
addressed_once e (Addressed.domain {protocol = protocol} {port} {a = a} h) (Addressed.domain h') =
    ap (λ (i : Span). L.Domain i protocol port) (before_once a e h h')
addressed_once e (Addressed.uri {protocol = protocol} {port} {a = a} h x y) (Addressed.uri {protocol = protocol'} {port = port'} h' x' y') =
    let same = before_once a e h h' in
    let first = null_once null_protocol protocol protocol' (x ∙ sym x') in
    let second = null_once null_port port port' (y ∙ sym y') in
    cc

-- from one start
locator_once : {s : List ℕ} {p p' : ℕ} {l l' : Locator} {loc : Loc} → p ≡ p' → LocatorIs s p l loc → LocatorIs s p' l' loc → l ≡ l'
locator_once q a b =
    addressed_once (ends_once (ends_once (head_once q a.opened b.opened) a.kind_item b.kind_item) a.address_item b.address_item)
    a.is b.is

tag_once : {s : List ℕ} {p p' : ℕ} {t t' : PairTag} {loc : Option Loc} → p ≡ p' → TagIs s p t loc → TagIs s p' t' loc → t ≡ t'
tag_once q TagIs.empty TagIs.empty = refl
tag_once q (TagIs.at a) (TagIs.at b) = ap Some (locator_once q a b)

-- a pair by its parts
abbrev pair_of : Objective → PairTag → P.Pair
pair_of objective tag = record { objective = objective; tag = tag }

-- from one start
pair_once : {s : List ℕ} {p p' : ℕ} {o o' : Objective} {t t' : PairTag} {pair : Pair Value} → p ≡ p' → PairIs s p o t pair → PairIs s p' o' t' pair
    → pair_of o t ≡ pair_of o' t'
pair_once q a b =
    let same = objective_once (head_once q a.opened b.opened) a.objective b.objective in
    let mid = a.objective.ends ∙ ap (λ (x : Objective). x.value.at + x.value.len) same ∙ sym b.objective.ends in
    ap₂ (λ (x : Objective) (y : PairTag). pair_of x y) same (tag_once mid a.tag b.tag)

-- ---- series, and what a Response holds
-- series by their parts
abbrev series_of : ℕ → ℕ → Series
series_of at many = record { at = at; many = many }

series_ext : (i i' : Series) → i.at ≡ i'.at → i.many ≡ i'.many → i ≡ i'
series_ext i i' a b = ap₂ (λ (at many : ℕ). series_of at many) a b

-- there are as many items as locators
pub locators_count : {xs : Items} {ls : List Loc} → LocatorItems xs ls → count xs ≡ length ls
unfolding count
locators_count LocatorItems.empty = refl
locators_count (LocatorItems.more i is) = ap suc (locators_count is)

-- and as pairs
pub pairs_count : {xs : Items} {ps : List (Pair Value)} → PairItems xs ps → count xs ≡ length ps
unfolding count
pairs_count PairItems.empty = refl
pairs_count (PairItems.more i is) = ap suc (pairs_count is)

-- locators or a divert
tgts_once : {s : List ℕ} {p p' e e' : ℕ} {t t' : Targets} {tgts : Tgts} → p ≡ p' → TargetsIs s p e t tgts → TargetsIs s p' e' t' tgts → t ≡ t'
tgts_once q (TargetsIs.locators {series = series} at i first) (TargetsIs.locators {series = series'} at' i' first') =
    let place : series.at ≡ series'.at = at ∙ q ∙ sym at' in
    let many = locators_count i.are ∙ sym (locators_count i'.are) in
    ap₂ Targets.Locators (locator_once place first first') (series_ext series series' place (i.many ∙ many ∙ sym i'.many))
tgts_once q (TargetsIs.divert {series = series} head lead i first) (TargetsIs.divert {series = series'} head' lead' i' first') =
    let place = ends_once (head_once q head head') lead lead' in
    let many = locators_count i.are ∙ sym (locators_count i'.are) in
    ap₂ Targets.Divert (locator_once place first first') (series_ext series series' place (i.many ∙ many ∙ sym i'.many))

-- an objective that may be left out
extra_once : {s : List ℕ} {p p' : ℕ} {x x' : Extra} {obj : Option (Obj Value)} → ExtraIs s p x obj → ExtraIs s p' x' obj → x ≡ x'
extra_once (ExtraIs.without e) (ExtraIs.without e') = refl
extra_once (ExtraIs.with_one i) (ExtraIs.with_one i') = ap Some (objective_ended i i')

-- how a negotiation ends
outcome_once : {s : List ℕ} {r r' : Outcome} {e : Outc} → OutcomeIs s r e → OutcomeIs s r' e → r ≡ r'
outcome_once OutcomeIs.accept OutcomeIs.accept = refl
outcome_once OutcomeIs.decline OutcomeIs.decline = refl
outcome_once (OutcomeIs.reason h) (OutcomeIs.reason h') = ap Outcome.Reason (h ∙ sym h')

-- ---- messages
-- a message is described in one way
pub described_once : {s : List ℕ} {m m' : Message} {msg : Msg Value} → Describes s m msg → Describes s m' msg → m ≡ m'
described_once Describes.noop Describes.noop = refl
described_once (Describes.discovery {session} k n i o) (Describes.discovery k' n' i' o') =
    let (after, initiator) = initiator_once (number_once (kind_once k k') n n') i i' in
    ap₂ (M.Discovery session) initiator (objective_once after o o')
described_once (Describes.response {session} {ttl} k n i t a x) (Describes.response k' n' i' t' a' x') =
    let (after, initiator) = initiator_once (number_once (kind_once k k') n n') i i' in
    let targets = tgts_once (number_once after t t') a a' in
    let extra = extra_once x x' in
    cc
described_once (Describes.request_negotiation {session} _ _ o) (Describes.request_negotiation _ _ o') = ap (M.RequestNegotiation session) (objective_ended o o')
described_once (Describes.request_synchronization {session} _ _ o) (Describes.request_synchronization _ _ o') =
    ap (M.RequestSynchronization session) (objective_ended o o')
described_once (Describes.negotiate {session} _ _ o) (Describes.negotiate _ _ o') = ap (M.Negotiate session) (objective_ended o o')
described_once (Describes.end {session} r) (Describes.end r') = ap (M.End session) (outcome_once r r')
described_once Describes.wait Describes.wait = refl
described_once (Describes.synch {session} _ _ o) (Describes.synch _ _ o') = ap (M.Synch session) (objective_ended o o')
described_once (Describes.flood {first = first} {series = series} k n i t is pair) (Describes.flood {first = first'} {series = series'} k' n' i' t' is' pair') =
    let (after, initiator) = initiator_once (number_once (kind_once k k') n n') i i' in
    let place = number_once after t t' in
    let same = pair_once place pair pair' in
    let pairs = series_ext series series' place (is.many ∙ pairs_count is.are ∙ sym (pairs_count is'.are) ∙ sym is'.many) in
    cc
described_once (Describes.invalid {session} {span = span} k n v e) (Describes.invalid {span = span'} k' n' v' e') =
    let place = number_once (kind_once k k') n n' in
    ap (M.Invalid session) (span_ext span span' place (omega arith))
