-- What an answer of `reader::read` holds, by the message's bytes s: its numbers are the message's, and the bytes at
-- each of its spans are the message's contents. Where the parts stand isn't asked here.
use Rattle.options.specs.Text.{Noted}
use Rattle.std.specs.Prelude.{Some, None}
use Rattle.std.specs.Prelude.{ℕ, ◌+◌, ◌-◌, ◌≤◌, List, [], ◌∷◌, ◌≡◌, length}
use Rattle.std.proofs.Math.Option.{Option, none, some}
use Rattle.options.specs.Part.{part}
use Rattle.options.specs.Pair.{paired}
use Rattle.cbor.specs.Tree.{Item, encode}
use Rattle.options.specs.declared.Span.{Span}
use Rattle.options.specs.declared.outcome.Outcome.{Outcome}
use Rattle.options.specs.declared.locator.Locator.{Locator}
use Rattle.options.specs.declared.locator.Locator.TheVariants as L
use Rattle.options.specs.declared.objective.Objective.{Objective}
use Rattle.options.specs.Pair.{PairTag}
use Rattle.options.specs.declared.pair.Pair as P
use Rattle.options.specs.Text.{span_of, held}
use Rattle.options.specs.Locator.{null_protocol, null_port, locator_at}
use Rattle.options.specs.Pair.{pair_at}
use Rattle.rfc8990.specs.Message.{Loc, or_null, Obj, Pair, Tgts, Outc, Msg}
use Rattle.rfc8990.specs.Cddl.{uint, Value}
use Rattle.message.specs.declared.Series.{Series}
use Rattle.message.specs.declared.Targets.{Targets}
use Rattle.message.specs.Fields.{Extra}
use Rattle.message.specs.declared.Message.{Message}
use Rattle.message.specs.declared.Message.TheVariants as M

-- the span lies in s, and these bytes stand there
pub record SpanHolds (s : List ℕ) (span : Span) (content : List ℕ) : Type 0 where
  pub within : span.at + span.len ≤ length s
  pub is : held s span ≡ content

-- an item's bytes; none where there is no item
pub data ValueHolds (s : List ℕ) (span : Span) : Value → Type 0 where
  absent : SpanHolds s span [] → ValueHolds s span none
  present : {x : Item} → SpanHolds s span (encode x) → ValueHolds s span (some x)

-- a locator: address, domain name or URI; a URI's protocol 0 and port 65,536 stand for null
pub data LocatorHolds (s : List ℕ) : Locator → Loc → Type 0 where
  v6 : {at protocol port : ℕ} {address : List ℕ} → SpanHolds s (span_of at 16) address
      → LocatorHolds s (L.V6 at protocol port) (Loc.v6 address protocol port)
  v4 : {at protocol port : ℕ} {address : List ℕ} → SpanHolds s (span_of at 4) address
      → LocatorHolds s (L.V4 at protocol port) (Loc.v4 address protocol port)
  domain : {span : Span} {protocol port : ℕ} {name : List ℕ} → SpanHolds s span name
      → LocatorHolds s (L.Domain span protocol port) (Loc.domain name protocol port)
  uri : {span : Span} {protocol port : ℕ} {uri : List ℕ} → SpanHolds s span uri
      → LocatorHolds s (L.Uri span protocol port)
      (Loc.uri uri (or_null null_protocol protocol) (or_null null_port port))

-- an objective; the head of its count stands from `count_at` up to where its value begins
pub record ObjectiveHolds (s : List ℕ) (o : Objective) (obj : Obj Value) : Type 0 where
  pub name : SpanHolds s o.name obj.name
  pub flags : o.flags ≡ obj.flags
  pub count : o.count ≡ obj.count
  pub count_width : ℕ
  pub count_head : SpanHolds s (span_of o.count_at (o.value.at - o.count_at))
      (encode (uint count_width obj.count))
  pub value : ValueHolds s o.value obj.value

-- a pair's locator, or none
pub data TagHolds (s : List ℕ) : PairTag → Option Loc → Type 0 where
  empty : TagHolds s None none
  at : {l : Locator} {loc : Loc} → LocatorHolds s l loc → TagHolds s (Some l) (some loc)

-- a Flood's pair
pub record PairHolds (s : List ℕ) (o : Objective) (t : PairTag) (pair : Pair Value) : Type 0 where
  pub objective : ObjectiveHolds s o pair.0
  pub tag : TagHolds s t pair.1

-- ---- what is read one after the other
-- each is read from its place up to the place of the next
pub data InTurn {A : Type 0} (Reads : ℕ → ℕ → A → Type 0) : ℕ → List A → Type 0 where
  done : {at : ℕ} → InTurn Reads at []
  more : {at next : ℕ} {x : A} {xs : List A} → Reads at next x → InTurn Reads next xs → InTurn Reads at (x ∷ xs)

-- the locator at a place is read, up to the next
pub record LocatorReads (s : List ℕ) (at next : ℕ) (loc : Loc) : Type 0 where
  pub locator : Locator
  pub size : ℕ
  pub bad : Noted
  pub read : locator_at s at ≡ part locator size bad None
  pub after : next ≡ at + size
  pub holds : LocatorHolds s locator loc

-- the pair at a place is read, up to the next
pub record PairReads (s : List ℕ) (at next : ℕ) (pair : Pair Value) : Type 0 where
  pub objective : Objective
  pub tag : PairTag
  pub size : ℕ
  pub bad : Noted
  pub long : Noted
  pub read : pair_at s at ≡ paired objective tag size bad long
  pub after : next ≡ at + size
  pub holds : PairHolds s objective tag pair

-- a series: as many as it says, from its place on
pub record SeriesHolds {A : Type 0} (Reads : ℕ → ℕ → A → Type 0) (series : Series) (xs : List A) : Type 0 where
  pub many : series.many ≡ length xs
  pub each : InTurn Reads series.at xs

-- ---- messages
-- a Response's locators, or its divert's; the first is held twice: as the first of the series, and by itself
pub data TargetsHold (s : List ℕ) : Targets → Tgts → Type 0 where
  locators : {first : Locator} {series : Series} {loc : Loc} {ls : List Loc}
      → SeriesHolds (LocatorReads s) series (loc ∷ ls) → LocatorHolds s first loc
      → TargetsHold s (Targets.Locators first series) (Tgts.locators (loc ∷ ls))
  divert : {first : Locator} {series : Series} {loc : Loc} {ls : List Loc}
      → SeriesHolds (LocatorReads s) series (loc ∷ ls) → LocatorHolds s first loc
      → TargetsHold s (Targets.Divert first series) (Tgts.divert (loc ∷ ls))

-- an objective that may be left out
pub data ExtraHolds (s : List ℕ) : Extra → Option (Obj Value) → Type 0 where
  without : ExtraHolds s None none
  with_one : {o : Objective} {obj : Obj Value} → ObjectiveHolds s o obj → ExtraHolds s (Some o) (some obj)

-- how a negotiation ends
pub data OutcomeHolds (s : List ℕ) : Outcome → Outc → Type 0 where
  accept : OutcomeHolds s Outcome.Accept Outc.accept
  decline : OutcomeHolds s Outcome.Decline Outc.decline
  reason : {span : Span} {content : List ℕ} → SpanHolds s span content
      → OutcomeHolds s (Outcome.Reason span) (Outc.reason content)

-- each of the eleven
pub data MessageHolds (s : List ℕ) : Message → Msg Value → Type 0 where
  noop : MessageHolds s M.Noop Msg.noop
  discovery : {session : ℕ} {i : Span} {from : List ℕ} {o : Objective} {obj : Obj Value} → SpanHolds s i from
      → ObjectiveHolds s o obj
      → MessageHolds s (M.Discovery session i o) (Msg.discovery session from obj)
  response : {session ttl : ℕ} {i : Span} {from : List ℕ} {targets : Targets} {tgts : Tgts} {extra : Extra}
      {obj : Option (Obj Value)}
      → SpanHolds s i from → TargetsHold s targets tgts → ExtraHolds s extra obj
      → MessageHolds s (M.Response session i ttl targets extra) (Msg.response session from ttl tgts obj)
  request_negotiation : {session : ℕ} {o : Objective} {obj : Obj Value} → ObjectiveHolds s o obj
      → MessageHolds s (M.RequestNegotiation session o) (Msg.request_negotiation session obj)
  request_synchronization : {session : ℕ} {o : Objective} {obj : Obj Value} → ObjectiveHolds s o obj
      → MessageHolds s (M.RequestSynchronization session o) (Msg.request_synchronization session obj)
  negotiate : {session : ℕ} {o : Objective} {obj : Obj Value} → ObjectiveHolds s o obj
      → MessageHolds s (M.Negotiate session o) (Msg.negotiate session obj)
  end : {session : ℕ} {r : Outcome} {e : Outc} → OutcomeHolds s r e
      → MessageHolds s (M.End session r) (Msg.end session e)
  wait : {session time : ℕ} → MessageHolds s (M.Wait session time) (Msg.wait session time)
  synch : {session : ℕ} {o : Objective} {obj : Obj Value} → ObjectiveHolds s o obj
      → MessageHolds s (M.Synch session o) (Msg.synch session obj)
  -- the first pair is held twice: as the first of the series, and by itself
  flood : {session ttl : ℕ} {i : Span} {from : List ℕ} {first : P.Pair} {series : Series} {pair : Pair Value}
      {ps : List (Pair Value)}
      → SpanHolds s i from → SeriesHolds (PairReads s) series (pair ∷ ps)
      → PairHolds s first.objective first.tag pair
      → MessageHolds s (M.Flood session i ttl first series) (Msg.flood session from ttl (pair ∷ ps))
  invalid : {session : ℕ} {span : Span} {item : Value} → ValueHolds s span item
      → MessageHolds s (M.Invalid session span) (Msg.invalid session item)
