-- What an answer of `reader::read` describes, by the message's bytes s.
use Rattle.std.specs.Prelude.{Some, None}
use Rattle.std.specs.Prelude.{ℕ, suc, ◌+◌, List, ◌∷◌, ◌≡◌, length}
use Rattle.std.proofs.Math.Option.{Option, none, some}
use Rattle.cbor.specs.Tree.{Items, count}
use Rattle.options.specs.declared.Span.{Span}
use Rattle.options.specs.declared.locator.Locator.{Locator}
use Rattle.options.specs.declared.objective.Objective.{Objective}
use Rattle.options.specs.declared.pair.Pair as P
use Rattle.rfc8990.specs.Message.{Loc, Obj, Pair, Tgts, Outc, Msg}
use Rattle.rfc8990.specs.Cddl.{uint, bytes, LocatorItems, PairItems, Value}
use Rattle.message_laws.specs.Stands.{Stands, StandAll, ArrayHead, Before}
use Rattle.message_laws.specs.Stands.{LocatorIs, ValueIs, ObjectiveIs, PairIs}
use Rattle.message.specs.declared.Series.{Series}
use Rattle.message.specs.declared.Targets.{Targets}
use Rattle.message.specs.Fields.{Extra}
use Rattle.options.specs.declared.outcome.Outcome.{Outcome}
use Rattle.message.specs.declared.Message.{Message}
use Rattle.message.specs.declared.Message.TheVariants as M

-- the head of the message's array, and then the kind, stand from the start to p
pub record KindIs (s : List ℕ) (kind p : ℕ) : Type 0 where
  pub many : ℕ
  pub from : ℕ
  pub width : ℕ
  pub opened : ArrayHead s 0 from many
  pub stands : Stands s from p (uint width kind)

-- a number stands from p to e
pub record NumberIs (s : List ℕ) (p e n : ℕ) : Type 0 where
  pub width : ℕ
  pub stands : Stands s p e (uint width n)

-- an initiator stands from p to e
pub record InitiatorIs (s : List ℕ) (p e : ℕ) (span : Span) (content : List ℕ) : Type 0 where
  pub width : ℕ
  pub stands : Stands s p e (bytes width content)
  pub held : Before e content span

-- the items of a series stand from its place on, up to e
pub record SeriesIs (s : List ℕ) (series : Series) (e : ℕ) (P : Items → Type 0) : Type 0 where
  pub items : Items
  pub stand : StandAll s series.at e items
  pub many : series.many ≡ count items
  pub are : P items

-- locators stand from p to e; or the head of a divert stands at p, then its lead, 100, and then its locators, up to e;
-- the first of them is beside the series
pub data TargetsIs (s : List ℕ) (p e : ℕ) : Targets → Tgts → Type 0 where
  locators : {first : Locator} {series : Series} {loc : Loc} {ls : List Loc} → series.at ≡ p
      → SeriesIs s series e (λ xs. LocatorItems xs (loc ∷ ls)) → LocatorIs s series.at first loc
      → TargetsIs s p e (Targets.Locators first series) (Tgts.locators (loc ∷ ls))
  divert : {first : Locator} {series : Series} {loc : Loc} {ls : List Loc} {q w : ℕ}
      → ArrayHead s p q (suc series.many) → Stands s q series.at (uint w 100)
      → SeriesIs s series e (λ xs. LocatorItems xs (loc ∷ ls)) → LocatorIs s series.at first loc
      → TargetsIs s p e (Targets.Divert first series) (Tgts.divert (loc ∷ ls))

-- the message ends at p, or an objective stands from there on
pub data ExtraIs (s : List ℕ) (p : ℕ) : Extra → Option (Obj Value) → Type 0 where
  without : p ≡ length s → ExtraIs s p None none
  with_one : {o : Objective} {obj : Obj Value} → ObjectiveIs s p (length s) o obj
      → ExtraIs s p (Some o) (some obj)

-- an End's outcome; a reason stands at the message's end
pub data OutcomeIs (s : List ℕ) : Outcome → Outc → Type 0 where
  accept : OutcomeIs s Outcome.Accept Outc.accept
  decline : OutcomeIs s Outcome.Decline Outc.decline
  reason : {span : Span} {content : List ℕ} → Before (length s) content span
      → OutcomeIs s (Outcome.Reason span) (Outc.reason content)

-- the numbers are the message's; where an answer has places, each part stands right after the one before it, from the
-- message's start on, and an End's reason right before the message's end
pub data Describes (s : List ℕ) : Message → Msg Value → Type 0 where
  noop : Describes s M.Noop Msg.noop
  discovery : {session p q r : ℕ} {i : Span} {from : List ℕ} {o : Objective} {obj : Obj Value}
      → KindIs s 1 p → NumberIs s p q session → InitiatorIs s q r i from → ObjectiveIs s r (length s) o obj
      → Describes s (M.Discovery session i o) (Msg.discovery session from obj)
  response : {session ttl p q r a e : ℕ} {i : Span} {from : List ℕ} {targets : Targets} {tgts : Tgts} {extra : Extra}
      {obj : Option (Obj Value)}
      → KindIs s 2 p → NumberIs s p q session → InitiatorIs s q r i from → NumberIs s r a ttl
      → TargetsIs s a e targets tgts → ExtraIs s e extra obj
      → Describes s (M.Response session i ttl targets extra) (Msg.response session from ttl tgts obj)
  request_negotiation : {session p q : ℕ} {o : Objective} {obj : Obj Value} → KindIs s 3 p → NumberIs s p q session
      → ObjectiveIs s q (length s) o obj
      → Describes s (M.RequestNegotiation session o) (Msg.request_negotiation session obj)
  request_synchronization : {session p q : ℕ} {o : Objective} {obj : Obj Value} → KindIs s 4 p → NumberIs s p q session
      → ObjectiveIs s q (length s) o obj
      → Describes s (M.RequestSynchronization session o) (Msg.request_synchronization session obj)
  negotiate : {session p q : ℕ} {o : Objective} {obj : Obj Value} → KindIs s 5 p → NumberIs s p q session
      → ObjectiveIs s q (length s) o obj
      → Describes s (M.Negotiate session o) (Msg.negotiate session obj)
  end : {session : ℕ} {r : Outcome} {e : Outc} → OutcomeIs s r e → Describes s (M.End session r) (Msg.end session e)
  wait : {session time : ℕ} → Describes s (M.Wait session time) (Msg.wait session time)
  synch : {session p q : ℕ} {o : Objective} {obj : Obj Value} → KindIs s 8 p → NumberIs s p q session
      → ObjectiveIs s q (length s) o obj
      → Describes s (M.Synch session o) (Msg.synch session obj)
  flood : {session ttl p q r : ℕ} {i : Span} {from : List ℕ} {first : P.Pair} {series : Series} {pair : Pair Value}
      {ps : List (Pair Value)}
      → KindIs s 9 p → NumberIs s p q session → InitiatorIs s q r i from → NumberIs s r series.at ttl
      → SeriesIs s series (length s) (λ xs. PairItems xs (pair ∷ ps))
      → PairIs s series.at first.objective first.tag pair
      → Describes s (M.Flood session i ttl first series) (Msg.flood session from ttl (pair ∷ ps))
  invalid : {session p : ℕ} {span : Span} {item : Value} → KindIs s 99 p → NumberIs s p span.at session
      → ValueIs s span item
      → span.at + span.len ≡ length s → Describes s (M.Invalid session span) (Msg.invalid session item)
