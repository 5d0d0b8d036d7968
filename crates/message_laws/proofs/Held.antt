-- What an answer that describes a message holds: the bytes at its spans are the message's contents. For readers: each
-- statement at the end stands alone.
-- Assumes nothing.
use mathlib.Core.Path.{◌≡◌, sym, ap, ◌∙◌, subst}
use mathlib.Core.Bool.{Bool}
use mathlib.Core.List.{List}
use mathlib.Core.Option.{Option}
use Prim.Native.Nat.{ℕ, ◌+◌, ◌-◌, ◌≤◌}
use native.Mathlib.Omega.{arith}
use lib.ListN.{length, take, drop}
use lib.Seq.{take_at}
use Rattle.options.specs.Text.{Noted}
use Rattle.std.specs.Prelude.{Ok}
use Rattle.options.specs.declared.Part.{Part}
use Rattle.options.specs.Pair.{paired}
use Rattle.base.specs.BigEndian.{Bytes}
use Rattle.cbor.specs.Item.{left_under}
use Rattle.cbor.specs.Tree.{Item, Items, encode, depth, depths}
use Rattle.options.specs.declared.Span.{Span}
use Rattle.options.specs.declared.outcome.Outcome.{Outcome}
use Rattle.options.specs.declared.locator.Locator.{Locator}
use Rattle.options.specs.declared.objective.Objective.{Objective}
use Rattle.options.specs.Pair.{PairTag}
use Rattle.options.specs.Locator.{locator_at}
use Rattle.options.specs.Pair.{pair_at}
use Rattle.options.specs.Text.{span_of}
use Rattle.rfc8990.specs.Message.{Loc, Obj, Pair, Tgts, Outc, Msg}
use Rattle.rfc8990.specs.Cddl.{LocatorItem, LocatorItems, PairItem, PairItems, OutcItem, MessageItem, Value}
use Rattle.rfc8990.specs.Accepted.{IsMessage}
use Rattle.message.specs.declared.Series.{Series}
use Rattle.message.specs.declared.Targets.{Targets}
use Rattle.message.specs.Fields.{Extra}
use Rattle.message.specs.declared.Message.{Message}
use Rattle.message_laws.specs.Stands.{Stands, StandAll, Before, Addressed, LocatorIs, TagIs, ValueIs, ObjectiveIs, PairIs}
use Rattle.message_laws.specs.Describes.{InitiatorIs, SeriesIs, TargetsIs, ExtraIs, OutcomeIs, Describes}
use Rattle.message_laws.specs.Holds.{SpanHolds, ValueHolds, LocatorHolds, ObjectiveHolds, TagHolds, PairHolds}
use Rattle.message_laws.specs.Holds.{InTurn, LocatorReads, PairReads, SeriesHolds, TargetsHold, ExtraHolds, OutcomeHolds, MessageHolds}
use Rattle.message_laws.proofs.Bridge.{split, only, stands_within, text_token, array_token}
use Rattle.message_laws.proofs.Locator.{locator_sound, locator_read}
use Rattle.message_laws.proofs.Pair.{pair_sound, pair_read}
use Rattle.message_laws.proofs.Levels.{pairs_deep}
use Rattle.message_laws.proofs.Described.{locators_count, pairs_count}
use Rattle.message_laws.proofs.Whole.{stands}

-- ---- spans
-- the content of a string that stands before e
pub string_holds : {s : List ℕ} {p e w : ℕ} {t : Bool} {bs : List ℕ} {span : Span} → Stands s p e (Item.string t w bs) → Before e bs span → SpanHolds s span bs
string_holds {s} {e = e} {bs = bs} a q =
    let string = text_token a in
    let place : e - length bs ≡ string.body = omega (arith, string.end) in
    subst (λ (i : Span). SpanHolds s i bs) (sym q)
    (record { within = omega (arith, string.end, stands_within a); is = ap (λ (k : ℕ). take (length bs) (drop k s)) place ∙ string.content })

-- an item
item_holds : {s : List ℕ} {at len : ℕ} {x : Item} → Stands s at (at + len) x → SpanHolds s (span_of at len) (encode x)
item_holds {s} {at} {len} {x} a =
    record { within = stands_within a; is = ap (take len) a.is ∙ take_at (encode x) (drop (at + len) s) len (omega (arith, a.end)) }

-- up to where it ends
item_ends : {s : List ℕ} {p e : ℕ} {x : Item} → Stands s p e x → SpanHolds s (span_of p (e - p)) (encode x)
item_ends {s} {p} {e} {x} a =
    let sum : e ≡ p + (e - p) = omega (arith, a.end) in
    item_holds (subst (λ (k : ℕ). Stands s p k x) sum a)

-- an item or none, of a span that begins within the bytes
pub value_holds : {s : List ℕ} {span : Span} {v : Value} → span.at ≤ length s → ValueIs s span v → ValueHolds s span v
value_holds {s} {span} low (ValueIs.absent e) =
    ValueHolds.absent (record { within = omega arith; is = ap (λ (k : ℕ). take k (drop span.at s)) e })
value_holds low (ValueIs.present a) = ValueHolds.present (item_holds a)

-- ---- the parts
-- by a locator's items
addressed_holds : {s : List ℕ} {q p : ℕ} {kind address : Item} {l : Locator} {loc : Loc} → Stands s q p address → Addressed p kind address l loc
    → LocatorHolds s l loc
addressed_holds {s} st (Addressed.v6 h) = LocatorHolds.v6 (string_holds st h)
addressed_holds {s} st (Addressed.v4 h) = LocatorHolds.v4 (string_holds st h)
addressed_holds {s} st (Addressed.domain h) = LocatorHolds.domain (string_holds st h)
addressed_holds {s} st (Addressed.uri {protocol = protocol} {port} {uri} {a} h x y) =
    rw (sym x, sym y) (LocatorHolds.uri (string_holds st h))

-- a locator's
pub locator_holds : {s : List ℕ} {p : ℕ} {l : Locator} {loc : Loc} → LocatorIs s p l loc → LocatorHolds s l loc
locator_holds i = addressed_holds i.address_item i.is

-- an objective's
pub objective_holds : {s : List ℕ} {p e : ℕ} {o : Objective} {obj : Obj Value} → ObjectiveIs s p e o obj → ObjectiveHolds s o obj
objective_holds i =
    record {
      name = string_holds i.name_item i.name;
      flags = i.flags;
      count = i.count;
      count_width = i.count_width;
      count_head = item_ends i.count_item;
      value = value_holds (stands_within i.count_item) i.value;
    }

-- a tag's
tag_holds : {s : List ℕ} {p : ℕ} {t : PairTag} {loc : Option Loc} → TagIs s p t loc → TagHolds s t loc
tag_holds TagIs.empty = TagHolds.empty
tag_holds (TagIs.at i) = TagHolds.at (locator_holds i)

-- a pair's
pub pair_holds : {s : List ℕ} {p : ℕ} {o : Objective} {t : PairTag} {pair : Pair Value} → PairIs s p o t pair → PairHolds s o t pair
pair_holds i = record { objective = objective_holds i.objective; tag = tag_holds i.tag }

-- an initiator's
initiator_holds : {s : List ℕ} {p e : ℕ} {span : Span} {from : List ℕ} → InitiatorIs s p e span from → SpanHolds s span from
initiator_holds i = string_holds i.stands i.held

-- ---- one after the other
-- locators
locators_hold : {s : List ℕ} {p e : ℕ} {xs : Items} {ls : List Loc} → StandAll s p e xs → LocatorItems xs ls → InTurn (LocatorReads s) p ls
locators_hold a LocatorItems.empty = InTurn.done
locators_hold {p = p} a (LocatorItems.more i is) =
    let c = split a in
    let (l, bad, read, described) = locator_read c.first i in
    InTurn.more {next = c.mid}
    (record {
      locator = l;
      size = c.mid - p;
      bad = bad;
      read = read;
      after = omega (arith, c.first.end);
      holds = locator_holds described;
    })
    (locators_hold {p = (split a).mid} c.rest is)

-- pairs
pairs_hold : {s : List ℕ} {p e : ℕ} {xs : Items} {ps : List (Pair Value)} → depths xs ≤ left_under 1 → StandAll s p e xs → PairItems xs ps
    → InTurn (PairReads s) p ps
unfolding depth
pairs_hold d a PairItems.empty = InTurn.done
pairs_hold {p = p} d a (PairItems.more i is) =
    let c = split a in
    let (o, tag, bad, long, read, described) = pair_read c.first (omega (arith, d)) i in
    InTurn.more {next = c.mid}
    (record {
      objective = o;
      tag = tag;
      size = c.mid - p;
      bad = bad;
      long = long;
      read = read;
      after = omega (arith, c.first.end);
      holds = pair_holds described;
    })
    (pairs_hold {p = (split a).mid} (omega (arith, d)) c.rest is)

-- a series of locators
series_holds : {s : List ℕ} {e : ℕ} {series : Series} {ls : List Loc} → SeriesIs s series e (λ xs. LocatorItems xs ls) → SeriesHolds (LocatorReads s) series ls
series_holds i = record { many = i.many ∙ locators_count i.are; each = locators_hold i.stand i.are }

-- a Response's
targets_hold : {s : List ℕ} {p e : ℕ} {targets : Targets} {tgts : Tgts} → TargetsIs s p e targets tgts → TargetsHold s targets tgts
targets_hold (TargetsIs.locators at i first) = TargetsHold.locators (series_holds i) (locator_holds first)
targets_hold (TargetsIs.divert head lead i first) = TargetsHold.divert (series_holds i) (locator_holds first)

-- an objective that may be left out
extra_holds : {s : List ℕ} {p : ℕ} {extra : Extra} {obj : Option (Obj Value)} → ExtraIs s p extra obj → ExtraHolds s extra obj
extra_holds (ExtraIs.without e) = ExtraHolds.without
extra_holds (ExtraIs.with_one o) = ExtraHolds.with_one (objective_holds o)

-- how a negotiation ends: the option is the last item of the message, and a reason the last of the option
outcome_holds : {s : List ℕ} {p : ℕ} {r : Outcome} {e : Outc} {x : Item} → OutcomeIs s r e → OutcItem x e → Stands s p (length s) x → OutcomeHolds s r e
outcome_holds OutcomeIs.accept i st = OutcomeHolds.accept
outcome_holds OutcomeIs.decline i st = OutcomeHolds.decline
outcome_holds (OutcomeIs.reason q) OutcItem.reason st = OutcomeHolds.reason (string_holds (only (split (array_token st).items).rest) q)

-- ---- the kinds
kind_holds : {s : List ℕ} {m : Message} {msg : Msg Value} {x : Item} → Describes s m msg → MessageItem x msg → depth x ≤ 8 → Stands s 0 (length s) x
    → MessageHolds s m msg
unfolding depth
kind_holds Describes.noop i d st = MessageHolds.noop
kind_holds (Describes.discovery k n from o) i d st = MessageHolds.discovery (initiator_holds from) (objective_holds o)
kind_holds (Describes.response k n from t tgts extra) i d st = MessageHolds.response (initiator_holds from) (targets_hold tgts) (extra_holds extra)
kind_holds (Describes.request_negotiation k n o) i d st = MessageHolds.request_negotiation (objective_holds o)
kind_holds (Describes.request_synchronization k n o) i d st = MessageHolds.request_synchronization (objective_holds o)
kind_holds (Describes.negotiate k n o) i d st = MessageHolds.negotiate (objective_holds o)
kind_holds (Describes.end outcome) (MessageItem.end i outc) d st =
    MessageHolds.end (outcome_holds outcome outc (only (split (split (array_token st).items).rest).rest))
kind_holds Describes.wait i d st = MessageHolds.wait
kind_holds (Describes.synch k n o) i d st = MessageHolds.synch (objective_holds o)
kind_holds (Describes.flood k n from t series pair) (MessageItem.flood sy sz sv pairs) d st =
    MessageHolds.flood (initiator_holds from)
    (record {
      many = series.many ∙ pairs_count series.are;
      each = pairs_hold (omega (arith, d, pairs_deep pairs series.are)) series.stand series.are;
    })
    (pair_holds pair)
kind_holds (Describes.invalid k n v end) i d st = MessageHolds.invalid (value_holds (stands_within n.stands) v)

-- for readers

-- An answer that describes the message of the bytes holds its contents.
pub described_holds : {s : List ℕ} {m : Message} (i : IsMessage s) → Describes s m i.msg → MessageHolds s m i.msg
described_holds i d = kind_holds d i.is i.one.shallow (stands i.one)

-- A locator that is read at a place of any bytes is an item that stands there, and holds that locator's address or text.
pub locator_read_holds : (s : List ℕ) (at : ℕ) {l : Part Locator} → Bytes s → locator_at s at ≡ Ok l
    → (x : Item) × (loc : Loc) × SpanHolds s (span_of at l.size) (encode x) × LocatorItem x loc × LocatorHolds s l.value loc
locator_read_holds s at {l} b q =
    let i = locator_sound s at l b q in
    (i.item, i.loc, item_holds i.stands, i.is, locator_holds i.described)

-- And so is a pair, with its objective's name and value, and with its locator if it has one.
pub pair_read_holds : (s : List ℕ) (at : ℕ) {o : Objective} {t : PairTag} {size : ℕ} {bad long : Noted} → Bytes s → pair_at s at ≡ paired o t size bad long
    → (x : Item) × (pair : Pair Value) × SpanHolds s (span_of at size) (encode x) × PairItem x pair × PairHolds s o t pair
pair_read_holds s at {o} {t} {size} {bad} {long} b q =
    let i = pair_sound s at o t size bad long b q in
    (i.item, i.pair, item_holds i.stands, i.is, pair_holds i.described)
