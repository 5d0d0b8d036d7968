-- The kinds that end with an objective: Discovery, and the four that have a session and an objective.
-- Assumes nothing.
use mathlib.Core.Path.{◌≡◌, refl, sym, subst}
use mathlib.Core.List.{List, [], ◌∷◌}
use Prim.Native.Nat.{ℕ, ◌≤◌}
use lib.ListN.{length}
use borrow.Author.Tests.{eqb-true}
use Rattle.options.specs.Text.{Noted}
use Rattle.std.specs.Prelude.{Ok, Err}
use Rattle.options.specs.Part.{Read, part}
use Rattle.message.specs.declared.Message.{Message}
use Rattle.base.specs.Pick.{pick}
use Rattle.cbor.specs.Tree.{Item, count, depth}
use Rattle.options.specs.declared.Span.{Span}
use Rattle.options.specs.declared.objective.Objective.{Objective}
use Rattle.options.specs.Objective.{objective_at}
use Rattle.rfc8990.specs.Message.{Obj, Msg}
use Rattle.rfc8990.specs.Cddl.{uint, list, array, Number, Initiator, ObjectiveItem, MessageItem, Value}
use Rattle.rfc8990.specs.Limits.{texts_of, names_of}
use Rattle.message_laws.specs.Stands.{StandAll, ObjectiveIs}
use Rattle.message_laws.proofs.Objective.{objective_sound, objective_read_lem}
use Rattle.message_laws.proofs.Bridge.{join, last, only}
use Rattle.message.specs.Opening.{objective_levels}
use Rattle.message.specs.Shape.{discovered, discovery_at, exchange_of, exchanged, exchange_at}
use Rattle.message_laws.specs.Describes.{KindIs, NumberIs, Describes}
use Rattle.message_laws.proofs.Noted.{single}
use Rattle.message_laws.proofs.Whole.{part_levels, IfGood, ShapeOk, past_case, held_case, Reads, taken, skipped, Kinded, built}
use Rattle.message_laws.proofs.Heads.{NumberHere, InitiatorHere, number_at_most, initiator_at, number_passed, initiator_passed}

-- ---- 1, Discovery
-- the objective
discovered_sound : {s : List ℕ} {at p q session : ℕ} {i : Span} → Kinded s 1 4 at → NumberHere s at p session → InitiatorHere s p q i
    → (x : Read Objective) → objective_at objective_levels s q ≡ x → ShapeOk s (discovered session i q x)
unfolding discovered count texts_of names_of
discovered_sound k i j (Err d) e = IfGood.bad
discovered_sound {s} {q = q} k i j (Ok o) e =
    let x = objective_sound objective_levels s q o.value o.size o.bad o.long k.bytes e in
    built k _ _ (Msg.discovery _ j.content x.obj) refl (join i.is.stands (join j.is.stands (last x.stands)))
    (λ w v. MessageItem.discovery (Number.number i.low) (Initiator.initiator j.size) x.is)
    (λ full. Describes.discovery k.is i.is j.is (subst (λ (e : ℕ). ObjectiveIs s q e o.value x.obj) full x.described)) (single x.texts)
    (single x.names)

-- what is read is a Discovery
pub discovery_sound : {s : List ℕ} {n at : ℕ} → Kinded s 1 n at → ShapeOk s (discovery_at s n at)
unfolding discovery_at
discovery_sound {s} {n} {at} k =
    held_case _
    (λ four. past_case _
    (λ e. held_case _
    (λ e'.
    let i = number_at_most k.bytes e in
    let j = initiator_at k.bytes e' in
    discovered_sound (subst (λ (n : ℕ). Kinded s 1 n at) (eqb-true n 4 four) k) i j _ refl)))

-- an objective that stands is read
pub objective_reads : {s : List ℕ} {p e : ℕ} {x : Item} {obj : Obj Value} → StandAll s p e (list (x ∷ [])) → depth x ≤ part_levels → ObjectiveItem x obj
    → (f : Read Objective → Read Message) → ((o : Objective) (size : ℕ) (bad long : Noted) → Reads (f (part o size bad long)))
    → Reads (f (objective_at objective_levels s p))
objective_reads {s} a d i f reads =
    let (o, bad, long, same, _) = objective_read_lem objective_levels (only a) d i in
    subst (λ (r : Read Objective). Reads (f r)) (sym same) (reads o _ bad long)

-- a Discovery is read
pub discovery_complete : {s : List ℕ} {at e session : ℕ} {x y z : Item} {from : List ℕ} {obj : Obj Value} → StandAll s at e (list (x ∷ y ∷ z ∷ []))
    → Number x session → Initiator y from → ObjectiveItem z obj → depth z ≤ part_levels → Reads (discovery_at s 4 at)
unfolding discovery_at discovered
discovery_complete a i j o d =
    let (e, c) = number_passed a i in
    let (e', c') = initiator_passed c j in
    taken _ refl (skipped _ e (taken _ e' (objective_reads c' d o (discovered _ _ _) (λ _ _ _ _. Reads.reads))))

-- ---- 3, 4, 5 and 8
-- the kinds that have a session and an objective, and their messages
pub data Exchange : ℕ → (ℕ → Obj Value → Msg Value) → Type 0 where
  request_negotiation : Exchange 3 Msg.request_negotiation
  request_synchronization : Exchange 4 Msg.request_synchronization
  negotiate : Exchange 5 Msg.negotiate
  synch : Exchange 8 Msg.synch

-- the message's item
exchange_item : {kind w v session : ℕ} {msg : ℕ → Obj Value → Msg Value} {i x : Item} {obj : Obj Value} → Exchange kind msg → Number i session
    → ObjectiveItem x obj
    → MessageItem (array w (uint v kind ∷ i ∷ x ∷ [])) (msg session obj)
exchange_item Exchange.request_negotiation = MessageItem.request_negotiation
exchange_item Exchange.request_synchronization = MessageItem.request_synchronization
exchange_item Exchange.negotiate = MessageItem.negotiate
exchange_item Exchange.synch = MessageItem.synch

-- what describes it
exchange_tells : {s : List ℕ} {kind p q session : ℕ} {msg : ℕ → Obj Value → Msg Value} {o : Objective} {obj : Obj Value} → Exchange kind msg → KindIs s kind p
    → NumberIs s p q session → ObjectiveIs s q (length s) o obj
    → Describes s (exchange_of kind session o) (msg session obj)
unfolding exchange_of pick
exchange_tells Exchange.request_negotiation = Describes.request_negotiation
exchange_tells Exchange.request_synchronization = Describes.request_synchronization
exchange_tells Exchange.negotiate = Describes.negotiate
exchange_tells Exchange.synch = Describes.synch

-- its only text and name
exchange_text : {kind : ℕ} {msg : ℕ → Obj Value → Msg Value} (session : ℕ) (obj : Obj Value) → Exchange kind msg
    → (texts_of (msg session obj) ≡ obj.name ∷ []) × (names_of (msg session obj) ≡ obj.name ∷ [])
unfolding texts_of names_of
exchange_text session obj Exchange.request_negotiation = (refl, refl)
exchange_text session obj Exchange.request_synchronization = (refl, refl)
exchange_text session obj Exchange.negotiate = (refl, refl)
exchange_text session obj Exchange.synch = (refl, refl)

-- the objective
exchanged_sound : {s : List ℕ} {kind at p session : ℕ} {msg : ℕ → Obj Value → Msg Value} → Exchange kind msg → Kinded s kind 3 at → NumberHere s at p session
    → (x : Read Objective) → objective_at objective_levels s p ≡ x → ShapeOk s (exchanged kind session p x)
unfolding exchanged count
exchanged_sound c k i (Err d) e = IfGood.bad
exchanged_sound {s} {p = p} {session} {msg} c k i (Ok o) e =
    let x = objective_sound objective_levels s p o.value o.size o.bad o.long k.bytes e in
    let (text, name) = exchange_text session x.obj c in
    built k _ _ (msg session x.obj) refl (join i.is.stands (last x.stands)) (λ w v. exchange_item c (Number.number i.low) x.is)
    (λ full. exchange_tells c k.is i.is (subst (λ (e : ℕ). ObjectiveIs s p e o.value x.obj) full x.described))
    (rw text (single x.texts)) (rw name (single x.names))

-- what is read is a message of the kind
pub exchange_sound : {s : List ℕ} {kind n at : ℕ} {msg : ℕ → Obj Value → Msg Value} → Exchange kind msg
    → Kinded s kind n at → ShapeOk s (exchange_at s kind n at)
unfolding exchange_at
exchange_sound {s} {kind} {n} {at} c k =
    held_case _
    (λ three. past_case _
    (λ e. exchanged_sound c (subst (λ (n : ℕ). Kinded s kind n at) (eqb-true n 3 three) k) (number_at_most k.bytes e) _ refl))

-- such a message is read, whatever the kind
pub exchange_complete : {s : List ℕ} (kind : ℕ) {at e session : ℕ} {x y : Item} {obj : Obj Value} → StandAll s at e (list (x ∷ y ∷ []))
    → Number x session → ObjectiveItem y obj → depth y ≤ part_levels → Reads (exchange_at s kind 3 at)
unfolding exchange_at exchanged
exchange_complete kind a i o d =
    let (e, c) = number_passed a i in
    taken _ refl (skipped _ e (objective_reads c d o (exchanged kind _ _) (λ _ _ _ _. Reads.reads)))
