-- A message that is relayed (rules 9.7): a Discovery's objective's count, or that of a Flood's first objective, is one
-- lower.
use Rattle.std.specs.Prelude.{ℕ, ◌-◌, List, [], ◌∷◌, ◌≡◌}
use Rattle.options.specs.Text.{held}
use Rattle.options.specs.declared.Span.{Span}
use Rattle.options.specs.declared.objective.Objective.{Objective}
use Rattle.options.specs.declared.pair.Pair.{Pair}
use Rattle.rfc8990.specs.Message.{Obj, Msg}
use Rattle.message.specs.declared.Series.{Series}
use Rattle.message.specs.declared.Message.{Message}
use Rattle.message.specs.declared.Message.TheVariants as M
use Rattle.message.specs.Fields.{kind_of, session_of, initiator_of}
use Rattle.writer.specs.Write.{lowered}

-- an objective with another count
unfoldable pub with_count : {A : Type 0} → ℕ → Obj A → Obj A
with_count n o = record { name = o.name; flags = o.flags; count = n; value = o.value }

-- one lower
unfoldable pub lower_obj : {A : Type 0} → Obj A → Obj A
lower_obj o = with_count (o.count - 1) o

-- the message with that count one lower and all else the same; other kinds stay as they are
unfoldable pub lower_msg : {A : Type 0} → Msg A → Msg A
lower_msg Msg.noop = Msg.noop
lower_msg (Msg.discovery s i o) = Msg.discovery s i (lower_obj o)
lower_msg (Msg.response s i t tgts o) = Msg.response s i t tgts o
lower_msg (Msg.request_negotiation s o) = Msg.request_negotiation s o
lower_msg (Msg.request_synchronization s o) = Msg.request_synchronization s o
lower_msg (Msg.negotiate s o) = Msg.negotiate s o
lower_msg (Msg.end s e) = Msg.end s e
lower_msg (Msg.wait s t) = Msg.wait s t
lower_msg (Msg.synch s o) = Msg.synch s o
lower_msg (Msg.flood s i t []) = Msg.flood s i t []
lower_msg (Msg.flood s i t (p ∷ ps)) = Msg.flood s i t ((lower_obj p.0, p.1) ∷ ps)
lower_msg (Msg.invalid s item) = Msg.invalid s item

-- the objective whose count a relay lowers
pub data Lowers : Message → Objective → Type 0 where
  discovery : {session : ℕ} {i : Span} {o : Objective} → Lowers (M.Discovery session i o) o
  flood : {session ttl : ℕ} {i : Span} {first : Pair} {series : Series}
      → Lowers (M.Flood session i ttl first series) first.objective

-- the message as it is relayed: that count's head is replaced by the shortest head of one less
abbrev pub onward : List ℕ → Objective → List ℕ
onward s o = lowered s o.count_at o.value.at o.count

-- m', read of l, is of the kind, the session and the initiator of m, read of s, and its count is one lower
pub record Relays (s : List ℕ) (m : Message) (o : Objective) (l : List ℕ) (m' : Message) : Type 0 where
  pub kind : kind_of m' ≡ kind_of m
  pub session : session_of m' ≡ session_of m
  pub initiator : held l (initiator_of m') ≡ held s (initiator_of m)
  pub objective : Objective
  pub lowers : Lowers m' objective
  pub lower : objective.count ≡ o.count - 1
