-- Relays as they are seen, whoever calls the node, and demand 3's sentences about those of one list (rules 13.3.1 to
-- 13.3.4, 13.5 to 13.8).
use Rattle.std.specs.Prelude.{Ok, Err}
use Rattle.reader.specs.Read.{Reading}
use Rattle.std.specs.Prelude.{Some, None}
use Rattle.std.specs.Prelude.{ℕ, zero, suc, ◌+◌, ◌*◌, ◌-◌, ◌≤◌, ◌<◌, ◌≢◌, ◌≡◌, length, take, eqb}
use mathlib.Core.List.{List, [], ◌∷◌, Sublistᴰ}
use Rattle.options.specs.Text.{held}
use Rattle.base.specs.Pick.{pick}
use Rattle.base.specs.Lists.{Every, EachPair, Distinct}
use Rattle.base.specs.Bits.{has_bit}
use Rattle.message.specs.Fields.{Session}
use Rattle.message.specs.Fields.{kind_of, session_of, initiator_of, objective_of, count_in}
use Rattle.reader.specs.Read.{read_of}
use Rattle.node.specs.Call.{Call}

-- ---- what is read of a message

-- kind, session, initiator, and the (first) objective's count
pub record Told : Type 0 where
  pub kind : ℕ
  pub session : ℕ
  pub initiator : List ℕ
  pub count : ℕ

-- a session, 0 where there is none
unfoldable pub number_in : Session → ℕ
number_in None = 0
number_in (Some n) = n

-- by what was read; nothing of a refused message
unfoldable pub told_reading : List ℕ → Reading → Told
told_reading s (Err refusal) = record { kind = 0; session = 0; initiator = []; count = 0 }
told_reading s (Ok m) =
    record {
      kind = kind_of m;
      session = number_in (session_of m);
      initiator = held s (initiator_of m);
      count = count_in (objective_of m);
    }

-- of the bytes s
unfoldable pub told : List ℕ → Told
told s = told_reading s (read_of s)

-- ---- a relay as it is seen

-- the interfaces below n that a mask holds
unfoldable pub interfaces_in : ℕ → ℕ → List ℕ
interfaces_in zero mask = []
interfaces_in (suc n) mask = pick (has_bit mask n) (n ∷ interfaces_in n mask) (interfaces_in n mask)

-- the call's clock, the interface that the message came in by, what is read of the message that it was given and of
-- the one that it sends, and its copies: the interfaces in its mask
pub record Seen : Type 0 where
  pub clock : ℕ
  pub arrived : ℕ
  pub given : Told
  pub sent : Told
  pub copies : List ℕ

-- of a call's arguments, and of the mask, the length and the output after it: what is sent are so many bytes of the
-- output, and a mask has 64 bits at most, as C's has (rules 13.5, 13.6)
abbrev pub seen_of : Call → ℕ → ℕ → List ℕ → Seen
seen_of c mask len output =
    record {
      clock = c.clock;
      arrived = c.interface;
      given = told c.message;
      sent = told (take len output);
      copies = interfaces_in 64 mask;
    }

-- the copies of these together
unfoldable pub copies_of : List Seen → ℕ
copies_of [] = 0
copies_of (x ∷ xs) = length x.copies + copies_of xs

-- ---- the demand's sentences about the relays of one list (rules 13.3.1 to 13.3.4)

-- one kind, session and initiator (with its length)
pub record SameKey (x y : Seen) : Type 0 where
  pub kind : x.given.kind ≡ y.given.kind
  pub session : x.given.session ≡ y.given.session
  pub initiator : x.given.initiator ≡ y.given.initiator

-- how far apart the relays of one key are: 60,000 ms, Floods 120,000
unfoldable pub apart_by : ℕ → ℕ
apart_by kind = pick (eqb kind 9) 120000 60000

-- x stands before y in the list
pub record Apart (x y : Seen) : Type 0 where
  pub later : x.clock ≤ y.clock
  pub one_key : SameKey x y → x.clock + apart_by x.given.kind ≤ y.clock

-- how a relay goes out
pub record GoesOut (interfaces : ℕ) (x : Seen) : Type 0 where
  -- a mask names no interface twice, so this holds of every answer
  pub once : Distinct x.copies
  pub there : Every (λ i. i < interfaces) x.copies
  pub onward : Every (λ i. i ≢ x.arrived) x.copies
  pub positive : 0 < x.sent.count
  pub lower : x.sent.count + 1 ≡ x.given.count

-- the clocks are less than 60,000 ms apart: x stands before y in the list, so its clock isn't later
abbrev pub Near : Seen → Seen → Type 0
Near x y = y.clock < x.clock + 60000

-- at most 64 relays, and their copies at most 64 times one less than the interfaces
pub record Few (interfaces : ℕ) (chosen : List Seen) : Type 0 where
  pub relays : length chosen ≤ 64
  pub copies : copies_of chosen ≤ 64 * (interfaces - 1)

-- of how many interfaces a node has, the relays of a list in their order, and what is tallied after the list
pub record Demanded (interfaces : ℕ) (relays : List Seen) (total : ℕ) : Type 0 where
  pub apart : EachPair Apart relays
  pub each : Every (GoesOut interfaces) relays
  pub few : (chosen : List Seen) → Sublistᴰ chosen relays → EachPair Near chosen → Few interfaces chosen
  pub tally : total ≡ copies_of relays
