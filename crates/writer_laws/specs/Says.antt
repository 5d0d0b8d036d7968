-- What it means that a description says a message: its spans lie in the source, its rows are whole and of known kinds,
-- a list is given only where the kind has one, and the message that it speaks of is that one. Whether there is such a
-- message is not asked here.
use Rattle.std.specs.Prelude.{Ok}
use Rattle.std.specs.Prelude.{ℕ, ◌+◌, ◌*◌, ◌/◌, ◌%◌, ◌≤◌, ◌<◌, List, [], ◌⊎◌, ◌≡◌, length, get_or}
use Rattle.options.specs.declared.Span.{Span}
use Rattle.rfc8990.specs.Message.{Msg}
use Rattle.message.specs.declared.Message.{Message}
use Rattle.reader.specs.Read.{read_of}
use Rattle.rfc8990.specs.Accepted.{Accepted}
use Rattle.description.specs.declared.rows.ObjectiveRow.{ObjectiveRow}
use Rattle.description.specs.declared.rows.LocatorRow.{LocatorRow}
use Rattle.std.specs.Prelude.{Option, Some, None}
use Rattle.description.specs.declared.GivenObjective.{GivenObjective}
use Rattle.options.specs.declared.outcome.Outcome.{Outcome}
use Rattle.options.specs.declared.outcome.Outcome.TheVariants as E
use Rattle.description.specs.declared.Description.{Description}
use Rattle.description.specs.declared.Description.TheVariants as D
use Rattle.description.specs.Meaning.{locator_row, pair_row, objective_row, objective_row_of}
use Rattle.description.specs.Meaning.{locator_row_at, objective_row_at, msg_of}
use Rattle.writer.specs.Write.{draft_of}
use Rattle.writer_laws.specs.Plain.{plain}

-- a span lies in the source; one of no bytes may stand anywhere
abbrev pub Inside : List ℕ → Span → Type 0
Inside source s = (s.len ≡ 0) ⊎ (s.at + s.len ≤ length source)

-- an objective's name and value
pub record ObjectiveRowSays (source : List ℕ) (o : ObjectiveRow) : Type 0 where
  pub name : Inside source o.name
  pub value : Inside source o.value

-- one of the four locators
pub record LocatorRowSays (source : List ℕ) (p : LocatorRow) : Type 0 where
  pub least : 103 ≤ p.kind
  pub most : p.kind ≤ 106
  pub content : Inside source p.content

-- five zeros
pub record Blank (p : LocatorRow) : Type 0 where
  pub kind : p.kind ≡ 0
  pub at : p.content.at ≡ 0
  pub len : p.content.len ≡ 0
  pub protocol : p.protocol ≡ 0
  pub port : p.port ≡ 0

-- row i of a list of pairs; the place of the count's head, which only a reader gives, is 0
pub record PairSays (source list : List ℕ) (i : ℕ) : Type 0 where
  pub count_at : get_or list (pair_row * i + 4) 0 ≡ 0
  pub objective : ObjectiveRowSays source (objective_row_at list (pair_row * i))
  pub locator : Blank (locator_row_at list (pair_row * i + objective_row))
      ⊎ LocatorRowSays source (locator_row_at list (pair_row * i + objective_row))

-- whole rows of so many numbers, and what holds of each
pub record Rows (list : List ℕ) (size : ℕ) (P : ℕ → Type 0) : Type 0 where
  pub whole : length list % size ≡ 0
  pub each : (i : ℕ) → i < length list / size → P i

-- an objective that may be left out
abbrev pub ExtraSays : List ℕ → Option GivenObjective → Type 0
ExtraSays source None = Unit {0}
ExtraSays source (Some o) = ObjectiveRowSays source (objective_row_of o)

-- how a negotiation ends
abbrev pub OutcomeSays : List ℕ → Outcome → Type 0
OutcomeSays source E.Accept = Unit {0}
OutcomeSays source E.Decline = Unit {0}
OutcomeSays source (E.Reason t) = Inside source t

-- what a description holds
abbrev pub PartsSay : List ℕ → List ℕ → Description → Type 0
PartsSay source list D.Noop = list ≡ []
PartsSay source list (D.Discovery s i o) = (list ≡ []) × Inside source i × ObjectiveRowSays source (objective_row_of o)
PartsSay source list (D.Response s i t d o) = Inside source i
    × Rows list locator_row (λ k. LocatorRowSays source (locator_row_at list (locator_row * k))) × ExtraSays source o
PartsSay source list (D.RequestNegotiation s o) = (list ≡ []) × ObjectiveRowSays source (objective_row_of o)
PartsSay source list (D.RequestSynchronization s o) = (list ≡ []) × ObjectiveRowSays source (objective_row_of o)
PartsSay source list (D.Negotiate s o) = (list ≡ []) × ObjectiveRowSays source (objective_row_of o)
PartsSay source list (D.End s e) = (list ≡ []) × OutcomeSays source e
PartsSay source list (D.Wait s t) = list ≡ []
PartsSay source list (D.Synch s o) = (list ≡ []) × ObjectiveRowSays source (objective_row_of o)
PartsSay source list (D.Flood s i t) = Inside source i × Rows list pair_row (PairSays source list)
PartsSay source list (D.Invalid s v) = (list ≡ []) × Inside source v

-- the description says the message
pub record Says (source list : List ℕ) (d : Description) (msg : Msg (List ℕ)) : Type 0 where
  pub parts : PartsSay source list d
  pub is : msg_of source list d ≡ msg

-- the bytes are what is written for the description; they are read, and what is read is the message that the
-- description speaks of
pub record ReadsBack (source list : List ℕ) (d : Description) (bs : List ℕ) : Type 0 where
  pub draft : bs ≡ draft_of source list d
  pub message : Message
  pub read : read_of bs ≡ Ok message
  pub accepted : Accepted bs
  pub same : (a : Accepted bs) → plain a.message.msg ≡ msg_of source list d
