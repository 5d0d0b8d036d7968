-- One node call (rules 3.2, 8, 9), from its first test to what it sends and keeps: what it answers, and the
-- record, the table and the output after it.
use Rattle.reader.specs.Read.{Reading}
use Rattle.std.specs.Prelude.{ℕ, ◌^◌, Bool, true, false, not, ◌&&◌, List, length, ltb, leb, eqb, Result, Ok, Err, ⊤}
use Rattle.std.specs.Int.Count.{ones}
use Rattle.options.specs.Text.{held}
use Rattle.base.specs.Pick.{pick}
use Rattle.refusal.specs.declared.Refusal.{Refusal}
use Rattle.refusal.specs.declared.Refusal.TheVariants as R
use Rattle.refusal.specs.Refusal.{answer_number}
use Rattle.rfc8990.specs.Limits.{most_bytes}
use Rattle.reader.specs.Read.{read_of}
use Rattle.cbor.specs.Put.{written}
use Rattle.writer.specs.Write.{answer_of}
use Rattle.writer.specs.Lower.{onward}
use Rattle.names.specs.Names.{names_bad, is_named}
use Rattle.base.specs.Bytes.{same_bytes}
use Rattle.node_state.specs.declared.Record.{Record}
use Rattle.node.specs.declared.Verdict.{Verdict}
use Rattle.node.specs.declared.Verdict.TheVariants.{Own, Answer, Duplicate, Last, Nowhere}
use Rattle.node.specs.declared.Verdict.TheVariants.{NoRow, Relay, Noop, Hand}
use Rattle.node.specs.declared.Given.{Given}
use Rattle.node.specs.declared.CallAnswer.{CallAnswer}
use Rattle.node.specs.declared.role.Spread.{Spread}
use Rattle.node.specs.declared.role.Role.{Role}
use Rattle.node_state.specs.Record.{record_bad, arrival_bad, others, clocked, tallied}
use Rattle.node_state.specs.Table.{most_rows, table_bad, freed, put_row, lowest_free, is_known}
use Rattle.node.specs.Role.{role_of, key_in}

-- what a node call is given beside the record and the table
pub record Call : Type 0 where
  pub clock : ℕ
  pub interface : ℕ
  pub names : List ℕ
  pub message : List ℕ
  pub output : List ℕ

-- a call, argument by argument
abbrev pub call_of : ℕ → ℕ → List ℕ → List ℕ → List ℕ → Call
call_of clock interface names message output =
    record { clock = clock; interface = interface; names = names; message = message; output = output }

-- what it answers, and the record, the table and the output after it
pub record After : Type 0 where
  pub answer : Result Given Refusal
  pub node : Record
  pub table : List ℕ
  pub output : List ℕ

-- an answer, part by part
abbrev pub verdict_given : Verdict → Bool → ℕ → ℕ → Given
verdict_given verdict up mask len = record { verdict = verdict; handed_up = up; mask = mask; length = len }

-- an answer beside the record
abbrev pub gives : Verdict → Bool → ℕ → ℕ → Record → CallAnswer
gives verdict up mask len node = record { given = verdict_given verdict up mask len; node = node }

-- what is after a call that is given an answer
abbrev pub after_given : CallAnswer → List ℕ → List ℕ → After
after_given called table output =
    record { answer = Ok called.given; node = called.node; table = table; output = output }

-- what is after a call on a record: where it is refused, that record
unfoldable pub after_of : Record → Result CallAnswer Refusal → List ℕ → List ℕ → After
after_of r (Ok called) table output = after_given called table output
after_of r (Err refusal) table output = record { answer = Err refusal; node = r; table = table; output = output }

-- the refusals 12 to 17 in their order
unfoldable pub barred : Record → List ℕ → ℕ → ℕ → List ℕ → ℕ → Result ⊤ Refusal
barred r t clock interface names room =
    pick (record_bad r) (Err R.BadRecord)
    (pick (arrival_bad r interface) (Err R.BadLink)
    (pick (ltb clock r.clock) (Err R.EarlyClock)
    (pick (table_bad clock t) (Err R.BadTable)
    (pick (names_bad names) (Err R.BadNames)
    (pick (ltb room most_bytes) (Err R.CallOutput) (Ok tt))))))

-- what bars a call before its message is read
abbrev pub bars : Record → List ℕ → Call → Result ⊤ Refusal
bars r t c = barred r t c.clock c.interface c.names (length c.output)

-- its number, 0 for none
abbrev pub bar : Record → List ℕ → Call → ℕ
bar r t c = answer_number (bars r t c)

-- a refusal leaves everything as it was
unfoldable pub refuse : Refusal → Record → List ℕ → Call → After
refuse refusal r t c = record { answer = Err refusal; node = r; table = t; output = c.output }

-- a verdict that sends nothing
unfoldable pub quiet : Verdict → Bool → Record → List ℕ → Call → After
quiet v up r t c = after_given (gives v up 0 0 r) t c.output

-- the Response that answers a Discovery
unfoldable pub response : Record → List ℕ → Spread → List ℕ
response r message s = answer_of s.session (held message s.initiator) r.ttl r.address r.port

module _ (r : Record) (t : List ℕ) (c : Call) (s : Spread) where
  -- the verdicts that count, links and rows decide
  unfoldable pub later_verdict : Verdict
  later_verdict =
      pick (leb s.objective.count 1) Last
      (pick (eqb (others r c.interface) 0) Nowhere
      (pick (leb most_rows (lowest_free t)) NoRow Relay))

  -- the first verdict that applies to a Discovery or a Flood
  unfoldable pub verdict_on : Verdict
  verdict_on =
      pick (same_bytes (held c.message s.initiator) r.address) Own
      (pick (not s.flood && is_named c.names (held c.message s.objective.name)) Answer
      (pick (is_known (key_in c.message s) t) Duplicate later_verdict))

  -- ANSWER goes back by the arriving interface alone, and isn't tallied
  unfoldable pub answered : After
  answered =
      let bytes = response r c.message s in
      record {
        answer = Ok (verdict_given Answer false (2 ^ c.interface) (length bytes));
        node = r;
        table = t;
        output = written bytes c.output;
      }

  -- RELAY fills the lowest free row, goes out by every other link that is up, and its copies are tallied
  unfoldable pub relayed : After
  relayed =
      let bytes = onward c.message s.objective in
      let mask = others r c.interface in
      record {
        answer = Ok (verdict_given Relay s.flood mask (length bytes));
        node = tallied r (ones mask);
        table = put_row t (lowest_free t) (key_in c.message s) r.clock;
        output = written bytes c.output;
      }

  -- a Flood is handed up with LAST, NOWHERE, NOROW and RELAY
  unfoldable pub carried_out : Verdict → After
  carried_out Own = quiet Own false r t c
  carried_out Answer = answered
  carried_out Duplicate = quiet Duplicate false r t c
  carried_out Last = quiet Last s.flood r t c
  carried_out Nowhere = quiet Nowhere s.flood r t c
  carried_out NoRow = quiet NoRow s.flood r t c
  carried_out Relay = relayed
  carried_out Noop = quiet Noop false r t c
  carried_out Hand = quiet Hand true r t c

-- a message that was read; the clock is taken and no dead row is left
unfoldable pub taken : Record → List ℕ → Call → Role → After
taken r t c Role.Noop = quiet Noop false r t c
taken r t c Role.Upward = quiet Hand true r t c
taken r t c (Role.Spreads s) = carried_out r t c s (verdict_on r t c s)

-- after 12 to 17: the message's own refusal, or every dead row freed, the clock taken, and the first verdict that
-- applies
unfoldable pub received : Record → List ℕ → Call → Reading → After
received r t c (Err refusal) = refuse refusal r t c
received r t c (Ok m) = taken (clocked r c.clock) (freed c.clock t) c (role_of m)

-- by what bars it
unfoldable pub called : Record → List ℕ → Call → Result ⊤ Refusal → After
called r t c (Ok free) = received r t c (read_of c.message)
called r t c (Err refusal) = refuse refusal r t c

-- one node call: 12 to 17, and where none of them bars it what comes of the message
unfoldable pub node_call : Record → List ℕ → Call → After
node_call r t c = called r t c (bars r t c)
