-- What each verdict leaves and sends (rules 9.6).
-- Assumes nothing.
use mathlib.Core.Path.{◌≡◌, refl, sym, ap, ◌∙◌}
use mathlib.Core.Logic.{◌≢◌}
use mathlib.Core.Bool.{Bool, false≢true}
use mathlib.Core.List.{List}
use Prim.Native.Nat.{ℕ, ◌-◌, ◌^◌}
use lib.ListN.{length}
use Rattle.base.proofs.Bools.{not_both}
use Rattle.options.specs.declared.Span.{Span}
use Rattle.options.specs.declared.objective.Objective.{Objective}
use Rattle.message.specs.declared.Message.{Message}
use Rattle.message.specs.declared.Message.TheVariants as M
use Rattle.reader.specs.Read.{read_of}
use Rattle.node_state.specs.declared.Record.{Record}
use Rattle.node.specs.declared.Verdict.{Verdict}
use Rattle.node.specs.declared.Verdict.TheVariants.{Answer, Relay}
use Rattle.std.specs.Prelude.{Result, Ok}
use Rattle.refusal.specs.declared.Refusal.{Refusal}
use Rattle.node.specs.declared.Given.{Given}
use Rattle.node.specs.declared.role.Spread.{Spread}
use Rattle.node.specs.declared.role.Role.{Role}
use Rattle.node_state.specs.Record.{others, clocked}
use Rattle.node_state.specs.Table.{freed, lowest_free}
use Rattle.node.specs.Role.{RoleIn, key_in}
use Rattle.writer.specs.Lower.{onward}
use Rattle.node.specs.Call.{Call, After, verdict_given, gives, after_given, refuse, quiet, response, answered, relayed, node_call}
use Rattle.node_laws.specs.History.{is_relay, says_relay}
use Rattle.node.proofs.Outcomes.{arrival_up}
use Rattle.node_laws.proofs.Calls.{View, stayed, ended, went, view}
use Rattle.node_laws.specs.Due.{Does, sends_nothing, answers, relays_discovery, relays_flood, Comes, barred_by, unread, given}
use Rattle.node_laws.specs.Sent.{Relayed, Answered}
use Rattle.node_laws.proofs.Links.{others_exactly}
use Rattle.node_laws.proofs.Ways.{of_same, comes, says_once, no_refusal, does_say}
use Rattle.node_laws.proofs.RelayRows.{freed_length, lowest_is, filled_row, table_good}

module _ (r : Record) (t : List ℕ) (c : Call) where
  went_way : (up : Bool) (mask len : ℕ) (a : After) → View r t c a → a.answer ≡ Ok (verdict_given Relay up mask len)
      → (s : Spread) × RoleIn c.message (Role.Spreads s) × (up ≡ s.flood) × Relayed r t c s mask len a
  unfolding relayed clocked others says_relay is_relay
  went_way up mask len a (stayed nb tb e) q = absurd (not_both (says_relay a.answer) (ap says_relay q) e)
  went_way up mask len a (ended p nb tb e) q = absurd (not_both (says_relay a.answer) (ap says_relay q) e)
  went_way up mask len a (went s k e) q =
      let now = c.clock in
      let bytes = onward c.message s.objective in
      let gave : ◌≡◌ {A = Result Given Refusal} (Ok (verdict_given Relay up mask len))
      (Ok (verdict_given Relay s.flood (r.links - 2 ^ c.interface) (length bytes))) =
      sym q ∙ ap (λ (z : After). z.answer) e in
      let same : verdict_given Relay up mask len ≡ verdict_given Relay s.flood (r.links - 2 ^ c.interface) (length bytes) = cc in
      let ups : up ≡ s.flood = ap (λ (z : Given). z.handed_up) same in
      let masks : mask ≡ r.links - 2 ^ c.interface = ap (λ (z : Given). z.mask) same in
      let longs : len ≡ length bytes = ap (λ (z : Given). z.length) same in
      let row = lowest_free (freed now t) in
      let sized : length (freed now t) ≡ 256 = freed_length now t ∙ ((table_good now t).0 k.passes.table).0 in
      let lowest = (lowest_is (freed now t) row k.room).0 refl in
      let filled = filled_row (freed now t) row (key_in c.message s) now sized k.room in (
        s,
        k.role,
        ups,
        rw (e, masks) (record {
          row = row;
          room = k.room;
          free = lowest.0;
          lowest = lowest.1;
          key = filled.0;
          admitted = filled.1;
          no_other = filled.2;
          sized = filled.3;
          links = others_exactly r.links c.interface (arrival_up r c.interface k.passes.arrives);
          node = refl;
          long = longs;
          output = refl;
        }),
      )

  answered_by : {m : Message} {v : Verdict} {up : Bool} {a : After} → v ≡ Answer → Does r t c m v up a
      → (session : ℕ) × (i : Span) × (o : Objective) × (m ≡ M.Discovery session i o) × Answered r t c session i a
  unfolding answered response clocked
  answered_by e (sends_nothing n k) = absurd (n e)
  answered_by e (answers {session} {i} {o}) = (session, i, o, refl, record { bytes = _; is = refl; output = refl; reply = refl; table = refl; node = refl })
  answered_by e relays_discovery = absurd (false≢true (cc))
  answered_by e relays_flood = absurd (false≢true (cc))

  silent_by : {m : Message} {v : Verdict} {up : Bool} {a : After} → v ≢ Answer → v ≢ Relay → Does r t c m v up a
      → a ≡ quiet v up (clocked r c.clock) (freed c.clock t) c
  silent_by no_answer no-relay (sends_nothing n k) = refl
  silent_by no_answer no-relay answers = absurd (no_answer refl)
  silent_by no_answer no-relay relays_discovery = absurd (no-relay refl)
  silent_by no_answer no-relay relays_flood = absurd (no-relay refl)

  -- the way of a call that was given this verdict
  gave : {v : Verdict} {up : Bool} {mask len : ℕ} {a : After} → Comes r t c a → a.answer ≡ Ok (verdict_given v up mask len)
      → (m : Message) × (read_of c.message ≡ Ok m) × Does r t c m v up a
  unfolding refuse
  gave (barred_by refusal e) q = absurd (no_refusal (_, _, q))
  gave (unread n e read) q = absurd (no_refusal (_, _, q))
  gave {a = a} (given m w u e read due does) q = (m, read, of_same (λ z b. Does r t c m z b a) (says_once (does_say does) (_, _, q)) does)

-- for readers

-- RELAY fills the lowest free row, goes out by the other links that are up, is tallied, and writes the message with its
-- count one lower.
pub relay_does : (r : Record) (t : List ℕ) (c : Call) (up : Bool) (mask len : ℕ) → (node_call r t c).answer ≡ Ok (verdict_given Relay up mask len)
    → (s : Spread) × RoleIn c.message (Role.Spreads s) × (up ≡ s.flood) × Relayed r t c s mask len (node_call r t c)
relay_does r t c up mask len = went_way r t c up mask len (node_call r t c) (view r t c)

-- ANSWER writes a Response to a Discovery and sends it back by the arriving interface alone; no row is filled and
-- nothing is tallied.
pub answer_does : (r : Record) (t : List ℕ) (c : Call) (up : Bool) (mask len : ℕ) → (node_call r t c).answer ≡ Ok (verdict_given Answer up mask len)
    → (session : ℕ) × (i : Span) × (o : Objective) × (read_of c.message ≡ Ok (M.Discovery session i o)) × Answered r t c session i (node_call r t c)
answer_does r t c up mask len q =
    let (m, read, does) = gave r t c (comes r t c) q in
    let (session, i, o, is, after) = answered_by r t c refl does in
    (session, i, o, read ∙ ap Ok is, after)

-- The other verdicts write nothing, fill no row and tally nothing; their mask is 0.
pub others_do : (r : Record) (t : List ℕ) (c : Call) (v : Verdict) (up : Bool) (mask len : ℕ) → v ≢ Answer → v ≢ Relay
    → (node_call r t c).answer ≡ Ok (verdict_given v up mask len)
    → node_call r t c ≡ after_given (gives v up 0 0 (clocked r c.clock)) (freed c.clock t) c.output
unfolding quiet
others_do r t c v up mask len no_answer no-relay q =
    let (m, read, does) = gave r t c (comes r t c) q in
    silent_by r t c no_answer no-relay does
