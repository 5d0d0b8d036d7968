-- What comes of a node call: each of its tests decides the condition that rules 9.2 and 9.3 name, so the verdict that
-- it picks is the one that is due.
-- Assumes nothing.
use Rattle.reader.specs.Read.{Reading}
use mathlib.Core.Path.{◌≡◌, refl, sym, ap, ◌∙◌, subst}
use mathlib.Core.Logic.{◌≢◌, ◌⊎◌, inl, inr, ◌↔◌}
use mathlib.Core.Bool.{Bool, true, false, false≢true}
use mathlib.Core.List.{List}
use Prim.Native.Nat.{ℕ, ◌-◌, ◌^◌, ◌≤◌}
use native.Mathlib.Decide.{ℕ_discrete}
use native.Mathlib.Omega.{arith}
use lib.Dec.{leb, eqb}
use lib.ListN.{length}
use borrow.Author.Tests.{leb-true, eqb-true, le-leb, eq-eqb}
use Rattle.options.specs.Text.{held}
use Rattle.base.specs.Pick.{pick}
use Rattle.base.proofs.Picks.{pick-case, both}
use Rattle.refusal.proofs.Refusals.{some_number}
use Rattle.options.specs.declared.Span.{Span}
use Rattle.options.specs.declared.objective.Objective.{Objective}
use Rattle.message.specs.declared.Message.{Message}
use Rattle.message.specs.declared.Message.TheVariants as M
use Rattle.reader.specs.Read.{read_of}
use Rattle.base.specs.Bytes.{same_bytes}
use Rattle.names.specs.Names.{is_named}
use Rattle.node_laws.specs.OwnNames.{OwnNames}
use Rattle.node_laws.proofs.OwnNames.{named_exactly, same_exactly}
use Rattle.node_state.specs.declared.Record.{Record}
use Rattle.node.specs.declared.Verdict.{Verdict}
use Rattle.node.specs.declared.Verdict.TheVariants.{Own, Answer, Duplicate, Last, Nowhere, NoRow, Relay, Noop, Hand}
use Rattle.std.specs.Prelude.{Result, Ok, Err}
use Rattle.refusal.specs.declared.Refusal.{Refusal}
use Rattle.refusal.specs.Refusal.{answer_number}
use Rattle.node.specs.declared.Given.{Given}
use Rattle.node.specs.declared.role.Spread.{Spread}
use Rattle.node_state.specs.Record.{others, clocked}
use Rattle.node_state.specs.Table.{freed, lowest_free, is_known}
use Rattle.node_state.specs.Key.{key_of}
use Rattle.node.specs.Role.{spread_of, role_of, key_in}
use Rattle.node.specs.Call.{Call, After, bars, bar, verdict_given, refuse, quiet, answered, relayed, later_verdict, verdict_on, carried_out}
use Rattle.node.specs.Call.{taken, received, called, node_call}
use Rattle.node.specs.Passed.{Passed}
use Rattle.node_state.proofs.Keys.{key_used}
use Rattle.node.proofs.Outcomes.{passed, call_case, arrival_up}
use Rattle.node_laws.specs.Due.{OwnInitiator, Named, Known, Alone, Full, Rules, when, otherwise, First, discovery_rules, flood_rules, rules_on, Due}
use Rattle.node_laws.specs.Due.{Does, sends_nothing, answers, relays_discovery, relays_flood, Comes, barred_by, unread, given}
use Rattle.node_laws.specs.Bars.{Barred, nothing}
use Rattle.node_laws.proofs.Bars.{barred_exactly}
use Rattle.node_laws.proofs.Lives.{fails}
use Rattle.node_laws.proofs.RelayRows.{known_live, full_exactly, lowest_most}
use Rattle.node_laws.proofs.Links.{alone_exactly}

-- ---- tests and conditions

named_test : (c : Call) (o : Objective) → OwnNames c.names → is_named c.names (held c.message o.name) ≡ true ↔ Named c o
named_test c o own =
    let name = held c.message o.name in
    (λ e. (own, (named_exactly c.names name own).0 e), λ (own', among). (named_exactly c.names name own').1 among)

spent_test : (n : ℕ) → leb n 1 ≡ true ↔ ((n ≡ 0) ⊎ (n ≡ 1))
spent_test n = (
  λ e. let l = leb-true n 1 e in elim (ℕ_discrete n 0) [ yes z ↦ inl z | no some ↦ inr (omega arith) ],
  λ h. le-leb n 1 (elim h [ inl e ↦ omega arith | inr e ↦ omega arith ]),
)

own_test : (r : Record) (c : Call) (i : Span) → same_bytes (held c.message i) (clocked r c.clock).address ≡ true ↔ OwnInitiator r c i
unfolding clocked
own_test r c i = same_exactly (held c.message i) r.address

module _ (r : Record) (t : List ℕ) (c : Call) (p : Passed r t c.clock c.interface (length c.output)) where
  known_test : (flood : Bool) (session : ℕ) (i : Span) (o : Objective)
      → is_known (key_in c.message (spread_of flood session i o)) (freed c.clock t) ≡ true ↔ Known t c.clock (key_of flood session (held c.message i))
  unfolding key_in
  known_test flood session i o =
      known_live c.clock t p.table (key_of flood session (held c.message i)) (key_used flood session (held c.message i))

  alone_test : eqb (others (clocked r c.clock) c.interface) 0 ≡ true ↔ Alone r c
  unfolding clocked others
  alone_test =
      let left = r.links - 2 ^ c.interface in
      let exact = alone_exactly r.links c.interface (arrival_up r c.interface p.arrives) in
      (λ e. exact.0 (eqb-true left 0 e), λ a. eq-eqb left 0 (exact.1 a))

  full_test : leb 64 (lowest_free (freed c.clock t)) ≡ true ↔ Full t c.clock
  full_test =
      let row = lowest_free (freed c.clock t) in
      let exact = full_exactly c.clock t p.table in
      let most : row ≤ 64 = lowest_most (freed c.clock t) in
      (λ e. exact.0 (let l = leb-true 64 row e in omega arith), λ f. let is = exact.1 f in le-leb 64 row (omega arith))

-- ---- the first that applies

-- a verdict that is picked by a test
picked : (up : Verdict → Bool) (rules : Rules) (v w : Verdict) {P : Type 0} {test handed : Bool} → test ≡ true ↔ P → handed ≡ up v → First rules w (up w)
    → First (when P v handed rules) (pick test v w) (up (pick test v w))
unfolding First
picked up rules v w {P} {test} {handed} d e rest =
    pick-case (λ (x : Verdict). First (when P v handed rules) x (up x)) test (λ yes-it-is. inl (d.0 yes-it-is, refl, e))
    (λ it-is-not. inr (fails d it-is-not, rest))

first_else : (up : Verdict → Bool) (v : Verdict) → First (otherwise v (up v)) v (up v)
unfolding First
first_else up v = (refl, refl)

-- there is only one
pub first_once : (rules : Rules) {v w : Verdict} {a b : Bool} → First rules v a → First rules w b → (v ≡ w) × (a ≡ b)
unfolding First
first_once (when P x up rules) (inl (p, e, f)) (inl (q, g, h)) = (sym e ∙ g, sym f ∙ h)
first_once (when P x up rules) (inl (p, e, f)) (inr (n, rest)) = absurd (n p)
first_once (when P x up rules) (inr (n, rest)) (inl (p, e, f)) = absurd (n p)
first_once (when P x up rules) (inr (n, rest)) (inr (m, rest')) = first_once rules rest rest'
first_once (otherwise x up) (e, f) (g, h) = (sym e ∙ g, sym f ∙ h)

-- what holds of it
pub of_same : (P : Verdict → Bool → Type 0) {v w : Verdict} {a b : Bool} → (v ≡ w) × (a ≡ b) → P v a → P w b
of_same P {w = w} {a} (e, f) p = subst (P w) f (subst (λ (z : Verdict). P z a) e p)

-- what a verdict says of handing up, for a Flood and for all else
unfoldable handed : Bool → Verdict → Bool
handed flood Own = false
handed flood Answer = false
handed flood Duplicate = false
handed flood Last = flood
handed flood Nowhere = flood
handed flood NoRow = flood
handed flood Relay = flood
handed flood Noop = false
handed flood Hand = true

module _ (r : Record) (t : List ℕ) (c : Call) (session : ℕ) (i : Span) (o : Objective) where
  abbrev discovery_verdict : Verdict
  discovery_verdict = verdict_on (clocked r c.clock) (freed c.clock t) c (spread_of false session i o)

  discovery_due : Passed r t c.clock c.interface (length c.output) → OwnNames c.names
      → First (discovery_rules r t c session i o) discovery_verdict (handed false discovery_verdict)
  unfolding verdict_on later_verdict pick handed
  discovery_due p own =
      picked (handed false) _ _ _ (own_test r c i) refl
      (picked (handed false) _ _ _ (named_test c o own) refl
      (picked (handed false) _ _ _ (known_test r t c p false session i o) refl
      (picked (handed false) _ _ _ (spent_test o.count) refl
      (picked (handed false) _ _ _ (alone_test r t c p) refl
      (picked (handed false) _ _ _ (full_test r t c p) refl
      (first_else (handed false) Relay))))))

  abbrev flood_verdict : Verdict
  flood_verdict = verdict_on (clocked r c.clock) (freed c.clock t) c (spread_of true session i o)

  flood_due : Passed r t c.clock c.interface (length c.output) → First (flood_rules r t c session i o) flood_verdict (handed true flood_verdict)
  unfolding verdict_on later_verdict pick handed
  flood_due p =
      picked (handed true) _ _ _ (own_test r c i) refl
      (picked (handed true) _ _ _ (known_test r t c p true session i o) refl
      (picked (handed true) _ _ _ (spent_test o.count) refl
      (picked (handed true) _ _ _ (alone_test r t c p) refl
      (picked (handed true) _ _ _ (full_test r t c p) refl
      (first_else (handed true) Relay)))))

  -- a Flood isn't answered
  flood_unanswered : flood_verdict ≢ Answer
  unfolding verdict_on later_verdict
  flood_unanswered =
      let P : Verdict → Type 0 = λ v. v ≡ Answer → false ≡ true in
      λ e. false≢true
      (both P _ (λ q. cc) (pick-case P _ (λ t q. t) (λ _. both P _ (λ q. cc) (both P _ (λ q. cc) (both P _ (λ q. cc) (both P _ (λ q. cc) (λ q. cc)))))) e)

-- ---- what a verdict does

module _ (r : Record) (t : List ℕ) (c : Call) where
  silent : {m : Message} {up : Bool} (v : Verdict) → (v ≡ Answer → false ≡ true) → (v ≡ Relay → false ≡ true)
      → Does r t c m v up (quiet v up (clocked r c.clock) (freed c.clock t) c)
  silent v a b = sends_nothing (λ q. false≢true (a q)) (λ q. false≢true (b q))

  spread_does : {m : Message} (s : Spread) (v : Verdict) → (v ≡ Answer → Does r t c m Answer false (answered (clocked r c.clock) (freed c.clock t) c s))
      → Does r t c m Relay s.flood (relayed (clocked r c.clock) (freed c.clock t) c s)
      → Does r t c m v (handed s.flood v) (carried_out (clocked r c.clock) (freed c.clock t) c s v)
  unfolding carried_out handed
  spread_does s Own answer relay = silent Own (λ q. cc) (λ q. cc)
  spread_does s Answer answer relay = answer refl
  spread_does s Duplicate answer relay = silent Duplicate (λ q. cc) (λ q. cc)
  spread_does s Last answer relay = silent Last (λ q. cc) (λ q. cc)
  spread_does s Nowhere answer relay = silent Nowhere (λ q. cc) (λ q. cc)
  spread_does s NoRow answer relay = silent NoRow (λ q. cc) (λ q. cc)
  spread_does s Relay answer relay = relay
  spread_does s Noop answer relay = silent Noop (λ q. cc) (λ q. cc)
  spread_does s Hand answer relay = silent Hand (λ q. cc) (λ q. cc)

  -- it does one thing
  does_once : {m : Message} {v : Verdict} {up : Bool} {a b : After} → Does r t c m v up a → Does r t c m v up b → a ≡ b
  does_once (sends_nothing n k) (sends_nothing n' k') = refl
  does_once (sends_nothing n k) answers = absurd (n refl)
  does_once (sends_nothing n k) relays_discovery = absurd (k refl)
  does_once (sends_nothing n k) relays_flood = absurd (k refl)
  does_once answers (sends_nothing n k) = absurd (n refl)
  does_once answers answers = refl
  does_once relays_discovery (sends_nothing n k) = absurd (k refl)
  does_once relays_discovery relays_discovery = refl
  does_once relays_flood (sends_nothing n k) = absurd (k refl)
  does_once relays_flood relays_flood = refl

  -- ---- what comes of a call

  -- the verdict that is due, and what it does
  abbrev Verdicted : Message → After → Type 0
  Verdicted m a = (v : Verdict) × (up : Bool) × Due r t c m v up × Does r t c m v up a

  verdicted_once : (m : Message) {v : Verdict} {up : Bool} {a b : After} → Verdicted m a → Due r t c m v up → Does r t c m v up b → a ≡ b
  verdicted_once m {a = a} (w, u, due', does') due does = does_once (of_same (λ z f. Does r t c m z f a) (first_once (rules_on r t c m) due' due) does') does

  passes : bar r t c ≡ 0 → Passed r t c.clock c.interface (length c.output)
  passes = passed r t c.clock c.interface c.names (length c.output)

  own_names : bar r t c ≡ 0 → OwnNames c.names
  own_names e = go ((barred_exactly r t c 0).0 e)
    where
      go : Barred r t c 0 → OwnNames c.names
      go (nothing a b d g own f) = own

  hands : {m : Message} → Due r t c m Hand true → Verdicted m (quiet Hand true (clocked r c.clock) (freed c.clock t) c)
  hands due = (Hand, true, due, silent Hand (λ q. cc) (λ q. cc))

  pub read_verdicted : bar r t c ≡ 0 → (m : Message) → Verdicted m (taken (clocked r c.clock) (freed c.clock t) c (role_of m))
  unfolding taken role_of First
  read_verdicted e M.Noop = (Noop, false, (refl, refl), silent Noop (λ q. cc) (λ q. cc))
  read_verdicted e (M.Discovery session i o) =
      let v = discovery_verdict r t c session i o in
      (v, handed false v, discovery_due r t c session i o (passes e) (own_names e), spread_does (spread_of false session i o) v (λ _. answers) relays_discovery)
  read_verdicted e (M.Response session i ttl targets extra) = hands (refl, refl)
  read_verdicted e (M.RequestNegotiation session o) = hands (refl, refl)
  read_verdicted e (M.RequestSynchronization session o) = hands (refl, refl)
  read_verdicted e (M.Negotiate session o) = hands (refl, refl)
  read_verdicted e (M.End session outcome) = hands (refl, refl)
  read_verdicted e (M.Wait session time) = hands (refl, refl)
  read_verdicted e (M.Synch session o) = hands (refl, refl)
  read_verdicted e (M.Flood session i ttl first pairs) =
      let o = first.objective in
      let v = flood_verdict r t c session i o in (
        v,
        handed true v,
        flood_due r t c session i o (passes e),
        spread_does (spread_of true session i o) v (λ q. absurd (flood_unanswered r t c session i o q)) relays_flood,
      )
  read_verdicted e (M.Invalid session item) = hands (refl, refl)

  -- the call by its refusals
  call_barred : (refusal : Refusal) → bars r t c ≡ Err refusal → node_call r t c ≡ refuse refusal r t c
  unfolding node_call called
  call_barred refusal e = rw e refl

  pub call_open : {x : Reading} → bar r t c ≡ 0 → read_of c.message ≡ x → node_call r t c ≡ received r t c x
  call_open {x} e read =
      call_case (λ a. a ≡ received r t c x) r t c (λ _. rw read refl)
      (λ refusal barred. absurd (let some = some_number refusal in let z = ap answer_number barred in omega arith))

  pub comes : Comes r t c (node_call r t c)
  unfolding received
  comes = call_case (Comes r t c) r t c (λ free. go free (read_of c.message) refl) barred_by
    where
      go : bar r t c ≡ 0 → (x : Reading) → read_of c.message ≡ x → Comes r t c (received r t c x)
      go e (Err refusal) read = unread refusal e read
      go e (Ok m) read =
          let (v, up, due, does) = read_verdicted e m in
          given m v up e read due does

  pub comes_is : {a : After} → Comes r t c a → node_call r t c ≡ a
  unfolding received
  comes_is (barred_by refusal e) = call_barred refusal e
  comes_is (unread n e read) = call_open e read
  comes_is (given m v up e read due does) = call_open e read ∙ verdicted_once m (read_verdicted e m) due does

-- ---- what a reply says

-- this verdict, and whether the message is handed up
abbrev pub Says : Result Given Refusal → Verdict → Bool → Type 0
Says x v up = (mask : ℕ) × (len : ℕ) × (x ≡ Ok (verdict_given v up mask len))

pub says_once : {x : Result Given Refusal} {v w : Verdict} {f g : Bool} → Says x v f → Says x w g → (v ≡ w) × (f ≡ g)
says_once {v = v} {w} {f} {g} (mask, len, e) (mask', len', e') =
    let same : verdict_given v f mask len ≡ verdict_given w g mask' len' = cc in (ap (λ (z : Given). z.verdict) same, ap (λ (z : Given). z.handed_up) same)

pub no_refusal : {refusal : Refusal} {v : Verdict} {up : Bool} → Says (Err refusal) v up → ⊥
no_refusal (mask, len, e) = false≢true (cc)

pub does_say : {r : Record} {t : List ℕ} {c : Call} {m : Message} {v : Verdict} {up : Bool} {a : After} → Does r t c m v up a → Says a.answer v up
unfolding quiet answered relayed
does_say (sends_nothing n k) = (_, _, refl)
does_say answers = (_, _, refl)
does_say relays_discovery = (_, _, refl)
does_say relays_flood = (_, _, refl)
