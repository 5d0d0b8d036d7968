-- One call: the ways a node call can go, and what each does to a row that an earlier relay filled.
-- Assumes nothing.
use Rattle.std.specs.Prelude.{Ok, Err}
use Rattle.reader.specs.Read.{Reading}
use mathlib.Core.Path.{◌≡◌, refl}
use mathlib.Core.Logic.{◌≢◌, ◌⊎◌, inl, inr}
use mathlib.Core.Bool.{Bool, true, false}
use mathlib.Core.List.{List}
use Prim.Native.Nat.{ℕ, ◌+◌, ◌-◌, ◌≤◌, ◌<◌}
use native.Mathlib.Nat.{le_trans}
use native.Mathlib.Decide.{dec_lt}
use native.Mathlib.Omega.{arith}
use lib.ListN.{length}
use borrow.Author.Tests.{leb-false}
use Rattle.base.proofs.Picks.{pick-case, both}
use Rattle.message.specs.declared.Message.{Message}
use Rattle.reader.specs.Read.{read_of}
use Rattle.node_state.specs.declared.Record.{Record}
use Rattle.std.specs.Prelude.{Result}
use Rattle.refusal.specs.declared.Refusal.{Refusal}
use Rattle.std.specs.Result.{result_unwrap_or}
use Rattle.node.specs.declared.Verdict.{Verdict}
use Rattle.node.specs.declared.Verdict.TheVariants.{Own, Duplicate, Last, Nowhere, NoRow, Noop, Hand}
use Rattle.node.specs.declared.role.Spread.{Spread}
use Rattle.node.specs.declared.role.Role.{Role}
use Rattle.node_state.specs.declared.key.Key.{Key}
use Rattle.node_state.specs.Record.{set_links, links_set, linked, clocked}
use Rattle.node_state.specs.Table.{cell, table_bad, row_life, freed, put_row, lowest_free, is_known}
use Rattle.node.specs.Role.{role_of, RoleIn, key_in}
use Rattle.node.specs.Call.{Call, After, refuse, quiet, later_verdict, verdict_on, answered, relayed, carried_out, taken, received, node_call}
use Rattle.node.specs.Passed.{Passed}
use Rattle.node_laws.specs.History.{is_relay, says_relay}
use Rattle.node_state.proofs.TableRows.{Holds, put_other, same_holds, free_admitted, life_least, free_keeps, lowest_zero, unknown, row_admitted}
use Rattle.node.proofs.Outcomes.{passed, call_case}

-- ---- the ways a node call can go

pub record Relays (r : Record) (t : List ℕ) (c : Call) (s : Spread) : Type 0 where
  pub passes : Passed r t c.clock c.interface (length c.output)
  pub role : RoleIn c.message (Role.Spreads s)
  pub new : is_known (key_in c.message s) (freed c.clock t) ≡ false
  pub counts : 2 ≤ s.objective.count
  pub room : lowest_free (freed c.clock t) < 64

pub data View (r : Record) (t : List ℕ) (c : Call) (b : After) : Type 0 where
  stayed : b.node ≡ r → b.table ≡ t → says_relay b.answer ≡ false → View r t c b
  ended : Passed r t c.clock c.interface (length c.output) → b.node ≡ clocked r c.clock → b.table ≡ freed c.clock t
      → says_relay b.answer ≡ false → View r t c b
  went : (s : Spread) → Relays r t c s → b ≡ relayed (clocked r c.clock) (freed c.clock t) c s → View r t c b

module _ (r : Record) (t : List ℕ) (c : Call) where
  refuse_view : (refusal : Refusal) → View r t c (refuse refusal r t c)
  unfolding refuse says_relay
  refuse_view refusal = stayed refl refl refl

  module _ (p : Passed r t c.clock c.interface (length c.output)) where
    quiet_view : (v : Verdict) (up : Bool) → is_relay v ≡ false → View r t c (quiet v up (clocked r c.clock) (freed c.clock t) c)
    unfolding quiet says_relay
    quiet_view v up e = ended p refl refl e

    verdict_view : (s : Spread) → RoleIn c.message (Role.Spreads s)
        → View r t c (carried_out (clocked r c.clock) (freed c.clock t) c s (verdict_on (clocked r c.clock) (freed c.clock t) c s))
    unfolding verdict_on later_verdict carried_out answered says_relay is_relay
    verdict_view s role =
        let r₁ = clocked r c.clock in
        let t₁ = freed c.clock t in
        let Q : Verdict → Type 0 = λ v. View r t c (carried_out r₁ t₁ c s v) in
        pick-case Q _ (λ e. quiet_view Own false refl)
        (λ e. pick-case Q _ (λ e. ended p refl refl refl)
        (λ e. pick-case Q _ (λ e. quiet_view Duplicate false refl)
        (λ new. pick-case Q _ (λ e. quiet_view Last s.flood refl)
        (λ counts. pick-case Q _ (λ e. quiet_view Nowhere s.flood refl)
        (λ e. pick-case Q _ (λ e. quiet_view NoRow s.flood refl)
        (λ room.
        went s (record { passes = p; role = role; new = new; counts = leb-false s.objective.count 1 counts; room = leb-false 64 (lowest_free t₁) room })
        refl))))))

    taken_view : (m : Message) → read_of c.message ≡ Ok m → (role : Role) → role_of m ≡ role
        → View r t c (taken (clocked r c.clock) (freed c.clock t) c role)
    unfolding taken is_relay
    taken_view m read Role.Noop e = quiet_view Noop false refl
    taken_view m read Role.Upward e = quiet_view Hand true refl
    taken_view m read (Role.Spreads s) e = verdict_view s (record { is = m; read = read; plays = e })

    received_view : (x : Reading) → read_of c.message ≡ x → View r t c (received r t c x)
    unfolding received
    received_view (Err refusal) e = refuse_view (refusal)
    received_view (Ok m) e = taken_view m e (role_of m) refl

  pub view : View r t c (node_call r t c)
  view =
      call_case (View r t c) r t c
      (λ free. received_view (passed r t c.clock c.interface c.names (length c.output) free) (read_of c.message) refl)
      (λ refusal _. refuse_view refusal)

-- ---- setting links

-- the links aside, what a record keeps
pub record SameNode (r q : Record) : Type 0 where
  pub interfaces : q.interfaces ≡ r.interfaces
  pub clock : q.clock ≡ r.clock
  pub tally : q.tally ≡ r.tally

pub links_keep : (r : Record) (mask : ℕ) → SameNode r (links_set r mask)
unfolding set_links linked
links_keep r mask =
    let P : Result Record Refusal → Type 0 = λ k. SameNode r (result_unwrap_or k r) in
    let same : SameNode r r = record { interfaces = refl; clock = refl; tally = refl } in
    both P _ same (both P _ same (record { interfaces = refl; clock = refl; tally = refl }))

-- ---- a row that a relay filled

-- A relay with the key k at the clock `then` filled the row; now either its life is over, or the row is still as it
-- filled it.
abbrev pub StillThere : Key → ℕ → ℕ → ℕ → List ℕ → Type 0
StillThere k row then now t = (then + row_life k.first ≤ now) ⊎ Holds t row k then

module _ (k : Key) (row then : ℕ) where
  pub freed_there : (before now : ℕ) (t : List ℕ) → before ≤ now → StillThere k row then before t → StillThere k row then now (freed now t)
  freed_there before now t later (inl over) = inl (le_trans over later)
  freed_there before now t later (inr h) =
      elim (dec_lt (now - then)
      (row_life k.first)) [ yes live ↦ inr (free_keeps now t row k then h live) | no dead ↦ inl (omega (arith, life_least k.first)) ]

  -- the call's clock isn't before the row's
  pub there_past : (now : ℕ) (t : List ℕ) → table_bad now t ≡ false → StillThere k row then now (freed now t) → then ≤ now
  unfolding freed
  there_past now t good (inl over) = omega arith
  there_past now t good (inr h) = let e = h.clock in omega (arith, free_admitted now t 64 row now (row_admitted now t row good))

  other_row : (t : List ℕ) → 0 < k.first → lowest_free t < 64 → Holds t row k then → row ≢ lowest_free t
  other_row t used room h e =
      let z : cell t row 0 ≡ 0 = rw e (lowest_zero t room).first in
      let f = h.first in
      omega arith

  -- a row that is filled is another one
  pub put_there : (new : Key) (now : ℕ) (t : List ℕ) → 0 < k.first → lowest_free t < 64 → StillThere k row then now t
      → StillThere k row then now (put_row t (lowest_free t) new now)
  put_there new now t used room (inl over) = inl over
  put_there new now t used room (inr h) =
      inr (same_holds t (put_row t (lowest_free t) new now) row (λ j l. put_other t (lowest_free t) new now row j (other_row t used room h) l) h)

  -- one key, or one row, only when the life is over
  pub one_key : (now : ℕ) (t : List ℕ) → row < 64 → StillThere k row then now t → is_known k t ≡ false → then + row_life k.first ≤ now
  one_key now t small (inl over) new = over
  one_key now t small (inr h) new = absurd (unknown k t row then new small h)

  pub one_row_lem : (now : ℕ) (t : List ℕ) → 0 < k.first → lowest_free t < 64 → StillThere k row then now t → row ≡ lowest_free t
      → then + row_life k.first ≤ now
  one_row_lem now t used room (inl over) e = over
  one_row_lem now t used room (inr h) e = absurd (other_row t used room h e)
