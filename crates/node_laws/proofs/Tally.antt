-- The tally never wraps (rules 6.8): a call adds at most 7, and a record with more than 2^63 is refused.
-- Assumes nothing.
use mathlib.Core.Path.{◌≡◌, ap}
use mathlib.Core.List.{List, [], ◌∷◌}
use Prim.Native.Nat.{ℕ, ◌+◌, ◌-◌, ◌^◌, ◌≤◌, ◌<◌}
use native.Mathlib.Nat.{le_refl}
use native.Mathlib.Omega.{arith}
use lib.Count.{ones}
use Rattle.node_state.specs.declared.Record.{Record}
use Rattle.node_state.specs.Record.{others, clocked, tallied, links_set}
use Rattle.node.specs.Call.{Call, After, relayed, node_call}
use Rattle.node_laws.specs.History.{Event, call, links, finally}
use Rattle.node_state.proofs.Masks.{record_links, record_tally, others_fewer}
use Rattle.node_laws.proofs.Calls.{View, stayed, ended, went, view, links_keep}

-- what a call adds, and that it adds nothing to a tally above 2^63
added : (r : Record) (t : List ℕ) (c : Call) (b : After) (most : ℕ) → 2 ^ 63 + 7 ≤ most → View r t c b
    → (b.node.tally ≤ r.tally + 7) × (r.tally ≤ most → b.node.tally ≤ most)
unfolding clocked relayed tallied others
added r t c b most room (stayed nb tb e) = let same = ap (λ (n : Record). n.tally) nb in (omega arith, λ h. omega arith)
added r t c b most room (ended p nb tb e) = let same = ap (λ (n : Record). n.tally) nb in (omega arith, λ h. omega arith)
added r t c b most room (went s k e) =
    let same : b.node.tally ≡ r.tally + ones (r.links - 2 ^ c.interface) = ap (λ (z : After). z.node.tally) e in
    let few : ones (r.links - 2 ^ c.interface) < r.interfaces = others_fewer r c.interface k.passes.good in
    let eight : r.interfaces ≤ 8 = (record_links r k.passes.good).most in
    let less : r.tally ≤ 2 ^ 63 = record_tally r k.passes.good in
    (omega arith, λ h. omega arith)

stays : (most : ℕ) → 2 ^ 63 + 7 ≤ most → (events : List Event) (r : Record) (t : List ℕ) → r.tally ≤ most → (finally r t events).tally ≤ most
unfolding finally
stays most room [] r t h = h
stays most room (call c ∷ es) r t h =
    stays most room es (node_call r t c).node (node_call r t c).table ((added r t c (node_call r t c) most room (view r t c)).1 h)
stays most room (links mask ∷ es) r t h = stays most room es (links_set r mask) t (rw (links_keep r mask).tally h)

-- for readers

-- A node call adds at most 7 to the tally.
pub call_adds : (r : Record) (t : List ℕ) (c : Call) → (node_call r t c).node.tally ≤ r.tally + 7
call_adds r t c = (added r t c (node_call r t c) (2 ^ 63 + 7) (le_refl (2 ^ 63 + 7)) (view r t c)).0

-- Whatever is called, a tally of 64 bits stays one; and one of at most 2^63 + 7, as a fresh record's is, stays so.
pub never_wraps : (events : List Event) (r : Record) (t : List ℕ)
    → (r.tally < 2 ^ 64 → (finally r t events).tally < 2 ^ 64) × (r.tally ≤ 2 ^ 63 + 7 → (finally r t events).tally ≤ 2 ^ 63 + 7)
never_wraps events r t = (
  λ h. let most = stays (2 ^ 64 - 1) (omega arith) events r t (omega arith) in omega arith,
  stays (2 ^ 63 + 7) (le_refl (2 ^ 63 + 7)) events r t,
)
