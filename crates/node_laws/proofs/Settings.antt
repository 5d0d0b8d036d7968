-- A fresh record and the setting of links are answered as rules 6.3, 6.5 and 6.6 say. For readers: each statement
-- stands alone.
-- Assumes nothing.
use mathlib.Core.Path.{◌≡◌, refl, ap, subst}
use mathlib.Core.Logic.{◌↔◌}
use mathlib.Core.Bool.{Bool, true, or-false}
use mathlib.Core.List.{List}
use Prim.Native.Nat.{ℕ, ◌^◌}
use lib.Dec.{leb}
use Rattle.base.specs.Pick.{pick}
use Rattle.base.proofs.Picks.{pick-case}
use Rattle.node_state.specs.declared.Record.{Record}
use Rattle.std.specs.Prelude.{Result, Err}
use Rattle.std.specs.Result.{result_unwrap_or}
use Rattle.refusal.specs.declared.Refusal.{Refusal}
use Rattle.node_state.specs.Record.{links_bad, record_bad, begun, blank, fresh, fresh_or_blank, set_links, links_set}
use Rattle.node_laws.specs.Bars.{BadRecord}
use Rattle.node_laws.specs.Settings.{FreshIs, LinksSet}
use Rattle.node_laws.proofs.Bars.{mask_test, record_test}
use Rattle.node_laws.proofs.Lives.{fails, failing}

-- the test of a fresh record, whose tally is 0
begun_test : (address : List ℕ) (port ttl interfaces mask : ℕ) → links_bad interfaces mask ≡ true ↔ BadRecord (begun address port ttl interfaces mask)
unfolding record_bad
begun_test address port ttl interfaces mask =
    let made = begun address port ttl interfaces mask in
    subst (λ (bad : Bool). bad ≡ true ↔ BadRecord made) (or-false (links_bad interfaces mask)) (record_test made)

-- what is answered
fresh_is : (address : List ℕ) (port ttl interfaces mask : ℕ) → FreshIs address port ttl interfaces mask (fresh address port ttl interfaces mask)
unfolding fresh
fresh_is address port ttl interfaces mask =
    let test = begun_test address port ttl interfaces mask in
    pick-case (FreshIs address port ttl interfaces mask) (links_bad interfaces mask) (λ e. FreshIs.refused (test.0 e)) (λ e. FreshIs.made (fails test e))

set_is : (r : Record) (mask : ℕ) → LinksSet r mask (set_links r mask)
unfolding set_links
set_is r mask =
    pick-case (LinksSet r mask) (record_bad r) (λ e. LinksSet.bad_record ((record_test r).0 e))
    (λ e. pick-case (LinksSet r mask) (leb (2 ^ r.interfaces) mask) (λ t. LinksSet.bad_mask (fails (record_test r) e) ((mask_test r.interfaces mask).0 t))
    (λ t. LinksSet.set (fails (record_test r) e) (fails (mask_test r.interfaces mask) t)))

-- and nothing else
fresh_once : {address : List ℕ} {port ttl interfaces mask : ℕ} {k : Result Record Refusal} → FreshIs address port ttl interfaces mask k
    → fresh address port ttl interfaces mask ≡ k
unfolding fresh pick
fresh_once {address} {port} {ttl} {interfaces} {mask} (FreshIs.refused b) = rw ((begun_test address port ttl interfaces mask).1 b) refl
fresh_once {address} {port} {ttl} {interfaces} {mask} (FreshIs.made good) = rw (failing (begun_test address port ttl interfaces mask) good) refl

set_once : {r : Record} {mask : ℕ} {k : Result Record Refusal} → LinksSet r mask k → set_links r mask ≡ k
unfolding set_links pick
set_once {r} (LinksSet.bad_record b) = rw ((record_test r).1 b) refl
set_once {r} {mask} (LinksSet.bad_mask good high) = rw (failing (record_test r) good, (mask_test r.interfaces mask).1 high) refl
set_once {r} {mask} (LinksSet.set good low) = rw (failing (record_test r) good, failing (mask_test r.interfaces mask) low) refl

-- for readers

-- A fresh record is given, or refused, exactly as rules 6.3 says.
pub fresh_exactly : (address : List ℕ) (port ttl interfaces mask : ℕ) (k : Result Record Refusal) → fresh address port ttl interfaces mask ≡ k
    ↔ FreshIs address port ttl interfaces mask k
fresh_exactly address port ttl interfaces mask k =
    (λ e. subst (FreshIs address port ttl interfaces mask) e (fresh_is address port ttl interfaces mask), fresh_once)

-- Where it is refused, the blank one, all zeros, is what `fresh_or_blank` gives.
pub refused_blank : (address : List ℕ) (port ttl interfaces mask : ℕ) → BadRecord (begun address port ttl interfaces mask)
    → fresh_or_blank address port ttl interfaces mask ≡ blank
refused_blank address port ttl interfaces mask bad = ap (λ (k : Result Record Refusal). result_unwrap_or k blank) (fresh_once (FreshIs.refused bad))

-- Links are set, or the setting is refused, exactly as rules 6.5 and 6.6 say.
pub set_exactly : (r : Record) (mask : ℕ) (k : Result Record Refusal) → set_links r mask ≡ k ↔ LinksSet r mask k
set_exactly r mask k = (λ e. subst (LinksSet r mask) e (set_is r mask), set_once)

-- Where it is refused, the record stays as it was.
pub refused_kept : (r : Record) (mask : ℕ) {refusal : Refusal} → set_links r mask ≡ Err refusal → links_set r mask ≡ r
refused_kept r mask e = ap (λ (k : Result Record Refusal). result_unwrap_or k r) e
