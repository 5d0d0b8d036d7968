-- Demand 3 for a whole list of node calls and link settings: each relay that is younger than its row's life has a row
-- of its own, with its key and its clock.
-- Assumes nothing.
use mathlib.Core.Path.{◌≡◌, refl, sym, ap, ◌∙◌, subst}
use mathlib.Core.Logic.{◌≢◌, inr}
use mathlib.Core.Bool.{Bool, true, false}
use mathlib.Core.List.{List, [], ◌∷◌, map, Sublistᴰ}
use Prim.Native.Nat.{ℕ, ◌+◌, ◌-◌, ◌*◌, ◌^◌, ◌≤◌, ◌<◌, zero-le}
use native.Mathlib.Nat.{le_trans, mul-le-mul_right}
use native.Mathlib.Omega.{arith}
use lib.Count.{ones}
use lib.ListN.{length, take, drop, length-map}
use lib.Seq.{take-append_seam}
use lib.Pow.{pow_mono}
use Rattle.options.specs.Text.{held}
use Rattle.base.specs.Pick.{pick}
use Rattle.base.specs.Lists.{Every, EachPair, Distinct}
use Rattle.base.specs.Bits.{has_bit}
use Rattle.base.proofs.Picks.{both}
use Rattle.base.proofs.Bools.{not_both}
use Rattle.base.proofs.Lists.{every_imp, every_chosen, pairs_chosen}
use Rattle.base.proofs.Pigeonhole.{pigeonhole}
use Rattle.negotiation.proofs.Turns.{negotiation_bounded}
use Rattle.node_state.specs.declared.Record.{Record}
use Rattle.std.specs.Prelude.{Result}
use Rattle.refusal.specs.declared.Refusal.{Refusal}
use Rattle.std.specs.Result.{result_unwrap_or}
use Rattle.node.specs.declared.role.Spread.{Spread}
use Rattle.node_state.specs.Record.{blank, fresh, fresh_or_blank, others, clocked, tallied, links_set}
use Rattle.node_state.specs.Table.{fresh_table, row_life, freed, lowest_free, is_known}
use Rattle.node.specs.Role.{key_in}
use Rattle.writer.specs.Lower.{onward}
use Rattle.node.specs.Call.{Call, After, relayed, node_call}
use Rattle.node.specs.Passed.{Passed}
use Rattle.node_laws.specs.Relays.{Told, told, interfaces_in, Seen, copies_of, SameKey, apart_by, Apart, GoesOut, Near, Few}
use Rattle.node_laws.specs.History.{Event, call, links, Step, steps, finally, is_relay, says_relay, mask_of, length_of, seen, relays_of, WholeList}
use Rattle.node_laws.specs.Demand.{Demand3}
use Rattle.node_state.proofs.Masks.{record_links, up_below, taken_down, others_fewer}
use Rattle.node_state.proofs.TableRows.{put_holds, length_free, life_least, table_sized}
use Rattle.node_state.proofs.Keys.{flag_same, key_life, key_used}
use Rattle.node.proofs.Outcomes.{arrival_up}
use Rattle.node.proofs.Spreads.{role_spreading}
use Rattle.node_laws.proofs.Told.{spread_told, told_spread, onward_count}
use Rattle.node_laws.proofs.Copies.{interfaces_up, interfaces_distinct, length_interfaces}
use Rattle.node_laws.proofs.Calls.{Relays, View, stayed, ended, went, view, links_keep, StillThere, freed_there, there_past, put_there, one_key, one_row_lem}

-- ---- what holds of the relays

-- the calls that are answered RELAY
relaying : List Step → List Step
relaying [] = []
relaying (x ∷ xs) = pick (says_relay x.after.answer) (x ∷ relaying xs) (relaying xs)

seen_relays : (xs : List Step) → relays_of xs ≡ map seen (relaying xs)
unfolding relays_of relaying pick
seen_relays [] = refl
seen_relays (x ∷ xs) = by (says_relay x.after.answer) (seen_relays xs)
  where
    by : (b : Bool) → relays_of xs ≡ map seen (relaying xs) → pick b (seen x ∷ relays_of xs) (relays_of xs) ≡ map seen (pick b (x ∷ relaying xs) (relaying xs))
    by true e = ap (λ (l : List Seen). seen x ∷ l) e
    by false e = e

-- the row that a relay filled
row_of : Step → ℕ
row_of x = lowest_free (freed x.call.clock x.table)

record Behind (x y : Step) : Type 0 where
  apart : Apart (seen x) (seen y)
  rows : row_of x ≡ row_of y → x.call.clock + 60000 ≤ y.call.clock

-- of one relay
record Sound (interfaces : ℕ) (x : Step) : Type 0 where
  out : GoesOut interfaces (seen x)
  row : row_of x < 64
  some_left : length (seen x).copies + 1 ≤ interfaces

-- what is known of a call that was answered RELAY
record Known (x : Step) (s : Spread) : Type 0 where
  facts : Relays x.node x.table x.call s
  is : x.after ≡ relayed (clocked x.node x.call.clock) (freed x.call.clock x.table) x.call s

abbrev step_of : Record → List ℕ → Call → After → Step
step_of r t c b = record { node = r; table = t; call = c; after = b }

row_used_lem : (x : Step) (s : Spread) → 0 < (key_in x.call.message s).first
unfolding key_in
row_used_lem x s = key_used s.flood s.session (held x.call.message s.initiator)

-- how long a row lives, as the demand has it
kind_life : (f : Bool) → apart_by (pick f 9 1) ≡ pick f 120000 60000
unfolding apart_by pick
kind_life true = refl
kind_life false = refl

module _ (x : Step) (s : Spread) (k : Known x s) where
  known_given : (seen x).given ≡ spread_told x.call.message s
  known_given = told_spread x.call.message s k.facts.role

  -- how long its row lives
  row_life_lem : row_life (key_in x.call.message s).first ≡ pick s.flood 120000 60000
  unfolding key_in
  row_life_lem = key_life s.flood s.session (held x.call.message s.initiator) (role_spreading x.call.message s k.facts.role).session

  known_apart : apart_by (seen x).given.kind ≡ row_life (key_in x.call.message s).first
  known_apart = ap (λ (g : Told). apart_by g.kind) known_given ∙ kind_life s.flood ∙ sym row_life_lem

-- one kind, session and initiator are one key
same_key : (x y : Step) (s s' : Spread) → Known x s → Known y s' → SameKey (seen x) (seen y) → key_in x.call.message s ≡ key_in y.call.message s'
unfolding key_in
same_key x y s s' kx ky same =
    let gx = known_given x s kx in
    let gy = known_given y s' ky in
    let floods : s.flood ≡ s'.flood =
    flag_same 9 1 (λ e. omega arith) s.flood s'.flood (sym (ap (λ (g : Told). g.kind) gx) ∙ same.kind ∙ ap (λ (g : Told). g.kind) gy) in
    let sessions : s.session ≡ s'.session = sym (ap (λ (g : Told). g.session) gx) ∙ same.session ∙ ap (λ (g : Told). g.session) gy in
    let initiators : held x.call.message s.initiator ≡ held y.call.message s'.initiator =
    sym (ap (λ (g : Told). g.initiator) gx) ∙ same.initiator ∙ ap (λ (g : Told). g.initiator) gy in
    rw (floods, sessions, initiators) refl

-- ---- a relay and those after it

abbrev There : Step → Spread → ℕ → List ℕ → Type 0
There x s now t = StillThere (key_in x.call.message s) (row_of x) x.call.clock now t

-- a row that was filled before a call, after it
there_on : (x : Step) (s : Spread) (r : Record) (t : List ℕ) (c : Call) (b : After) → View r t c b → There x s r.clock t
    → There x s b.node.clock b.table
unfolding clocked relayed tallied
there_on x s r t c b (stayed nb tb e) there = rw (nb, tb) there
there_on x s r t c b (ended p nb tb e) there =
    rw (nb, tb) (freed_there (key_in x.call.message s) (row_of x) x.call.clock r.clock c.clock t p.later there)
there_on x s r t c b (went s' f e) there =
    rw e
    (put_there (key_in x.call.message s) (row_of x) x.call.clock (key_in c.message s') c.clock (freed c.clock t) (row_used_lem x s) f.room
    (freed_there (key_in x.call.message s) (row_of x) x.call.clock r.clock c.clock t f.passes.later there))

known_behind : (x y : Step) (s s' : Spread) → Known x s → Known y s' → There x s y.call.clock (freed y.call.clock y.table) → Behind x y
unfolding row_of
known_behind x y s s' k ky there =
    let key = key_in x.call.message s in
    let t = freed y.call.clock y.table in
    record {
      apart = record {
        later = there_past key (row_of x) x.call.clock y.call.clock y.table ky.facts.passes.table there;
        one_key = λ same.
            let new : is_known key t ≡ false = rw (same_key x y s s' k ky same) ky.facts.new in
            rw (known_apart x s k) (one_key key (row_of x) x.call.clock y.call.clock t k.facts.room there new);
      };
      rows = λ e. omega (arith, life_least key.first, one_row_lem key (row_of x) x.call.clock y.call.clock t (row_used_lem x s) ky.facts.room there e);
    }

says_relay_lem : (r : Record) (t : List ℕ) (c : Call) (s : Spread) (b : After) → b ≡ relayed (clocked r c.clock) (freed c.clock t) c s
    → says_relay b.answer ≡ true
unfolding relayed says_relay is_relay
says_relay_lem r t c s b e = ap (λ (z : After). says_relay z.answer) e

-- a call's relay, in front of the later ones
listed : (r : Record) (t : List ℕ) (c : Call) (b : After) (P : List Step → Type 0) (rest : List Step) → View r t c b
    → P rest → ((s : Spread) → Known (step_of r t c b) s → P (step_of r t c b ∷ rest)) → P (pick (says_relay b.answer) (step_of r t c b ∷ rest) rest)
unfolding pick
listed r t c b P rest (stayed nb tb e) f g = rw e f
listed r t c b P rest (ended p nb tb e) f g = rw e f
listed r t c b P rest (went s k e) f g = rw (says_relay_lem r t c s b e) (g s (record { facts = k; is = e }))

future : (x : Step) (s : Spread) → Known x s → (es : List Event) → (r : Record) (t : List ℕ) → There x s r.clock t
    → Every (Behind x) (relaying (steps r t es))
unfolding steps relaying row_of
future x s k [] r t there = tt
future x s k (call c ∷ es) r t there =
    let b = node_call r t c in
    let rest = future x s k es b.node b.table (there_on x s r t c b (view r t c) there) in
    listed r t c b (Every (Behind x)) (relaying (steps b.node b.table es)) (view r t c) rest
    (λ s' k'. (
      known_behind x (step_of r t c b) s s' k k'
          (freed_there (key_in x.call.message s) (row_of x) x.call.clock r.clock c.clock t k'.facts.passes.later there),
      rest,
    ))
future x s k (links mask ∷ es) r t there = future x s k es (links_set r mask) t (rw (links_keep r mask).clock there)

-- a relay's own row, just filled
own_row : (r : Record) (t : List ℕ) (c : Call) (b : After) (s : Spread) → Known (step_of r t c b) s
    → There (step_of r t c b) s b.node.clock b.table
unfolding row_of relayed clocked tallied freed
own_row r t c b s k =
    let e = k.is in
    rw e (inr (put_holds (freed c.clock t) (lowest_free (freed c.clock t)) (key_in c.message s) c.clock
    (length_free c.clock t 64 ∙ table_sized c.clock t k.facts.passes.table) k.facts.room))

pairs : (es : List Event) → (r : Record) (t : List ℕ) → EachPair Behind (relaying (steps r t es))
unfolding steps relaying
pairs [] r t = tt
pairs (call c ∷ es) r t =
    let b = node_call r t c in
    let rest = pairs es b.node b.table in
    listed r t c b (EachPair Behind) (relaying (steps b.node b.table es)) (view r t c) rest
    (λ s k. (future (step_of r t c b) s k es b.node b.table (own_row r t c b s k), rest))
pairs (links mask ∷ es) r t = pairs es (links_set r mask) t

-- ---- one relay

interfaces_on : (r : Record) (t : List ℕ) (c : Call) (b : After) → View r t c b → b.node.interfaces ≡ r.interfaces
unfolding clocked relayed tallied
interfaces_on r t c b (stayed nb tb e) = ap (λ (n : Record). n.interfaces) nb
interfaces_on r t c b (ended p nb tb e) = ap (λ (n : Record). n.interfaces) nb
interfaces_on r t c b (went s f e) = ap (λ (z : After). z.node.interfaces) e

-- the links that a relay goes out by
outgoing : Step → ℕ
outgoing x = x.node.links - 2 ^ x.call.interface

-- one that was answered RELAY, whatever its message's elements are
went_copies : (x : Step) (s : Spread) → x.after ≡ relayed (clocked x.node x.call.clock) (freed x.call.clock x.table) x.call s
    → (seen x).copies ≡ interfaces_in 64 (outgoing x)
unfolding mask_of relayed others clocked outgoing
went_copies x s is = ap (λ (z : After). interfaces_in 64 (mask_of z.answer)) is

-- the copies of a call that passed its checks
module _ (x : Step) (passes : Passed x.node x.table x.call.clock x.call.interface (length x.call.output)) where
  small_mask : outgoing x < 2 ^ x.node.interfaces
  unfolding outgoing
  small_mask = let f = (record_links x.node passes.good).small in omega arith

  copies_differ : Every (λ j. j ≢ x.call.interface) (interfaces_in 64 (outgoing x))
  unfolding outgoing
  copies_differ =
      let up = arrival_up x.node x.call.interface passes.arrives in
      every_imp (λ j. (j < 64) × (has_bit (outgoing x) j ≡ true)) (λ j. j ≢ x.call.interface)
      (λ j h e. not_both (has_bit (outgoing x) x.call.interface) (subst (λ (z : ℕ). has_bit (outgoing x) z ≡ true) e h.1)
      (taken_down x.node.links x.call.interface up))
      (interfaces_in 64 (outgoing x)) (interfaces_up 64 (outgoing x))

  copies_below : Every (λ j. j < x.node.interfaces) (interfaces_in 64 (outgoing x))
  copies_below =
      every_imp (λ j. (j < 64) × (has_bit (outgoing x) j ≡ true)) (λ j. j < x.node.interfaces)
      (λ j h. up_below x.node.interfaces (outgoing x) j small_mask h.1)
      (interfaces_in 64 (outgoing x)) (interfaces_up 64 (outgoing x))

  copies_many : length (interfaces_in 64 (outgoing x)) ≡ ones (outgoing x)
  copies_many = length_interfaces 64 (outgoing x) (le_trans small_mask (pow_mono {j = 64} (omega (arith, (record_links x.node passes.good).most))))

  went_tally : (s : Spread) → x.after ≡ relayed (clocked x.node x.call.clock) (freed x.call.clock x.table) x.call s
      → x.after.node.tally ≡ x.node.tally + length (seen x).copies
  unfolding relayed tallied clocked others outgoing
  went_tally s is =
      ap (λ (z : After). z.node.tally) is ∙ ap (λ (z : ℕ). x.node.tally + z) (sym copies_many ∙ ap length (sym (went_copies x s is)))

module _ (x : Step) (s : Spread) (k : Known x s) where
  known_sent : (seen x).sent.count ≡ s.objective.count - 1
  unfolding length_of relayed
  known_sent =
      let bytes = onward x.call.message s.objective in
      ap (λ (z : After). (told (take (length_of z.answer) z.output)).count) k.is
      ∙ ap (λ (z : List ℕ). (told z).count) (take-append_seam bytes (drop (length bytes) x.call.output))
      ∙ onward_count x.call.message s k.facts.role

  known_sound : Sound x.node.interfaces x
  unfolding row_of others outgoing
  known_sound =
      let same = went_copies x s k.is in
      record {
        out = record {
          once = rw same (interfaces_distinct 64 (outgoing x));
          there = rw same (copies_below x k.facts.passes);
          onward = rw same (copies_differ x k.facts.passes);
          positive = rw known_sent (omega (arith, k.facts.counts));
          lower = rw (known_sent, known_given x s k) (omega (arith, k.facts.counts));
        };
        row = k.facts.room;
        some_left = rw (same, copies_many x k.facts.passes) (omega (arith, others_fewer x.node x.call.interface k.facts.passes.good));
      }

sound : (n : ℕ) (es : List Event) → (r : Record) (t : List ℕ) → r.interfaces ≡ n → Every (Sound n) (relaying (steps r t es))
unfolding steps relaying
sound n [] r t e = tt
sound n (call c ∷ es) r t e =
    let b = node_call r t c in
    let rest = sound n es b.node b.table (interfaces_on r t c b (view r t c) ∙ e) in
    listed r t c b (Every (Sound n)) (relaying (steps b.node b.table es)) (view r t c) rest
    (λ s k. (subst (λ (z : ℕ). Sound z (step_of r t c b)) e (known_sound (step_of r t c b) s k), rest))
sound n (links mask ∷ es) r t e = sound n es (links_set r mask) t ((links_keep r mask).interfaces ∙ e)

-- ---- the tally

tally_on : (r : Record) (t : List ℕ) (c : Call) (b : After) (rest : List Seen) → View r t c b
    → b.node.tally + copies_of rest ≡ r.tally + copies_of (pick (says_relay b.answer) (seen (step_of r t c b) ∷ rest) rest)
unfolding pick clocked copies_of
tally_on r t c b rest (stayed nb tb e) = rw (e, nb) refl
tally_on r t c b rest (ended p nb tb e) = rw (e, nb) refl
tally_on r t c b rest (went s k e) = rw (says_relay_lem r t c s b e) (omega (arith, went_tally (step_of r t c b) k.passes s e))

total : (es : List Event) (r : Record) (t : List ℕ) → (finally r t es).tally ≡ r.tally + copies_of (relays_of (steps r t es))
unfolding steps relays_of finally copies_of
total [] r t = omega arith
total (call c ∷ es) r t =
    let b = node_call r t c in
    total es b.node b.table ∙ tally_on r t c b (relays_of (steps b.node b.table es)) (view r t c)
total (links mask ∷ es) r t =
    total es (links_set r mask) t ∙ ap (λ (z : ℕ). z + copies_of (relays_of (steps (links_set r mask) t es))) (links_keep r mask).tally

-- ---- relays that are near one another

other_rows : (x : Step) (l : List Step) → Every (Behind x) l → Every (Near (seen x)) (map seen l) → Every (λ i. row_of x ≢ i) (map row_of l)
other_rows x [] h near = tt
other_rows x (y ∷ ys) h near = (
  λ e. let far = h.0.rows e in let close = near.0 in omega arith,
  other_rows x ys h.1 near.1,
)

distinct_rows : (l : List Step) → EachPair Behind l → EachPair Near (map seen l) → Distinct (map row_of l)
distinct_rows [] h near = tt
distinct_rows (x ∷ xs) h near = (other_rows x xs h.0 near.0, distinct_rows xs h.1 near.1)

rows_below : (n : ℕ) (l : List Step) → Every (Sound n) l → Every (λ i. i < 64) (map row_of l)
rows_below n [] h = tt
rows_below n (x ∷ xs) h = (h.0.row, rows_below n xs h.1)

copies_few : (n : ℕ) (l : List Step) → Every (Sound n) l → copies_of (map seen l) ≤ length l * (n - 1)
unfolding copies_of
copies_few n [] h = zero-le
copies_few n (x ∷ xs) h =
    let rest = copies_few n xs h.1 in
    let one = h.0.some_left in
    let sum : length (x ∷ xs) * (n - 1) ≡ (n - 1) + length xs * (n - 1) = omega arith in
    omega arith

few_of : (n : ℕ) (l : List Step) → Every (Sound n) l → EachPair Behind l → EachPair Near (map seen l) → Few n (map seen l)
few_of n l h p near =
    let most : length l ≤ 64 = rw (length-map l row_of) at (pigeonhole 64 (map row_of l) (distinct_rows l p near) (rows_below n l h)) in
    record { relays = rw (length-map l seen) most; copies = le_trans (copies_few n l h) (mul-le-mul_right (n - 1) most) }

-- what holds of what is seen of each, and of each two
every_seen : (P : Seen → Type 0) (l : List Step) → Every (λ x. P (seen x)) l → Every P (map seen l)
every_seen P [] h = tt
every_seen P (x ∷ xs) h = (h.0, every_seen P xs h.1)

pairs_seen : (l : List Step) → EachPair Behind l → EachPair Apart (map seen l)
pairs_seen [] h = tt
pairs_seen (x ∷ xs) h =
    (every_seen (Apart (seen x)) xs (every_imp (Behind x) (λ y. Apart (seen x) (seen y)) (λ y b. b.apart) xs h.0), pairs_seen xs h.1)

-- those that are chosen of what is seen are what is seen of some that are chosen
chosen_seen : (P : List Seen → Type 0) {chosen : List Seen} (l : List Step) → Sublistᴰ chosen (map seen l)
    → ((xs : List Step) → Sublistᴰ xs l → P (map seen xs)) → P chosen
chosen_seen P [] Sublistᴰ.slnil f = f [] Sublistᴰ.slnil
chosen_seen P (x ∷ xs) (Sublistᴰ.cons s) f = chosen_seen P xs s (λ ys t. f ys (Sublistᴰ.cons t))
chosen_seen P (x ∷ xs) (Sublistᴰ.cons-cons {l₁ = l₁} e s) f =
    subst (λ (z : Seen). P (z ∷ l₁)) (sym e) (chosen_seen (λ l. P (seen x ∷ l)) xs s (λ ys t. f (x ∷ ys) (Sublistᴰ.cons-cons refl t)))

-- a fresh record has tallied nothing
fresh_tally : (address : List ℕ) (port ttl interfaces mask : ℕ) → (fresh_or_blank address port ttl interfaces mask).tally ≡ 0
unfolding fresh
fresh_tally address port ttl interfaces mask = both (λ (k : Result Record Refusal). (result_unwrap_or k blank).tally ≡ 0) _ refl refl

-- for readers

-- Demand 3 for one list, from any table and a record that has tallied nothing.
pub whole : (r : Record) (t : List ℕ) (events : List Event) → r.tally ≡ 0 → WholeList r t events
whole r t events none =
    let l = relaying (steps r t events) in
    let same = seen_relays (steps r t events) in
    let p = pairs events r t in
    let h = sound r.interfaces events r t refl in
    record {
      apart = rw same (pairs_seen l p);
      each = rw same (every_seen (GoesOut r.interfaces) l (every_imp (Sound r.interfaces) (λ x. GoesOut r.interfaces (seen x)) (λ x b. b.out) l h));
      few = λ chosen sub.
          chosen_seen (λ c. EachPair Near c → Few r.interfaces c) l (rw same at sub)
          (λ xs s. few_of r.interfaces xs (every_chosen (Sound r.interfaces) s h) (pairs_chosen Behind s p));
      tally = total events r t ∙ ap (λ (z : ℕ). z + copies_of (relays_of (steps r t events))) none ∙ omega arith;
    }

-- Demand 3, entire.
pub demand3 : Demand3
demand3 = record {
  node = λ address port ttl interfaces mask events. whole (fresh_or_blank address port ttl interfaces mask) fresh_table events
      (fresh_tally address port ttl interfaces mask);
  negotiation = negotiation_bounded;
}
