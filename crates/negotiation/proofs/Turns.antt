-- The last sentence of demand 3 (rules 13.3.5). An open state may still accept one Negotiate less than its count says,
-- and each accepted one lowers the count.
-- Assumes nothing.
use Rattle.reader.specs.Read.{Reading}
use mathlib.Core.Path.{◌≡◌, refl, sym, ap, ◌∙◌}
use mathlib.Core.List.{List, [], ◌∷◌}
use mathlib.Core.Bool.{Bool, true, false, true≢false}
use Prim.Native.Nat.{ℕ, ◌+◌, ◌-◌, ◌≤◌, zero-le}
use native.Mathlib.Nat.{le_trans}
use native.Mathlib.Omega.{arith}
use lib.Dec.{eqb}
use Rattle.base.specs.Pick.{pick}
use Rattle.base.specs.Lists.{Every, EachPair}
use Rattle.base.proofs.Lists.{every_imp}
use Rattle.message.specs.declared.Message.{Message}
use Rattle.message.specs.declared.Message.TheVariants as M
use Rattle.reader.specs.Read.{read_of}
use Rattle.message.specs.Fields.{kind_of, objective_of, count_in}
use Rattle.negotiation.specs.declared.Side.{Side}
use Rattle.negotiation.specs.declared.State.{State}
use Rattle.negotiation.specs.declared.State.TheVariants.{Fresh, Open, Closed}
use Rattle.std.specs.Prelude.{Ok, Err}
use Rattle.negotiation.specs.Step.{Stepped, step}
use Rattle.negotiation.specs.Allowed.{HasCount, Allowed}
use Rattle.negotiation.specs.Turns.{Sent, after, steps_of, is_moved, accepted_of, is_kind, negotiated, Opens, BoundedIn, Bounded}
use Rattle.negotiation.proofs.Accepted.{moved_exactly}

-- how many Negotiates a state that isn't fresh may still accept
left : State → ℕ
left Fresh = 0
left (Open session count turn) = count - 1
left Closed = 0

is_fresh : State → Bool
is_fresh Fresh = true
is_fresh (Open session count turn) = false
is_fresh Closed = false

-- ---- what was read of some bytes is read of them again
message_in : Reading → Message
message_in (Err refusal) = M.Noop
message_in (Ok m) = m

message_once : {r : Reading} {m m' : Message} → r ≡ Ok m → r ≡ Ok m' → m ≡ m'
unfolding message_in
message_once e f = ap message_in (sym e ∙ f)

count_once : {m m' : Message} {count count' : ℕ} → m ≡ m' → HasCount m count → HasCount m' count' → count ≡ count'
unfolding count_in
count_once e c c' = sym c.is ∙ ap count_in (sym c.has ∙ ap objective_of e ∙ c'.has) ∙ c'.is

-- ---- one step
-- what it adds to the accepted messages
adds : List ℕ → Stepped → List (List ℕ) → List (List ℕ)
adds bytes answer rest = pick (is_moved answer) (bytes ∷ rest) rest

-- a message that is no Request opens nothing
other_opens : {bytes : List ℕ} {m : Message} {kind c : ℕ} → read_of bytes ≡ Ok m → kind_of m ≡ kind → (kind ≡ 3 → ⊥) → Opens bytes c → ⊥
other_opens read is other o = other (sym is ∙ ap kind_of (message_once read o.read) ∙ o.request)

-- whether a message that was read is a Negotiate
negotiates : (bytes : List ℕ) {m : Message} {kind : ℕ} → read_of bytes ≡ Ok m → kind_of m ≡ kind → is_kind 5 (read_of bytes) ≡ eqb kind 5
unfolding is_kind
negotiates bytes read is = rw (read, is)

-- what is accepted from a state that isn't fresh: no more Negotiates than it has left, and nothing that opens
record Goes (state : State) (accepted : List (List ℕ)) : Type 0 where
  most : negotiated accepted ≤ left state
  none : Every (λ bytes. (c : ℕ) → Opens bytes c → ⊥) accepted

allowed_goes : {sender : Side} {m : Message} {state next : State} (bytes : List ℕ) (rest : List (List ℕ)) → read_of bytes ≡ Ok m
    → is_fresh state ≡ false → Allowed sender m state next → (is_fresh next ≡ false → Goes next rest) → Goes state (bytes ∷ rest)
unfolding is_fresh left negotiated pick
allowed_goes bytes rest read old (Allowed.request n c least) go = absurd (true≢false old)
allowed_goes bytes rest read old (Allowed.negotiate n c least lower) go =
    let h = go refl in
    record {
      most = rw (negotiates bytes read n.of_kind) (omega (arith, h.most));
      none = (λ c. other_opens read n.of_kind (λ e. omega arith), h.none);
    }
allowed_goes bytes rest read old (Allowed.wait n some) go =
    let h = go refl in
    record { most = rw (negotiates bytes read n.of_kind) h.most; none = (λ c. other_opens read n.of_kind (λ e. omega arith), h.none) }
allowed_goes bytes rest read old (Allowed.end n some) go =
    let h = go refl in
    record {
      most = rw (negotiates bytes read n.of_kind) (le_trans h.most zero-le);
      none = (λ c. other_opens read n.of_kind (λ e. omega arith), h.none);
    }

-- ---- a list of steps
goes : (ms : List Sent) (state : State) → is_fresh state ≡ false → Goes state (accepted_of (steps_of state ms))
unfolding steps_of accepted_of negotiated adds is_moved pick after
goes [] state old = record { most = zero-le; none = tt }
goes (m ∷ ms) state old = by (step state m.bytes m.sender) refl (λ s. goes ms s)
  where
    by : (x : Stepped) → step state m.bytes m.sender ≡ x → ((s : State) → is_fresh s ≡ false → Goes s (accepted_of (steps_of s ms)))
        → Goes state (adds m.bytes x (accepted_of (steps_of (after state x) ms)))
    by (Err refusal) e rest = rest state old
    by (Ok next) e rest =
        let (is, read, allowed) = (moved_exactly state m.bytes m.sender next).0 e in
        allowed_goes m.bytes (accepted_of (steps_of next ms)) read old allowed (rest next)

-- where none opens a state, no two do
none_twice : (xs : List (List ℕ)) → Every (λ bytes. (c : ℕ) → Opens bytes c → ⊥) xs → EachPair (λ x y. (c d : ℕ) → Opens x c → Opens y d → ⊥) xs
none_twice [] h = tt
none_twice (x ∷ xs) (_, h) = (every_imp _ _ (λ y none c d _ o. none d o) xs h, none_twice xs h)

-- a Request opens a fresh state, and then the rest is bounded
opened_bounded : {sender : Side} {m : Message} {state next : State} (bytes : List ℕ) (ms : List Sent) → read_of bytes ≡ Ok m → state ≡ Fresh
    → Allowed sender m state next → BoundedIn (bytes ∷ accepted_of (steps_of next ms))
unfolding is_fresh left negotiated pick
opened_bounded {next = next} bytes ms read new (Allowed.request {session} {count} n c least) =
    let rest = accepted_of (steps_of next ms) in
    let h = goes ms next refl in
    let same : negotiated (bytes ∷ rest) ≡ negotiated rest = rw (negotiates bytes read n.of_kind) in
    let most : negotiated (bytes ∷ rest) + 1 ≤ count = omega (arith, h.most) in
    record {
      once = (every_imp _ _ (λ y none c d _ o. none d o) rest h.none, none_twice rest h.none);
      opened = (
        λ d o. rw (← count_once (message_once read o.read) c o.counts) most,
        every_imp _ _ (λ x none d o. absurd (none d o)) rest h.none,
      );
      unopened = λ none. absurd (none.0 count (record { m = _; read = read; request = n.of_kind; counts = c }));
    }
opened_bounded bytes ms read new (Allowed.negotiate n c least lower) = absurd (true≢false (sym (ap is_fresh new)))
opened_bounded bytes ms read new (Allowed.wait n some) = absurd (true≢false (sym (ap is_fresh new)))
opened_bounded bytes ms read new (Allowed.end n some) = absurd (true≢false (sym (ap is_fresh new)))

-- for readers

-- For every list of steps on one negotiation state, fresh at first: once a Request opened it at count c, at most c - 1
-- Negotiates are accepted.
pub negotiation_bounded : (messages : List Sent) → Bounded messages
unfolding steps_of accepted_of negotiated adds is_moved pick after
negotiation_bounded [] = record { once = tt; opened = tt; unopened = λ _. refl }
negotiation_bounded (m ∷ ms) = by (step Fresh m.bytes m.sender) refl (negotiation_bounded ms)
  where
    by : (x : Stepped) → step Fresh m.bytes m.sender ≡ x → Bounded ms → BoundedIn (adds m.bytes x (accepted_of (steps_of (after Fresh x) ms)))
    by (Err refusal) e rest = rest
    by (Ok next) e rest = let (is, read, allowed) = (moved_exactly Fresh m.bytes m.sender next).0 e in opened_bounded m.bytes ms read refl allowed
