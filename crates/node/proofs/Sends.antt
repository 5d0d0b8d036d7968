-- What a node sends: the message with its count one lower, and the Response of an answer; both fit an output of 2,048
-- bytes.
-- Assumes nothing.
use mathlib.Core.Path.{◌≡◌, refl, ap, ◌∙◌}
use mathlib.Core.Logic.{◌⊎◌, inl, inr}
use mathlib.Core.List.{List}
use Prim.Native.Nat.{ℕ, ◌+◌, ◌-◌, ◌≤◌}
use native.Mathlib.Omega.{arith}
use lib.ListN.{length, take, drop, length-drop}
use lib.Seq.{length-take-le}
use borrow.Author.Tests.{le-ltb}
use Rattle.options.specs.Text.{held}
use Rattle.base.specs.Pick.{pick}
use Rattle.options.specs.declared.Span.{Span}
use Rattle.rfc8990.specs.Limits.{most_bytes}
use Rattle.std.specs.Prelude.{Ok}
use Rattle.writer.specs.Write.{hand_answer, hand_out, passes, pass_answer, pass_out, lower_answer, lower_out, answer_of, answer_answer, answer_out}
use Rattle.writer.proofs.Lengths.{initiator_sized, sized_few, answer_few}
use Rattle.writer.proofs.Onward.{lowered_shorter, lowered_given}
use Rattle.node_state.specs.declared.Record.{Record}
use Rattle.node.specs.declared.role.Spread.{Spread}
use Rattle.node.specs.declared.role.Role.{Role}
use Rattle.node_state.specs.declared.key.Key.{Key}
use Rattle.node_state.specs.Key.{key_for}
use Rattle.node_state.proofs.Keys.{key_sized}
use Rattle.node.specs.Role.{RoleIn, Within, key_in}
use Rattle.cbor.specs.Put.{written}
use Rattle.writer.specs.Lower.{onward}
use Rattle.node.specs.Call.{response}
use Rattle.node.proofs.Spreads.{role_spreading, read_most}

-- ---- a relay

pub onward_given : (message out : List ℕ) (s : Spread) → RoleIn message (Role.Spreads s) → 1 ≤ s.objective.count → most_bytes ≤ length out
    → (lower_answer message s.objective.count_at s.objective.value.at s.objective.count out
    ≡ Ok (length (onward message s.objective)))
    × (lower_out message s.objective.count_at s.objective.value.at s.objective.count out ≡ written (onward message s.objective) out)
onward_given message out s r some room =
    let lowers = (role_spreading message s r).lowers in
    let shorter = lowered_shorter message r.is s.objective r.read lowers in
    lowered_given message r.is s.objective out r.read lowers some (omega (arith, read_most message (Role.Spreads s) r))

-- ---- an answer

-- bytes in a message
held_length : (s : List ℕ) (i : Span) → i.at + i.len ≤ length s → length (held s i) ≡ i.len
held_length s i h = length-take-le i.len (drop i.at s) (omega (arith, length-drop i.at s))

-- an initiator has 4 or 16 bytes
pub held_sized : {message : List ℕ} {s : Spread} → Within message s → (length (held message s.initiator) ≡ 4) ⊎ (length (held message s.initiator) ≡ 16)
held_sized {message = message} {s = s} w =
    let long = held_length message s.initiator w.initiator in
    elim w.bytes [ inl four ↦ inl (long ∙ four) | inr sixteen ↦ inr (long ∙ sixteen) ]

pub response_given : (r : Record) (message out : List ℕ) (s : Spread) → length r.address ≡ 16
    → (length (held message s.initiator) ≡ 4) ⊎ (length (held message s.initiator) ≡ 16)
    → most_bytes ≤ length out
    → (answer_answer s.session (held message s.initiator) r.ttl r.address r.port out ≡ Ok (length (response r message s)))
    × (answer_out s.session (held message s.initiator) r.ttl r.address r.port out ≡ written (response r message s) out)
unfolding response answer_answer answer_out pass_answer pass_out passes hand_answer hand_out pick
response_given r message out s sixteen sized room =
    let bytes : List ℕ = answer_of s.session (held message s.initiator) r.ttl r.address r.port in
    let most : length bytes ≤ most_bytes =
    answer_few s.session (held message s.initiator) r.ttl r.address r.port (sized_few sized) (omega arith) in
    let fits : length bytes ≤ length out = omega arith in
    rw ((initiator_sized (held message s.initiator)).1 sized, le-ltb most_bytes (length bytes) most, le-ltb (length out) (length bytes) fits) (refl, refl)

-- ---- a part of a message

-- `&message[at..at + len]`
pub part_held : (s : List ℕ) (i : Span) → take (i.at + i.len - i.at) (drop i.at s) ≡ held s i
part_held s i = let e : i.at + i.len - i.at ≡ i.len = omega arith in ap (λ (n : ℕ). take n (drop i.at s)) e

-- so the key of that part is the key of s
pub key_held : {message : List ℕ} {s : Spread} (k : Key) → Within message s
    → k ≡ key_for s.flood s.session (take (s.initiator.at + s.initiator.len - s.initiator.at) (drop s.initiator.at message))
    → k ≡ key_in message s
unfolding key_in
key_held {message = message} {s = s} k w e =
    e ∙ ap (key_for s.flood s.session) (part_held message s.initiator) ∙ key_sized s.flood s.session (held message s.initiator) (held_sized w)
