-- A message that is relayed isn't longer than it was, and `lower` gives it.
-- Assumes nothing.
use mathlib.Core.Path.{◌≡◌, subst}
use mathlib.Core.Logic.{◌⊎◌, inl, inr}
use mathlib.Core.List.{List}
use Prim.Native.Nat.{ℕ, ◌+◌, ◌-◌, ◌≤◌}
use native.Mathlib.Omega.{arith}
use lib.ListN.{length, take, length-append, length-drop}
use borrow.Author.Tests.{ne_eqb, le-ltb}
use lib.Seq.{length-take-le}
use Rattle.std.specs.Prelude.{Some}
use Rattle.base.specs.Pick.{pick}
use Rattle.cbor.specs.Put.{head, written}
use Rattle.cbor.specs.Tree.{shortest}
use Rattle.cbor.proofs.HeadExact.{length_head, shortest_case}
use Rattle.options.specs.declared.objective.Objective.{Objective}
use Rattle.options.proofs.Fits.{ObjectiveParts}
use Rattle.rfc8990.specs.Limits.{most_bytes}
use Rattle.message.specs.declared.Message.{Message}
use Rattle.message.specs.declared.Message.TheVariants as M
use Rattle.message.specs.Fields.{kind_of, objective_of}
use Rattle.message.proofs.Parts.{MessageParts}
use Rattle.reader.specs.Read.{read_of}
use Rattle.reader.proofs.ReadParts.{read_parts}
use Rattle.std.specs.Prelude.{Ok}
use Rattle.writer.specs.Write.{lowered, passes, pass_answer, pass_out, ok_lower, lower_answer, lower_out}
use Rattle.writer.specs.Lower.{Lowers, onward}
use Rattle.writer.proofs.HandedOver.{handed}

-- the objective's parts lie in the message
pub lowers_parts : (s : List ℕ) {m : Message} {o : Objective} → Lowers m o → MessageParts s m → ObjectiveParts (length s) o
lowers_parts s Lowers.discovery h = h.1
lowers_parts s Lowers.flood h = h.1

-- the new head isn't longer, so the bytes are no more
pub shorter : (s : List ℕ) (o : Objective) → ObjectiveParts (length s) o → length (onward s o) ≤ length s
unfolding lowered head
shorter s o h =
    let n : ℕ = o.count - 1 in
    let few : o.count_at + (1 + shortest n) ≤ o.value.at =
    shortest_case (λ w. o.count_at + (1 + w) ≤ o.value.at) n (λ _. omega (arith, h.some)) (λ l _. omega (arith, h.wide (omega arith)))
    (λ l _. absurd (omega (arith, h.limit))) (λ l _. absurd (omega (arith, h.limit))) (λ l. absurd (omega (arith, h.limit))) in
    let front : length (take o.count_at s) ≡ o.count_at = length-take-le o.count_at s (omega (arith, h.some, h.counted)) in
    simp length-append (omega (arith, front, length_head 0 (shortest n) n, length-drop o.value.at s, h.counted))

-- a number that is neither
neither : {n : ℕ} → (n ≡ 1) ⊎ (n ≡ 9) → (n ≡ 1 → ⊥) → (n ≡ 9 → ⊥) → ⊥
neither (inl e) f g = f e
neither (inr e) f g = g e

-- for readers

-- The objective whose count a relay lowers, by the fields of what was read.
pub lowers_by : (m : Message) (o : Objective) → (kind_of m ≡ 1) ⊎ (kind_of m ≡ 9) → objective_of m ≡ Some o → Lowers m o
unfolding objective_of
lowers_by (M.Discovery session i o') o k e = let same : o' ≡ o = cc in subst (Lowers (M.Discovery session i o')) same Lowers.discovery
lowers_by (M.Flood session i ttl first series) o k e = let same : first.objective ≡ o = cc in
    subst (Lowers (M.Flood session i ttl first series)) same Lowers.flood
lowers_by M.Noop o k e = absurd (neither k (λ e. omega arith) (λ e. omega arith))
lowers_by (M.Response session i ttl targets extra) o k e = absurd (neither k (λ e. omega arith) (λ e. omega arith))
lowers_by (M.RequestNegotiation session objective) o k e = absurd (neither k (λ e. omega arith) (λ e. omega arith))
lowers_by (M.RequestSynchronization session objective) o k e = absurd (neither k (λ e. omega arith) (λ e. omega arith))
lowers_by (M.Negotiate session objective) o k e = absurd (neither k (λ e. omega arith) (λ e. omega arith))
lowers_by (M.End session outcome) o k e = absurd (neither k (λ e. omega arith) (λ e. omega arith))
lowers_by (M.Wait session time) o k e = absurd (neither k (λ e. omega arith) (λ e. omega arith))
lowers_by (M.Synch session objective) o k e = absurd (neither k (λ e. omega arith) (λ e. omega arith))
lowers_by (M.Invalid session item) o k e = absurd (neither k (λ e. omega arith) (λ e. omega arith))

-- A Discovery or a Flood with its count's head replaced by the shortest of one less isn't longer.
pub lowered_shorter : (s : List ℕ) (m : Message) (o : Objective) → read_of s ≡ Ok m → Lowers m o → length (onward s o) ≤ length s
lowered_shorter s m o q low = shorter s o (lowers_parts s low (read_parts s m q).1)

-- So `lower` gives it, where the count is above 0 and the output has room for it.
pub lowered_given : (s : List ℕ) (m : Message) (o : Objective) (out : List ℕ) → read_of s ≡ Ok m → Lowers m o → 1 ≤ o.count
    → length (onward s o) ≤ length out
    → (lower_answer s o.count_at o.value.at o.count out ≡ Ok (length (onward s o)))
    × (lower_out s o.count_at o.value.at o.count out ≡ written (onward s o) out)
unfolding lower_answer lower_out ok_lower pass_answer pass_out passes pick
lowered_given s m o out q low some room =
    let (most, parts) = read_parts s m q in
    let h = lowers_parts s low parts in
    let less : length (onward s o) ≤ length s = shorter s o h in
    let few : length (onward s o) ≤ most_bytes = omega arith in
    let within : o.count_at ≤ o.value.at = omega (arith, h.some) in
    rw (
      ne_eqb o.count 0 (λ e. omega arith),
      le-ltb o.value.at o.count_at within,
      le-ltb (length s) o.value.at h.counted,
      le-ltb most_bytes (length (onward s o)) few,
    )
    (handed (onward s o) out room)
