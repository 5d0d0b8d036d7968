-- How the code's answers meet the definition of reading. A message that its parts make up is accepted by the walk,
-- which ends where they end: so what was read of its parts is the answer.
-- Assumes nothing.
use mathlib.Core.Path.{◌≡◌, refl, sym, ap, ◌∙◌}
use mathlib.Core.Logic.{◌≢◌}
use mathlib.Core.List.{List, [], ◌∷◌}
use mathlib.Core.Bool.{Bool, true, false}
use Prim.Native.Nat.{ℕ, ◌≤◌}
use native.Mathlib.Omega.{arith}
use lib.ListN.{length}
use lib.Dec.{ltb, eqb}
use borrow.Author.Tests.{eqb-true, eq-eqb, ne_eqb}
use Rattle.std.specs.Prelude.{Result, Ok, Err}
use Rattle.refusal.specs.declared.Refused.{Refused}
use Rattle.refusal.specs.declared.Refusal.{Refusal}
use Rattle.refusal.specs.declared.Refusal.TheVariants as R
use Rattle.refusal.specs.Refusal.{refused}
use Rattle.message.specs.declared.Examined.{Examined}
use Rattle.base.specs.Pick.{pick}
use Rattle.base.proofs.Picks.{pick-case, both}
use Rattle.cbor.specs.Head.{head_at}
use Rattle.cbor.specs.Token.{nothing_at, token_from, token_at, items_in}
use Rattle.cbor.specs.Item.{ItemRead, first_item}
use Rattle.message.specs.declared.Message.{Message}
use Rattle.rfc8990.specs.Limits.{most_bytes}
use Rattle.message.specs.Examined.{accepted_to, examined}
use Rattle.reader.specs.Read.{framed, read_placed, placeless, read_of}
use Rattle.rfc8990.specs.Refusals.{Fits}
use Rattle.message_laws.proofs.Walked.{parts_walked}
use Rattle.reader.proofs.Refused.{placed_fit}
use Rattle.reader.specs.Walk.{walked_by, walked_first}

-- no bytes are no message
examined_some : (s : List ℕ) {m : Message} {end : ℕ} → examined s ≡ accepted_to m end → length s ≢ 0
unfolding examined token_at token_from nothing_at items_in head_at pick
examined_some [] q = absurd (let z : ◌≡◌ {A = ℕ} 0 1 = cc in omega arith)
examined_some (x ∷ s) q = λ z. omega arith

-- a message
module _ (s : List ℕ) (r : Result Examined Refused) (most : length s ≤ most_bytes) (is : r ≡ examined s) (m : Message) (end : ℕ)
    (found : r ≡ accepted_to m end) where
  walked : read_placed s ≡ framed s (Ok end)
  walked = placed_fit (record { some = examined_some s (sym is ∙ found); most = most }) ∙ ap (framed s) (parts_walked s (sym is ∙ found))

  pub read_whole : end ≡ length s → Ok m ≡ read_of s
  unfolding read_of framed placeless pick
  read_whole full = sym (ap placeless walked ∙ rw (eq-eqb end (length s) full, sym is ∙ found))

  -- and bytes after it
  pub read_over : end ≢ length s → Err R.BytesAfter ≡ read_of s
  unfolding read_of framed placeless pick
  read_over more = sym (ap placeless walked ∙ rw (ne_eqb end (length s) more))

-- a refusal by the parts comes after the walk's
due_later : (s : List ℕ) (e : Refused) → examined s ≡ Err e → (x : ItemRead) → placeless (framed s x) ≡ Err (walked_by e.refusal (length s) x)
unfolding walked_by framed placeless pick
due_later s e later (Err why) = refl
due_later s e later (Ok end) = by (eqb end (length s))
  where
    by : (t : Bool) → placeless (pick t (examined s) (refused R.BytesAfter end)) ≡ Err (pick t e.refusal R.BytesAfter)
    by true = ap placeless later
    by false = refl

pub read_refused : (s : List ℕ) (r : Result Examined Refused) (e : Refused) (refusal : Refusal) → Fits s → r ≡ examined s → r ≡ Err e
    → refusal ≡ walked_first e.refusal s → Err refusal ≡ read_of s
unfolding read_of walked_first
read_refused s r e refusal fits is found same =
    ap Err same ∙ sym (ap placeless (placed_fit fits) ∙ due_later s e (sym is ∙ found) (first_item 0 s))

-- a message that was read is the whole that its parts make up
pub read_examined : (s : List ℕ) (m : Message) → read_of s ≡ Ok m → (length s ≢ 0) × (examined s ≡ accepted_to m (length s))
unfolding read_of read_placed framed placeless
read_examined s m =
    both P (eqb (length s) 0) (λ q. absurd (let z : ◌≡◌ {A = ℕ} 0 1 = cc in omega arith))
    (both P (ltb most_bytes (length s)) (λ q. absurd (let z : ◌≡◌ {A = ℕ} 0 1 = cc in omega arith)) (by (first_item 0 s) refl))
  where
    P : Result Examined Refused → Type 0
    P x = placeless x ≡ Ok m → (length s ≢ 0) × (examined s ≡ accepted_to m (length s))

    found : first_item 0 s ≡ Ok (length s) → (x : Result Examined Refused) → examined s ≡ x → P x
    found w (Err d) e q = absurd (let z : ◌≡◌ {A = ℕ} 0 1 = cc in omega arith)
    found w (Ok got) e q =
        let same : got.message ≡ m = cc in
        let ends : Ok got.end ≡ Ok (length s) = sym (parts_walked s e) ∙ w in
        let full : got.end ≡ length s = cc in
        (examined_some s e, rw (same, full) at e)

    by : (x : ItemRead) → first_item 0 s ≡ x → P (framed s x)
    by (Err why) w = λ q. absurd (let z : ◌≡◌ {A = ℕ} 0 1 = cc in omega arith)
    by (Ok end) w =
        pick-case P (eqb end (length s)) (λ t. found (w ∙ ap Ok (eqb-true end (length s) t)) (examined s) refl)
        (λ _ q. absurd (let z : ◌≡◌ {A = ℕ} 0 1 = cc in omega arith))
