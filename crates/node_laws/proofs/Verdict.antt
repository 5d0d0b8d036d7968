-- Each verdict is given exactly if its condition holds and none before it does. For readers: each statement stands
-- alone.
-- Assumes nothing.
use mathlib.Core.Path.{◌≡◌, refl, sym, ap, ◌∙◌, subst}
use mathlib.Core.Logic.{◌≢◌, ◌⊎◌, inl, inr, ◌↔◌}
use mathlib.Core.Bool.{Bool}
use mathlib.Core.List.{List}
use Prim.Native.Nat.{ℕ}
use native.Mathlib.Omega.{arith}
use Rattle.refusal.specs.Refusal.{number_of, answer_number, RefusedAs}
use Rattle.refusal.proofs.Refusals.{some_number}
use Rattle.message.specs.declared.Message.{Message}
use Rattle.reader.specs.Read.{read_of}
use Rattle.node_state.specs.declared.Record.{Record}
use Rattle.node.specs.declared.Verdict.{Verdict}
use Rattle.std.specs.Prelude.{Result, Ok, Err, ⊤}
use Rattle.refusal.specs.declared.Refusal.{Refusal}
use Rattle.node.specs.Call.{Call, After, bars, bar, verdict_given, after_of, refuse, received, node_call}
use Rattle.node_laws.specs.Due.{rules_on, Due, Comes, barred_by, unread, given}
use Rattle.node_laws.proofs.Ways.{first_once, of_same, read_verdicted, call_open, comes, comes_is, Says, says_once, no_refusal, does_say}

module _ (r : Record) (t : List ℕ) (c : Call) where
  -- what is due on the message, and was said
  abbrev WasDue : Verdict → Bool → Type 0
  WasDue v up = (bar r t c ≡ 0) × (m : Message) × (read_of c.message ≡ Ok m) × Due r t c m v up

  comes_due : {v : Verdict} {up : Bool} {a : After} → Comes r t c a → Says a.answer v up → WasDue v up
  unfolding refuse
  comes_due (barred_by refusal e) s = absurd (no_refusal s)
  comes_due (unread n e read) s = absurd (no_refusal s)
  comes_due (given m w u e read due does) s = (e, m, read, of_same (Due r t c m) (says_once (does_say does) s) due)

  due_said : (v : Verdict) (up : Bool) → WasDue v up → Says (node_call r t c).answer v up
  unfolding received
  due_said v up (e, m, read, due) =
      let (w, u, due', does) = read_verdicted r t c e m in
      of_same (Says (node_call r t c).answer) (first_once (rules_on r t c m) due' due) (rw (call_open r t c e read) (does_say does))

-- for readers

-- What comes of a node call: refused by 12 to 17, else by the reading, else given the first verdict that applies.
pub outcome_exactly : (r : Record) (t : List ℕ) (c : Call) (a : After) → node_call r t c ≡ a ↔ Comes r t c a
outcome_exactly r t c a = (λ e. subst (Comes r t c) e (comes r t c), comes_is r t c)

-- A verdict is given, and the message handed up or not, exactly if nothing bars the call, its message is read, and that
-- is due.
pub verdict_exactly : (r : Record) (t : List ℕ) (c : Call) (v : Verdict) (up : Bool)
    → ((mask : ℕ) × (len : ℕ) × ((node_call r t c).answer ≡ Ok (verdict_given v up mask len)))
    ↔ ((bar r t c ≡ 0) × (m : Message) × (read_of c.message ≡ Ok m) × Due r t c m v up)
verdict_exactly r t c v up = (comes_due r t c (comes r t c), due_said r t c v up)

-- A call is refused exactly if 12 to 17 refuse it so, or none of them does and the reading refuses so.
pub refused_so : (r : Record) (t : List ℕ) (c : Call) (refusal : Refusal)
    → (node_call r t c).answer ≡ Err refusal ↔ ((bars r t c ≡ Err refusal) ⊎ ((bar r t c ≡ 0) × (read_of c.message ≡ Err refusal)))
unfolding refuse
refused_so r t c refusal = (λ e. there (comes r t c) e, back)
  where
    Why : Type 0
    Why = (bars r t c ≡ Err refusal) ⊎ ((bar r t c ≡ 0) × (read_of c.message ≡ Err refusal))

    there : {a : After} → Comes r t c a → a.answer ≡ Err refusal → Why
    there (barred_by k e) q = let same : k ≡ refusal = cc in inl (e ∙ ap Err same)
    there (unread k e read) q = let same : k ≡ refusal = cc in inr (e, read ∙ ap Err same)
    there (given m v up e read due does) q = absurd (no_refusal (rw q at (does_say does)))

    back : Why → (node_call r t c).answer ≡ Err refusal
    back (inl e) = ap (λ (a : After). a.answer) (comes_is r t c (barred_by refusal e))
    back (inr (e, read)) = ap (λ (a : After). a.answer) (comes_is r t c (unread refusal e read))

-- what bars a call, by its number
bars_as : (b : Result ⊤ Refusal) {n : ℕ} → answer_number b ≡ n → n ≢ 0 → RefusedAs b n
bars_as (Ok free) e some = absurd (some (sym e))
bars_as (Err refusal) e some = (refusal, refl, e)

-- So it is refused with a number exactly if 12 to 17 give it, or none of them does and the reading refuses with it.
pub refused_exactly : (r : Record) (t : List ℕ) (c : Call) (n : ℕ)
    → RefusedAs (node_call r t c).answer n ↔ (((bar r t c ≡ n) × (n ≢ 0)) ⊎ ((bar r t c ≡ 0) × RefusedAs (read_of c.message) n))
refused_exactly r t c n = (λ (refusal, e, is). there refusal is ((refused_so r t c refusal).0 e), back)
  where
    Why : Type 0
    Why = ((bar r t c ≡ n) × (n ≢ 0)) ⊎ ((bar r t c ≡ 0) × RefusedAs (read_of c.message) n)

    there : (refusal : Refusal) → number_of refusal ≡ n → (bars r t c ≡ Err refusal) ⊎ ((bar r t c ≡ 0) × (read_of c.message ≡ Err refusal)) → Why
    there refusal is (inl barred) = inl (ap answer_number barred ∙ is, λ z. absurd (let some = some_number refusal in omega (arith, some, is, z)))
    there refusal is (inr (free, read)) = inr (free, (refusal, read, is))

    back : Why → RefusedAs (node_call r t c).answer n
    back (inl (e, some)) =
        let (refusal, barred, is) = bars_as (bars r t c) e some in
        (refusal, (refused_so r t c refusal).1 (inl barred), is)
    back (inr (free, (refusal, read, is))) = (refusal, (refused_so r t c refusal).1 (inr (free, read)), is)

-- A refusal leaves record, table and output as at entry.
pub refused_leaves : (r : Record) (t : List ℕ) (c : Call) (refusal : Refusal) → (node_call r t c).answer ≡ Err refusal
    → node_call r t c ≡ after_of r (Err refusal) t c.output
unfolding refuse after_of
refused_leaves r t c refusal e =
    elim ((refused_so r t c refusal).0 e) [
      | inl barred ↦ comes_is r t c (barred_by refusal barred)
      | inr (free, read) ↦ comes_is r t c (unread refusal free read)
    ]
