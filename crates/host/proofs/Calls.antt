-- The node call on a table of bytes by the way that its code takes.
-- Assumes nothing.
use Prim.Native.Nat.{ℕ}
use mathlib.Core.Path.{◌≡◌, refl, sym, ap, ◌∙◌}
use mathlib.Core.List.{List, [], ◌∷◌}
use native.Mathlib.Omega.{arith}
use lib.ListN.{length}
use borrow.Author.Tests.{eq-eqb, ne_eqb}
use Rattle.std.specs.Prelude.{Result, Ok, Err}
use Rattle.base.specs.Pick.{pick}
use Rattle.refusal.specs.declared.Refusal.{Refusal}
use Rattle.refusal.specs.Refusal.{answer_number}
use Rattle.refusal.proofs.Refusals.{some_number}
use Rattle.node_state.specs.declared.Record.{Record}
use Rattle.node.specs.declared.CallAnswer.{CallAnswer}
use Rattle.node_state.proofs.TableRows.{table_sized}
use Rattle.node.specs.Passed.{Passed}
use Rattle.node.proofs.Outcomes.{passed, call_case}
use Rattle.node.specs.Call.{Call, After, after_of, refuse, quiet, answered, relayed, node_call}
use Rattle.host.specs.Table.{table_bytes, loaded, saved}
use Rattle.host.specs.Call.{table_in, answer_numbers, left_by, left_after, call_left}
use Rattle.host.proofs.Fits.{call_goes}

-- ---- what a refusal leaves

pub call_still : (r : Record) (t : List ℕ) (c : Call) → (answer_number (node_call r t c).answer ≡ 0 → ⊥)
    → ((node_call r t c).node ≡ r) × ((node_call r t c).table ≡ t) × ((node_call r t c).output ≡ c.output)
unfolding refuse quiet answered relayed
call_still r t c =
    call_goes r t c (λ a. (answer_number a.answer ≡ 0 → ⊥) → (a.node ≡ r) × (a.table ≡ t) × (a.output ≡ c.output))
    (λ _ _. (refl, refl, refl)) (λ _ _ ne. absurd (ne refl)) (λ _ ne. absurd (ne refl)) (λ _ _ ne. absurd (ne refl))

-- a call that isn't refused passes 12 to 17
pub call_passed : (r : Record) (t : List ℕ) (c : Call) → answer_number (node_call r t c).answer ≡ 0
    → Passed r t c.clock c.interface (length c.output)
unfolding refuse
call_passed r t c =
    call_case (λ (a : After). answer_number a.answer ≡ 0 → Passed r t c.clock c.interface (length c.output)) r t c
    (λ free _. passed r t c.clock c.interface c.names (length c.output) free)
    (λ refusal _ none. absurd (let some = some_number refusal in omega arith))

-- ---- a table of bytes

-- bytes of a table's length hold their numbers
pub table_in_lem : (bytes : List ℕ) → length bytes ≡ table_bytes → table_in bytes ≡ loaded bytes
unfolding table_in pick
table_in_lem bytes sized = rw (eq-eqb (length bytes) table_bytes sized) refl

module _ (r : Record) (bytes : List ℕ) (c : Call) (answer : List ℕ) (b : Result CallAnswer Refusal) (t out : List ℕ) where
  left_refused : {refusal : Refusal} {a : Result Record Refusal} → after_of r b t out ≡ node_call r (table_in bytes) c → b ≡ Err refusal → a ≡ Err refusal
      → left_by r a bytes out answer ≡ call_left r bytes c answer
  unfolding call_left left_after after_of
  left_refused {refusal} e is same =
      let gone : node_call r (table_in bytes) c ≡ record { answer = Err refusal; node = r; table = t; output = out } =
      sym e ∙ ap (λ (k : Result CallAnswer Refusal). after_of r k t out) is in
      let some = some_number refusal in
      let number = ap (λ (z : After). answer_number z.answer) gone in
      let still = (call_still r (table_in bytes) c (λ none. omega arith)).2 in
      let stayed : out ≡ c.output = sym (ap (λ (z : After). z.output) gone) ∙ still in
      rw (same, gone, stayed) refl

  -- a table of another length is refused
  pub other_refused : {refusal : Refusal} {a : Result Record Refusal} → (length bytes ≡ table_bytes → ⊥) → after_of r b t out ≡ node_call r (0 ∷ []) c
      → b ≡ Err refusal → a ≡ Err refusal → left_by r a bytes out answer ≡ call_left r bytes c answer
  unfolding table_in pick
  other_refused ne e = left_refused (rw (ne_eqb (length bytes) table_bytes ne) e)

  pub never_other : {k : CallAnswer} → after_of r b t out ≡ node_call r (0 ∷ []) c → b ≡ Ok k → ⊥
  unfolding after_of
  never_other {k} e is =
      let none : answer_number (node_call r (0 ∷ []) c).answer ≡ 0 =
      ap (λ (z : After). answer_number z.answer) (sym e ∙ ap (λ (x : Result CallAnswer Refusal). after_of r x t out) is) in
      let sized = table_sized c.clock (0 ∷ []) (call_passed r (0 ∷ []) c none).table in
      omega arith

  module _ {numbers : List ℕ} (sized : length bytes ≡ table_bytes) (numbers_are : numbers ≡ loaded bytes) (e : after_of r b t out ≡ node_call r numbers c) where
    in_bytes : after_of r b t out ≡ node_call r (table_in bytes) c
    in_bytes = rw (table_in_lem bytes sized, ← numbers_are) e

    pub call_refused : {refusal : Refusal} {a : Result Record Refusal} → b ≡ Err refusal → a ≡ Err refusal
        → left_by r a bytes out answer ≡ call_left r bytes c answer
    call_refused = left_refused in_bytes

    pub call_given : {k : CallAnswer} {after answer' : List ℕ} → b ≡ Ok k → after ≡ saved t → answer' ≡ answer_numbers k.given
        → left_by r (Ok k.node) after out answer' ≡ call_left r bytes c answer
    unfolding call_left left_after after_of
    call_given {k} is after_is answer_is =
        let gone : node_call r (table_in bytes) c ≡ record { answer = Ok k.given; node = k.node; table = t; output = out } =
        sym in_bytes ∙ ap (λ (x : Result CallAnswer Refusal). after_of r x t out) is in
        rw (gone, after_is, answer_is) refl
