-- What stands in a message, as the bytes of a span: initiators, names, values and items, objectives, reasons.
-- Assumes nothing.
use mathlib.Core.Path.{◌≡◌, sym, ap, ◌∙◌, subst}
use mathlib.Core.Logic.{inl, inr}
use mathlib.Core.Bool.{Bool}
use mathlib.Core.List.{List, ◌++◌}
use Prim.Native.Nat.{ℕ, ◌+◌, ◌-◌}
use native.Mathlib.Omega.{arith}
use lib.ListN.{length, take, drop, length-append}
use lib.Seq.{take_at, drop_at, take-length}
use Rattle.cbor.specs.Tree.{Item, encode}
use Rattle.options.specs.declared.Span.{Span}
use Rattle.options.specs.declared.objective.Objective.{Objective}
use Rattle.options.specs.Text.{span_of, held}
use Rattle.rfc8990.specs.Message.{Obj, valued_obj}
use Rattle.rfc8990.specs.Cddl.{Value}
use Rattle.message_laws.specs.Stands.{Stands, Before, ValueIs, ObjectiveIs}
use Rattle.message_laws.proofs.Bridge.{stands_within}
use Rattle.message_laws.proofs.Held.{string_holds}
use Rattle.description.specs.Meaning.{objective_row_of, obj_of}
use Rattle.forms.specs.Describe.{given_of}
use Rattle.writer_laws.proofs.Once.{objective_ext}
use Rattle.writer_laws.specs.Plain.{value_bytes}
use Rattle.writer_laws.specs.Says.{Inside, ObjectiveRowSays}

-- a span of these bytes
pub record Cuts (s : List ℕ) (span : Span) (bs : List ℕ) : Type 0 where
  pub inside : Inside s span
  pub is : held s span ≡ bs

-- the content of a string that stands before e
pub string_cuts : {s : List ℕ} {p e w : ℕ} {t : Bool} {bs : List ℕ} {span : Span} → Stands s p e (Item.string t w bs)
    → Before e bs span → Cuts s span bs
string_cuts a q = let h = string_holds a q in record { inside = inr h.within; is = h.is }

-- an item, or none
pub value_cuts : {s : List ℕ} {span : Span} {v : Value} → ValueIs s span v → Cuts s span (value_bytes v)
unfolding value_bytes
value_cuts {s} {span} (ValueIs.absent e) = record { inside = inl e; is = ap (λ (k : ℕ). take k (drop span.at s)) e }
value_cuts {s} {span} (ValueIs.present {x} a) = record {
  inside = inr (stands_within a);
  is = ap (take span.len) a.is ∙ take_at (encode x) (drop (span.at + span.len) s) span.len (omega (arith, a.end));
}

-- the end of the bytes
pub end_cuts : {s : List ℕ} {span : Span} (before bs : List ℕ) → before ++ bs ≡ s → span ≡ span_of (length s - length bs) (length bs) → Cuts s span bs
end_cuts {s} {span} before bs e q =
    let sum : length s ≡ length before + length bs = ap length (sym e) ∙ length-append before bs in
    let place : length before ≡ length s - length bs = omega arith in
    subst (λ (i : Span). Cuts s i bs) (sym q)
    (record {
      inside = inr (omega arith);
      is = ap (λ (l : List ℕ). take (length bs) (drop (length s - length bs) l)) (sym e)
          ∙ ap (take (length bs)) (drop_at before bs (length s - length bs) place) ∙ take-length bs;
    })

-- an objective, as the description has it
pub record Gives (s : List ℕ) (o : Objective) (obj : Obj Value) : Type 0 where
  pub says : ObjectiveRowSays s (objective_row_of (given_of o))
  pub is : obj_of s (objective_row_of (given_of o)) ≡ valued_obj value_bytes obj

pub objective_gives : {s : List ℕ} {p e : ℕ} {o : Objective} {obj : Obj Value} → ObjectiveIs s p e o obj → Gives s o obj
unfolding objective_row_of given_of obj_of valued_obj
objective_gives {o = o} {obj} i =
    let name = string_cuts i.name_item i.name in
    let value = value_cuts i.value in
    record { says = record { name = name.inside; value = value.inside }; is = objective_ext name.is i.flags i.count value.is }
