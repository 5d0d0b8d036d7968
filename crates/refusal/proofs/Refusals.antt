-- The refusals' numbers.
-- Assumes nothing.
use Rattle.std.proofs.Common.{◌≡◌, ◌∙◌, ℕ, ◌-◌, ◌≤◌, List, [], ◌∷◌, refl, sym, ap, arith}
use lib.ListN.{get_or}
use Rattle.refusal.specs.declared.Refusal.{Refusal}
use Rattle.refusal.specs.declared.Refusal.TheVariants as R
use Rattle.refusal.specs.Refusal.{number_of, Numbered}

-- each is that of the table
pub numbered : (refusal : Refusal) → Numbered refusal (number_of refusal)
numbered R.BadSize = Numbered.bad_size
numbered R.Cut = Numbered.cut
numbered R.Reserved = Numbered.reserved
numbered R.Indefinite = Numbered.indefinite
numbered R.LongHead = Numbered.long_head
numbered R.TooDeep = Numbered.too_deep
numbered R.BytesAfter = Numbered.bytes_after
numbered R.UnknownKind = Numbered.unknown_kind
numbered R.BadShape = Numbered.bad_shape
numbered R.LongName = Numbered.long_name
numbered R.BadText = Numbered.bad_text
numbered R.BadRecord = Numbered.bad_record
numbered R.BadLink = Numbered.bad_link
numbered R.EarlyClock = Numbered.early_clock
numbered R.BadTable = Numbered.bad_table
numbered R.BadNames = Numbered.bad_names
numbered R.CallOutput = Numbered.call_output
numbered R.NoSuchMessage = Numbered.no_such_message
numbered R.WriteOutput = Numbered.write_output
numbered R.NotAllowed = Numbered.not_allowed

-- none is 0
pub some_number : (refusal : Refusal) → 1 ≤ number_of refusal
some_number R.BadSize = omega arith
some_number R.Cut = omega arith
some_number R.Reserved = omega arith
some_number R.Indefinite = omega arith
some_number R.LongHead = omega arith
some_number R.TooDeep = omega arith
some_number R.BytesAfter = omega arith
some_number R.UnknownKind = omega arith
some_number R.BadShape = omega arith
some_number R.LongName = omega arith
some_number R.BadText = omega arith
some_number R.BadRecord = omega arith
some_number R.BadLink = omega arith
some_number R.EarlyClock = omega arith
some_number R.BadTable = omega arith
some_number R.BadNames = omega arith
some_number R.CallOutput = omega arith
some_number R.NoSuchMessage = omega arith
some_number R.WriteOutput = omega arith
some_number R.NotAllowed = omega arith

-- the refusals in the order of their numbers
in_order : List Refusal
in_order =
    let calls = R.BadRecord ∷ R.BadLink ∷ R.EarlyClock ∷ R.BadTable ∷ R.BadNames ∷ R.CallOutput ∷ R.NoSuchMessage ∷ R.WriteOutput ∷ R.NotAllowed ∷ [] in
    let parts = R.BytesAfter ∷ R.UnknownKind ∷ R.BadShape ∷ R.LongName ∷ R.BadText ∷ calls in
    R.BadSize ∷ R.Cut ∷ R.Reserved ∷ R.Indefinite ∷ R.LongHead ∷ R.TooDeep ∷ parts

placed : (refusal : Refusal) → get_or in_order (number_of refusal - 1) R.BadSize ≡ refusal
unfolding in_order
placed R.BadSize = refl
placed R.Cut = refl
placed R.Reserved = refl
placed R.Indefinite = refl
placed R.LongHead = refl
placed R.TooDeep = refl
placed R.BytesAfter = refl
placed R.UnknownKind = refl
placed R.BadShape = refl
placed R.LongName = refl
placed R.BadText = refl
placed R.BadRecord = refl
placed R.BadLink = refl
placed R.EarlyClock = refl
placed R.BadTable = refl
placed R.BadNames = refl
placed R.CallOutput = refl
placed R.NoSuchMessage = refl
placed R.WriteOutput = refl
placed R.NotAllowed = refl

-- no two have one number
pub same_number : {a b : Refusal} → number_of a ≡ number_of b → a ≡ b
same_number {a} {b} e = sym (placed a) ∙ ap (λ (n : ℕ). get_or in_order (n - 1) R.BadSize) e ∙ placed b
