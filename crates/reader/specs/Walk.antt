-- The walk's own refusals, those of the first head at fault, then bytes after the item, and then what is due later.
use Rattle.std.specs.Prelude.{ℕ, List, length}
use Rattle.refusal.specs.declared.Refusal.{Refusal}
use Rattle.cbor.specs.Item.{ItemRead, first_item, framed_by}

-- by what the walk answers, of so many bytes
unfoldable pub walked_by : Refusal → ℕ → ItemRead → Refusal
walked_by later size r = framed_by (λ refusal place. refusal) later size r

-- of the bytes s
unfoldable pub walked_first : Refusal → List ℕ → Refusal
walked_first later s = walked_by later (length s) (first_item 0 s)
