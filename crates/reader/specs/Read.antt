-- What `reader::read` answers (rules 4): the message that s is, or the refusal, in their order (rules 3.2): 1, the
-- walk's 2 to 6, 7, 8, 9, 11, 10.
use Rattle.std.specs.Prelude.{ℕ, List, Result, Ok, Err, length, ltb, eqb}
use Rattle.base.specs.Pick.{pick}
use Rattle.refusal.specs.declared.Refusal.{Refusal}
use Rattle.refusal.specs.declared.Refusal.TheVariants.{BadSize}
use Rattle.refusal.specs.declared.Refused.{Refused}
use Rattle.refusal.specs.Refusal.{refused}
use Rattle.cbor.specs.Item.{ItemRead, first_item, framed_by}
use Rattle.rfc8990.specs.Limits.{most_bytes}
use Rattle.message.specs.declared.Examined.{Examined}
use Rattle.message.specs.declared.Message.{Message}
use Rattle.message.specs.Examined.{examined}

-- what is read: a message, or the refusal
abbrev pub Reading : Type 0
Reading = Result Message Refusal

-- by the walk: its refusals, and bytes that follow the item; else by the parts
unfoldable pub framed : List ℕ → ItemRead → Result Examined Refused
framed s r = framed_by refused (examined s) (length s) r

-- the message that s is, or the refusal with its place
unfoldable pub read_placed : List ℕ → Result Examined Refused
read_placed s =
    pick (eqb (length s) 0) (refused BadSize 0)
    (pick (ltb most_bytes (length s)) (refused BadSize 0) (framed s (first_item 0 s)))

-- an answer without its place
unfoldable pub placeless : Result Examined Refused → Reading
placeless (Err why) = Err why.refusal
placeless (Ok m) = Ok m.message

-- the message that s is, or the refusal
unfoldable pub read_of : List ℕ → Reading
read_of s = placeless (read_placed s)
