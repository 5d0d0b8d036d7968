-- What `message::examine` answers: the message that the parts at the start of s make up, or the refusal 8, 9, 11 or 10,
-- in this order.
use Rattle.std.specs.Prelude.{ℕ, List, Some, None, Result, Ok, Err, ltb, eqb}
use Rattle.base.specs.Pick.{pick, unless}
use Rattle.cbor.specs.Token.{token_at, items_in}
use Rattle.refusal.specs.declared.Refusal.TheVariants.{UnknownKind, BadShape, LongName, BadText}
use Rattle.refusal.specs.declared.Refusal.{Refusal}
use Rattle.refusal.specs.declared.Refused.{Refused}
use Rattle.refusal.specs.Refusal.{refused}
use Rattle.options.specs.Text.{Noted}
use Rattle.options.specs.Part.{Read, misshapen}
use Rattle.message.specs.declared.Message.{Message}
use Rattle.message.specs.declared.Examined.{Examined}
use Rattle.message.specs.Shape.{noop_at, discovery_at, exchange_at, wait_at, invalid_at, end_at}
use Rattle.message.specs.Response.{response_at}
use Rattle.message.specs.Flood.{flood_at}

-- the shape of a known kind
unfoldable pub by_kind : List ℕ → ℕ → ℕ → ℕ → Read Message
by_kind s kind n at =
    pick (eqb kind 0) (noop_at n at)
    (pick (eqb kind 1) (discovery_at s n at)
    (pick (eqb kind 2) (response_at s n at)
    (pick (eqb kind 6) (end_at s n at)
    (pick (eqb kind 7) (wait_at s n at)
    (pick (eqb kind 9) (flood_at s n at)
    (pick (eqb kind 99) (invalid_at s n at)
    (exchange_at s kind n at)))))))

-- a message whose parts end there
abbrev pub accepted_to : Message → ℕ → Result Examined Refused
accepted_to message end = Ok (record { message = message; end = end })

-- what follows where no place is noted, else a refusal there
unfoldable pub clear : Noted → Refusal → Result Examined Refused → Result Examined Refused
clear None refusal rest = rest
clear (Some place) refusal rest = refused refusal place

-- refusal 9, then 11, then 10
unfoldable pub judged_shape : Read Message → Result Examined Refused
judged_shape (Err e) = Err (misshapen e)
judged_shape (Ok m) =
    clear m.bad BadText (clear m.long LongName (accepted_to m.value m.size))

-- by the message's parts alone: 9 for what is no array or has no number first, 8 for an unknown kind, then by the kind
unfoldable pub examined : List ℕ → Result Examined Refused
examined s =
    let a = token_at s 0 in
    let k = token_at s a.next in
    pick (eqb (items_in a) 0) (refused BadShape 0)
    (unless (eqb k.major 0) (refused BadShape k.at)
    (pick (ltb 9 k.arg)
    (unless (eqb k.arg 99) (refused UnknownKind k.at) (judged_shape (by_kind s k.arg a.arg k.next)))
    (judged_shape (by_kind s k.arg a.arg k.next))))
