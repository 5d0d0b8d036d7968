-- What the writer answers (rules 5): 18, then 19, then the encoding at the front of the output; the bytes after it, and
-- on a refusal all of them, are as they were.
use Rattle.reader.specs.Read.{Reading}
use Rattle.std.specs.Prelude.{ℕ, ◌-◌, Bool, true, false, List, [], ◌∷◌, ◌++◌, length, take, drop, ltb, eqb}
use Rattle.std.specs.Prelude.{Result, Ok, Err, ⊤}
use Rattle.std.proofs.Math.Option.{none}
use Rattle.base.specs.Pick.{pick}
use Rattle.cbor.specs.Put.{head, written}
use Rattle.rfc8990.specs.Limits.{most_bytes}
use Rattle.reader.specs.Read.{read_of}
use Rattle.description.specs.declared.Description.{Description}
use Rattle.refusal.specs.declared.Refusal.{Refusal}
use Rattle.refusal.specs.declared.Refusal.TheVariants.{NoSuchMessage, WriteOutput}
use Rattle.rfc8990.specs.Message.{Loc, Tgts, Msg}
use Rattle.rfc8990.specs.Encoding.{encode_msg}
use Rattle.description.specs.Meaning.{msg_of}
use Rattle.description.specs.Judge.{ok_described}

-- a message of so many bytes in so much room: 18 where it isn't good, then 19 where the room is less
unfoldable pub fitting : Bool → ℕ → ℕ → Result ⊤ Refusal
fitting good len room = pick good (pick (ltb room len) (Err WriteOutput) (Ok tt)) (Err NoSuchMessage)

-- bytes handed over: 19 where the output is shorter than they are
unfoldable pub hand_answer : List ℕ → List ℕ → Result ℕ Refusal
hand_answer bs out = pick (ltb (length out) (length bs)) (Err WriteOutput) (Ok (length bs))

-- the output that is left
unfoldable pub hand_out : List ℕ → List ℕ → List ℕ
hand_out bs out = pick (ltb (length out) (length bs)) out (written bs out)

-- bytes that a test lets pass: 18 where it doesn't, or where they are over 2,048
unfoldable pub passes : Bool → List ℕ → Bool
passes test bs = pick (ltb most_bytes (length bs)) false test

-- 18 for what doesn't pass; what passes is handed over
unfoldable pub pass_answer : Bool → List ℕ → List ℕ → Result ℕ Refusal
pass_answer test bs out = pick (passes test bs) (hand_answer bs out) (Err NoSuchMessage)

-- the output that is left
unfoldable pub pass_out : Bool → List ℕ → List ℕ → List ℕ
pass_out test bs out = pick (passes test bs) (hand_out bs out) out

-- what was read is a message
abbrev pub accepted : Reading → Bool
accepted (Err refusal) = false
accepted (Ok m) = true

-- the reader accepts the bytes
unfoldable pub accepts : List ℕ → Bool
accepts bs = accepted (read_of bs)

-- ---- `write`: the description is judged by itself; its encoding has at most 2,048 bytes, and the reader accepts it
-- the bytes of the message that a description speaks of
unfoldable pub draft_of : List ℕ → List ℕ → Description → List ℕ
draft_of source list m = encode_msg (msg_of source list m)

-- what `write` answers
unfoldable pub write_answer : List ℕ → List ℕ → Description → List ℕ → Result ℕ Refusal
write_answer source list m out =
    pick (ok_described source list m) (pass_answer (accepts (draft_of source list m)) (draft_of source list m) out)
    (Err NoSuchMessage)

-- the output that it leaves
unfoldable pub write_out : List ℕ → List ℕ → Description → List ℕ → List ℕ
write_out source list m out =
    pick (ok_described source list m) (pass_out (accepts (draft_of source list m)) (draft_of source list m) out) out

-- ---- `lower`: the message with its bytes from `at` to `end`, the count's head, replaced by the shortest head of one
-- less
unfoldable pub lowered : List ℕ → ℕ → ℕ → ℕ → List ℕ
lowered message at end count = take at message ++ head 0 (count - 1) ++ drop end message

-- a count above 0, and a part of the message
unfoldable pub ok_lower : List ℕ → ℕ → ℕ → ℕ → Bool
ok_lower message at end count =
    pick (eqb count 0) false (pick (ltb end at) false (pick (ltb (length message) end) false true))

-- what `lower` answers
unfoldable pub lower_answer : List ℕ → ℕ → ℕ → ℕ → List ℕ → Result ℕ Refusal
lower_answer message at end count out =
    pick (ok_lower message at end count) (pass_answer true (lowered message at end count) out) (Err NoSuchMessage)

-- the output that it leaves
unfoldable pub lower_out : List ℕ → ℕ → ℕ → ℕ → List ℕ → List ℕ
lower_out message at end count out =
    pick (ok_lower message at end count) (pass_out true (lowered message at end count) out) out

-- ---- `answer`: a Response with one locator of kind 103, protocol 6
abbrev pub answer_msg : {A : Type 0} → ℕ → List ℕ → ℕ → List ℕ → ℕ → Msg A
answer_msg session initiator ttl address port =
    Msg.response session initiator ttl (Tgts.locators (Loc.v6 address 6 port ∷ [])) none

-- its bytes
unfoldable pub answer_of : ℕ → List ℕ → ℕ → List ℕ → ℕ → List ℕ
answer_of session initiator ttl address port = encode_msg (answer_msg session initiator ttl address port)

-- an initiator has 4 or 16 bytes
unfoldable pub ok_initiator : List ℕ → Bool
ok_initiator initiator = pick (eqb (length initiator) 4) true (eqb (length initiator) 16)

-- what `answer` answers
unfoldable pub answer_answer : ℕ → List ℕ → ℕ → List ℕ → ℕ → List ℕ → Result ℕ Refusal
answer_answer session initiator ttl address port out =
    pass_answer (ok_initiator initiator) (answer_of session initiator ttl address port) out

-- the output that it leaves
unfoldable pub answer_out : ℕ → List ℕ → ℕ → List ℕ → ℕ → List ℕ → List ℕ
answer_out session initiator ttl address port out =
    pass_out (ok_initiator initiator) (answer_of session initiator ttl address port) out
