-- A node's answer, part by part.
-- Assumes nothing.
use Prim.Native.Nat.{ℕ}
use mathlib.Core.Path.{◌≡◌}
use mathlib.Core.List.{List, ◌++◌, flat_map, append-nil}
use Rattle.cbor.specs.Put.{head}
use Rattle.rfc8990.specs.Encoding.{string, fixed, preamble, encode_loc, encode_targets, target_items, how_many, maybe_obj, encode_msg}
use Rattle.writer.specs.Write.{answer_of}

pub answer_is : (session : ℕ) (initiator : List ℕ) (ttl : ℕ) (address : List ℕ) (port : ℕ)
    → answer_of session initiator ttl address port ≡ preamble 5 2 session ++ string 2 initiator ++ head 0 ttl ++ fixed 103 2 address 6 port
unfolding answer_of encode_msg target_items how_many maybe_obj encode_targets flat_map encode_loc
answer_is session initiator ttl address port = simp append-nil
