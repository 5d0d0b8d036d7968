-- Bytes at the edges (rules 12): the cases marked with a star, computed.
-- Assumes nothing.
use Rattle.std.specs.Prelude.{Ok, Err}
use Rattle.refusal.specs.declared.Refusal.TheVariants as R
use mathlib.Core.Path.{◌≡◌, refl}
use mathlib.Core.Bool.{true, false}
use mathlib.Core.List.{[], ◌∷◌, ◌++◌}
use Prim.Native.Nat.{◌+◌, ◌*◌, ◌^◌}
use lib.ListN.{replicate}
use lib.Count.{ones, ones_in}
use Rattle.std.specs.Prelude.{None}
use Rattle.base.specs.Pick.{pick}
use Rattle.base.specs.BigEndian.{big_endian, bytes_of}
use Rattle.base.specs.Bits.{has_bit}
use Rattle.cbor.specs.Head.{width_of, least_of, initial_of, arg_of, judged, head_from, head_by, head_of, head_at}
use Rattle.cbor.specs.Item.{opens, step_of, step_from, step_at, items_of, next, run, enough, first_item}
use Rattle.cbor.specs.Token.{nothing_at, token_of, token_from, token_at, size_from, size_at, items_in, up_to}
use Rattle.utf8.specs.Utf8.{tails_of, least_tail, greatest_tail, goes_on, is_utf8}
use Rattle.cbor.specs.Tree.{info_of, head_bytes, shortest}
use Rattle.cbor.specs.Put.{head}
use Rattle.options.specs.Text.{span_of, bad_text, held}
use Rattle.options.specs.Objective.{long_name, objective_from, objective_in, objective_named}
use Rattle.options.specs.Pair.{is_empty, pair_tagged, pair_tail, pair_led, pair_in}
use Rattle.message.specs.declared.Message.TheVariants as M
use Rattle.options.specs.declared.outcome.Outcome.{Outcome}
use Rattle.message.specs.Opening.{is_initiator, opening_at}
use Rattle.message.specs.Sequence.{pair_then, pairs_from}
use Rattle.options.specs.Outcome.{reason_in, outcome_in}
use Rattle.message.specs.Shape.{noop_at, discovered, discovery_at, ended, end_at}
use Rattle.message.specs.Flood.{flooded_by, flooded_of, flooded_at, flood_by, flood_at}
use Rattle.message.specs.Examined.{by_kind, clear, judged_shape, examined}
use Rattle.reader.specs.Read.{framed, read_placed, placeless, read_of}
use Rattle.writer.specs.Write.{lowered}
use Rattle.writer.specs.Edges.{initiator, name, discovery_bytes, flood_bytes, end_bytes}
use Rattle.names.specs.Names.{good_name, good_names, array_bad, framed_bad, names_bad, named_from, is_named}
use Rattle.base.specs.Bytes.{same_bytes}
use Rattle.node.specs.declared.Verdict.TheVariants.{Duplicate, Relay}
use Rattle.node_state.specs.Record.{links_bad, record_bad, fresh, arrival_bad, others, clocked, tallied}
use Rattle.node_state.specs.Table.{fresh_table, cell, put_row, row_free, tag_in, initiator_fits, row_keyed, row_used, row_bad, first_from}
use Rattle.node_state.specs.Table.{some_row, table_bad, row_life, row_dead, free_rows, freed, lowest_free, row_matches, is_known}
use Rattle.node_state.specs.Key.{tag_of, key_of}
use Rattle.node.specs.Role.{role_of, key_in}
use Rattle.node_laws.specs.History.{steps}
use Rattle.node.specs.Call.{after_given, gives, barred, refuse, quiet, later_verdict, verdict_on, relayed, carried_out, taken, received, called, node_call}
use Rattle.node_laws.specs.Edges.{objective, node, arrives, one_row, outcomes}

-- for readers

-- The starred cases.
pub starred :
    (read_of [] ≡ Err R.BadSize)
    × (read_of (0x81 ∷ []) ≡ Err R.Cut)
    × (read_of (0x81 ∷ 0x1c ∷ []) ≡ Err R.Reserved)
    × (read_of (0x9f ∷ 0x00 ∷ 0xff ∷ []) ≡ Err R.Indefinite)
    × (read_of (0x81 ∷ 0x18 ∷ 0x00 ∷ []) ≡ Err R.LongHead)
    × (read_of (0x81 ∷ 0x00 ∷ 0x00 ∷ []) ≡ Err R.BytesAfter)
    × (read_of (0x81 ∷ 0x18 ∷ 0xc8 ∷ []) ≡ Err R.UnknownKind)
    × (read_of (0x80 ∷ []) ≡ Err R.BadShape)
    × (read_of (0x82 ∷ 0x00 ∷ 0x07 ∷ []) ≡ Err R.BadShape)
    × (read_of (0x81 ∷ 0x00 ∷ []) ≡ Ok M.Noop)
    × (read_of end_bytes ≡ Ok (M.End 7 Outcome.Accept))
    × (read_of (discovery_bytes (2 ∷ [])) ≡ Ok (M.Discovery 7 (span_of 4 4) (objective 10 1 2 14)))
    × (held (discovery_bytes (2 ∷ [])) (span_of 4 4) ≡ initiator)
    × (held (discovery_bytes (2 ∷ [])) (span_of 10 3) ≡ name)
    × (read_of (flood_bytes 2)
    ≡ Ok (M.Flood 7 (span_of 4 4) 1000 (record { objective = objective 14 4 2 18; tag = None }) (record { at = 11; many = 1 })))
    × (held (flood_bytes 2) (span_of 4 4) ≡ initiator)
    × (held (flood_bytes 2) (span_of 14 3) ≡ name)
    × (outcomes (arrives 1000 (discovery_bytes (2 ∷ [])) ∷ arrives 1000 (discovery_bytes (2 ∷ [])) ∷ arrives 60999 (discovery_bytes (2 ∷ []))
    ∷ arrives 61000 (discovery_bytes (2 ∷ [])) ∷ [])
    ≡ after_given (gives Relay false 6 15 (node 1000 2)) (one_row (7 + 2 ^ 32) 0xc0000201 0 1000) (discovery_bytes (1 ∷ []) ++ replicate 2033 0)
    ∷ after_given (gives Duplicate false 0 0 (node 1000 2)) (one_row (7 + 2 ^ 32) 0xc0000201 0 1000) (replicate 2048 0)
    ∷ after_given (gives Duplicate false 0 0 (node 60999 2)) (one_row (7 + 2 ^ 32) 0xc0000201 0 1000) (replicate 2048 0)
    ∷ after_given (gives Relay false 6 15 (node 61000 4)) (one_row (7 + 2 ^ 32) 0xc0000201 0 61000) (discovery_bytes (1 ∷ []) ++ replicate 2033 0)
    ∷ [])
    × (outcomes (arrives 1000 (flood_bytes 2) ∷ [])
    ≡ after_given (gives Relay true 6 20 (node 1000 2)) (one_row (7 + 2 ^ 32 * 3) 0xc0000201 0 1000) (flood_bytes 1 ++ replicate 2028 0) ∷ [])
unfolding pick big_endian bytes_of width_of least_of initial_of arg_of judged head_from head_by head_of head_at opens step_of step_from step_at items_of next
    run enough first_item nothing_at token_of token_from token_at size_from size_at items_in up_to tails_of least_tail greatest_tail goes_on is_utf8 info_of
    head_bytes shortest head bad_text long_name objective_from objective_in objective_named is_empty pair_tagged pair_tail pair_led pair_in
    is_initiator opening_at pair_then pairs_from noop_at discovered discovery_at reason_in outcome_in ended end_at flooded_by flooded_of flooded_at flood_by
    flood_at by_kind judged_shape clear examined framed read_placed placeless read_of lowered good_name good_names array_bad framed_bad names_bad same_bytes
    named_from is_named links_bad record_bad fresh has_bit arrival_bad others clocked tallied fresh_table cell put_row row_free tag_in initiator_fits row_keyed
    row_used row_bad first_from some_row table_bad row_life row_dead free_rows freed lowest_free row_matches is_known role_of tag_of key_of key_in barred refuse
    quiet later_verdict verdict_on relayed carried_out taken received called node_call steps ones ones_in
starred = (refl, refl, refl, refl, refl, refl, refl, refl, refl, refl, refl, refl, refl, refl, refl, refl, refl, refl, refl)
