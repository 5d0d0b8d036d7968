-- `node_state::key::key_of` meets its contract.
use Rattle.std.proofs.Common.{ap, ◌∙◌}
use native.Mathlib.Omega.{arith}
use mathlib.Core.Bool.{false≢true}
use lib.ListN.{length}
use Rattle.std.specs.Int.{w32, w64, from_be_bytes}
use Rattle.base.proofs.Digits.{four_read, eight_read, front_read}
use Rattle.node_state.proofs.Keys.{tag_range, key_short, key_long, key_none}
use Rattle.node_state.proofs.key.key_of.Goals as goal

pub overflow_mul-first : goal.overflow_mul-first
overflow_mul-first c = let t = tag_range c.args.flood (length c.args.initiator.now) in let e = c.tag_of.ensures in
    omega (arith, t.1)

pub overflow_add-first : goal.overflow_add-first
overflow_add-first c = let t = tag_range c.args.flood (length c.args.initiator.now) in let e = c.tag_of.ensures in
    omega (arith, t.1, c.ranges.session, c.from.ensures)

pub returns-in-Some : goal.returns-in-Some
returns-in-Some c =
    let bytes = c.in-Some.ensures.cases in
    let spelled = c.from-in-Some.ensures ∙ c.from_be_bytes.ensures ∙ ap (from_be_bytes w32) bytes.same ∙ four_read c.args.initiator.now in
    rw c.from.ensures (key_short c.args.flood c.args.session c.args.initiator.now _ _ c.tag_of.ensures bytes.long spelled)

pub returns-in-Some-as_array : goal.returns-in-Some-as_array
returns-in-Some-as_array c =
    let initiator = c.args.initiator.now in
    let parts = c.in-Some-split_first_chunk.ensures.cases in
    let low = c.in-Some-as_array.ensures.cases in
    let second = c.from_be_bytes-in-Some-as_array.ensures ∙ ap (from_be_bytes w64) parts.0 ∙ eight_read _ ∙ front_read 8 8 initiator (omega arith) in
    let third = c.from_be_bytes-in-Some-as_array-2.ensures ∙ ap (from_be_bytes w64) (low.same ∙ parts.1) ∙ eight_read _ in
    rw c.from.ensures (key_long c.args.flood c.args.session initiator _ _ c.tag_of.ensures _ (omega (arith, low.long, parts.2)) second third)

pub returns-in_default-as_array : goal.returns-in_default-as_array
returns-in_default-as_array c =
    let parts = c.in-Some-split_first_chunk.ensures.cases in
    key_none c.args.flood c.args.session c.args.initiator.now (λ e. false≢true (c.in_default.ensures.variant.1 e))
    (λ e. false≢true (c.in_default-as_array.ensures.variant.1 (omega (arith, parts.2))))

pub returns-in_default-split_first_chunk : goal.returns-in_default-split_first_chunk
returns-in_default-split_first_chunk c =
    key_none c.args.flood c.args.session c.args.initiator.now (λ e. false≢true (c.in_default.ensures.variant.1 e))
    (λ e. false≢true (c.in_default-split_first_chunk.ensures.variant.1 (omega arith)))
