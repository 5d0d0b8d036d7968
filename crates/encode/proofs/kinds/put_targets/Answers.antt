-- `encode::kinds::put_targets` meets its contract.
use Rattle.rfc8990.specs.Encoding.{encode_targets}
use Rattle.description.specs.Meaning.{targets_of}
use Rattle.encode.proofs.Puts.{then}
use Rattle.description.proofs.Items.{length_locs}
use Rattle.encode.proofs.kinds.put_targets.Goals as goal

pub returns-then-divert : goal.returns-then-divert
unfolding encode_targets targets_of
returns-then-divert c =
    rw (c.if-divert.true, length_locs)
    (then (then c.head-a.ensures c.head-b.ensures) c.put_rows.ensures)

pub returns : goal.returns
unfolding encode_targets targets_of
returns c = rw c.if-divert.false c.put_rows-2.ensures
