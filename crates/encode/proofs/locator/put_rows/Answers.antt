-- `encode::locator::put_rows` meets its contract.
use borrow.Author.Rules.{rules}
use Rattle.rfc8990.specs.Encoding.{encode_loc}
use Rattle.description.specs.Meaning.{row_loc, locs_of}
use Rattle.encode.proofs.PutRows.{rows_bytes}
use Rattle.encode.proofs.locator.put_rows.Goals as goal

pub returns : goal.returns
unfolding locs_of
returns c =
    rw (rows_bytes encode_loc (row_loc c.args.source.now c.args.list.now) _) at (c.each.ensures
    (λ i. encode_loc (row_loc c.args.source.now c.args.list.now i)) (λ o o' end i r h. search rules))
