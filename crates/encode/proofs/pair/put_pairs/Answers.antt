-- `encode::pair::put_pairs` meets its contract.
use borrow.Author.Rules.{rules}
use Rattle.rfc8990.specs.Encoding.{encode_pair}
use Rattle.description.specs.Meaning.{row_pair, pairs_of}
use Rattle.encode.proofs.PutRows.{rows_bytes}
use Rattle.encode.proofs.pair.put_pairs.Goals as goal

pub returns : goal.returns
unfolding pairs_of
returns c =
    rw (rows_bytes encode_pair (row_pair c.args.source.now c.args.list.now) _) at (c.each.ensures
    (λ i. encode_pair (row_pair c.args.source.now c.args.list.now i)) (λ o o' end i r h. search rules))
