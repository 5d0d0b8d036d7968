-- `description::counts::target_items` meets its contract.
use mathlib.Core.Path.{refl, sym}
use Rattle.rfc8990.specs.Encoding.{target_items}
use Rattle.description.specs.Meaning.{targets_of}
use Rattle.description.proofs.Items.{length_locs}
use Rattle.description.proofs.counts.target_items.Goals as goal

pub returns-then-divert : goal.returns-then-divert
unfolding target_items targets_of
returns-then-divert c = rw c.if-divert.true refl

pub returns : goal.returns
unfolding target_items targets_of
returns c = rw c.if-divert.false (sym (length_locs _ _))
