-- `utf8::is_utf8` meets its contract: bytes that are all ASCII are UTF-8.
use Rattle.std.proofs.Common.{sym, ◌∙◌, ltb, rules, tests}
use Rattle.std.proofs.lemmas.Iterator.{YieldsList-from_slice}
use Rattle.std.proofs.lemmas.Iterator.Search.{all_from_yields_List}
use Rattle.utf8.proofs.Texts.{ascii_is}
use Rattle.utf8.proofs.is_utf8.Goals as goal

pub returns-then-all : goal.returns-then-all
returns-then-all c =
    let s = c.args.s.now in
    let told = all_from_yields_List (λ b. ltb b 0x80) _ _ _ c.all.ensures.ran (YieldsList-from_slice s cc) (λ x b q k. search (rules, tests)) in
    c.if-all.true ∙ ascii_is s (sym told ∙ c.if-all.true)
