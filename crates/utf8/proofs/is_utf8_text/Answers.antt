-- `utf8::is_utf8_text` meets its contract: what the library says of the bytes is what `is_utf8` says.
use mathlib.Core.Path.{◌∙◌}
use Rattle.utf8.proofs.Texts.{answer}
use Rattle.utf8.proofs.is_utf8_text.Goals as goal

pub returns : goal.returns
returns c = c.is_ok.ensures.value ∙ answer _ _ _ _ c.from_utf8.ensures.cases
