-- `text::line::kind_line` meets its contract: each number of digits by itself.
use Prim.Native.Nat.{ℕ}
use mathlib.Core.Path.{◌≡◌, refl, ◌∙◌}
use mathlib.Core.List.{List, ◌++◌}
use Rattle.text.specs.Line.{padded, with_text, kind_word, kind_line}
use Rattle.text.proofs.Numbered.{by_digits}
use Rattle.text.proofs.line.kind_line.Goals as goal

pub returns : goal.returns
unfolding padded with_text kind_word kind_line
returns c =
    c.with_number.ensures
    ∙ by_digits (λ (text : List ℕ). with_text (padded kind_word) text ≡ padded (kind_word ++ text)) (λ a. refl) (λ a b. refl) (λ a b c. refl) c.args.n
