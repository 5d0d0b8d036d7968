-- `text::line::refused_line` meets its contract: each number of digits by itself.
use Prim.Native.Nat.{ℕ}
use mathlib.Core.Path.{◌≡◌, refl, ◌∙◌}
use mathlib.Core.List.{List, ◌++◌}
use Rattle.text.specs.Line.{padded, with_text, refused_word, refused_line}
use Rattle.text.proofs.Numbered.{by_digits}
use Rattle.text.proofs.line.refused_line.Goals as goal

pub returns : goal.returns
unfolding padded with_text refused_word refused_line
returns c =
    c.with_number.ensures
    ∙ by_digits (λ (text : List ℕ). with_text (padded refused_word) text ≡ padded (refused_word ++ text)) (λ a. refl) (λ a b. refl) (λ a b c. refl)
    c.args.n
