-- Lines of text: `kind 0` or `refused 7`, and a line feed.
use Rattle.std.specs.Prelude.{ℕ, ◌+◌, ◌/◌, ◌%◌, List, [], ◌∷◌, ◌++◌, length, take, replicate, ltb}
use Rattle.std.proofs.lemmas.List.Edits.{sets}
use Rattle.base.specs.Pick.{pick}
use Rattle.text.specs.declared.line.Line.{Line}

-- a number below 1,000 in decimal, without leading zeros
unfoldable pub decimal : ℕ → List ℕ
decimal n =
    pick (ltb n 10) ((48 + n % 10) ∷ [])
    (pick (ltb n 100) ((48 + n / 10 % 10) ∷ (48 + n % 10) ∷ [])
    ((48 + n / 100) ∷ (48 + n / 10 % 10) ∷ (48 + n % 10) ∷ []))

-- a number and a line feed
unfoldable pub numbered : ℕ → List ℕ
numbered n = decimal n ++ (10 ∷ [])

-- a line of a text of at most 12 bytes
unfoldable pub padded : List ℕ → Line
padded text = record { bytes = take 12 (text ++ replicate 12 0); len = length text }

-- a line with a text after its own
unfoldable pub with_text : Line → List ℕ → Line
with_text line text = record { bytes = sets line.bytes line.len text; len = line.len + length text }

-- `kind `
unfoldable pub kind_word : List ℕ
kind_word = 107 ∷ 105 ∷ 110 ∷ 100 ∷ 32 ∷ []

-- the line of a message: `kind `, the number, and a line feed
unfoldable pub kind_line : ℕ → Line
kind_line n = padded (kind_word ++ numbered n)

-- `refused `
unfoldable pub refused_word : List ℕ
refused_word = 114 ∷ 101 ∷ 102 ∷ 117 ∷ 115 ∷ 101 ∷ 100 ∷ 32 ∷ []

-- the line of a refusal: `refused `, the number, and a line feed
unfoldable pub refused_line : ℕ → Line
refused_line n = padded (refused_word ++ numbered n)
