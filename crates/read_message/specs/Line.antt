-- What the program prints of the bytes that it reads: one line.
use Rattle.std.specs.Prelude.{ℕ, List, Ok, Err, take}
use Rattle.refusal.specs.Refusal.{number_of}
use Rattle.text.specs.declared.line.Line.{Line}
use Rattle.text.specs.Line.{kind_line, refused_line}
use Rattle.message.specs.Fields.{kind_of}
use Rattle.reader.specs.Read.{Reading, read_of}

-- by what was read
unfoldable pub line_from : Reading → Line
line_from (Err refusal) = refused_line (number_of refusal)
line_from (Ok m) = kind_line (kind_of m)

-- the line for the bytes s
unfoldable pub line_of : List ℕ → Line
line_of s = line_from (read_of s)

-- the bytes of a line that are printed
abbrev pub shown : Line → List ℕ
shown line = take line.len line.bytes
