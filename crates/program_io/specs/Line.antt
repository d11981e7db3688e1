-- A piece of a text of lines.
use Rattle.std.specs.Prelude.{◌≡◌, ◌⊎◌, ℕ, true, List, length}
use Rattle.std.specs.Io.BufRead.{ends_with_byte}
use Rattle.program_io.specs.declared.TheConstants.{LONGEST_LINE}

-- these bytes end with a newline, or are as many as one write has
abbrev pub IsPiece : List ℕ → Type 0
IsPiece bytes = (ends_with_byte 10 bytes ≡ true) ⊎ (length bytes ≡ LONGEST_LINE)
