-- Lines, each with how much of it was written.
use Rattle.std.specs.Prelude.{ℕ, List, Bool, not, nat_le, length, take}

-- a line, and how many of its first bytes were written
pub record Part : Type 0 where
  pub line : List ℕ
  pub written : ℕ

abbrev pub part : List ℕ → ℕ → Part
part line written = record { line = line; written = written }

abbrev pub line_of : Part → List ℕ
line_of p = p.line

abbrev pub written_of : Part → List ℕ
written_of p = take p.written p.line

abbrev pub is_whole : Part → Bool
is_whole p = nat_le (length p.line) p.written

abbrev pub is_cut : Part → Bool
is_cut p = not (is_whole p)
