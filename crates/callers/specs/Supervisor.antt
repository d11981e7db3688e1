-- The lines of a text, and what was written of each.
use Rattle.std.specs.Prelude.{◌≡◌, ◌≢◌, ℕ, zero, suc, List, [], ◌∷◌, Option, length, count_by, flat_map}
use Rattle.std.specs.Io.BufRead.{take_through, drop_through}
use Rattle.std.specs.Io.KnownBytes.{Appends}
use Rattle.tracing_appender.specs.Parts.{Part, line_of, written_of, is_cut}
use Rattle.callers.specs.declared.supervisor.Copied.{Copied}

-- The text has this number of lines. Each ends with a newline; the last one may have none.
abbrev pub HasLines : ℕ → List ℕ → Type 0
HasLines zero text = text ≡ []
HasLines (suc count) text = (text ≢ []) × HasLines count (drop_through 10 text)

-- these parts are of the lines of the text, in order
abbrev pub AreLines : List Part → List ℕ → Type 0
AreLines [] text = text ≡ []
AreLines (p ∷ parts) text = (text ≢ []) × (line_of p ≡ take_through 10 text) × AreLines parts (drop_through 10 text)

-- Of each line of the text a beginning was written, or all of it. The lines are counted, and those that are not whole.
pub record CopiesLines (copied : Copied) (text : List ℕ) (old new : Option (List ℕ)) : Type 0 where
  pub parts : List Part
  pub lines : AreLines parts text
  pub count : copied.lines ≡ length parts
  pub cut : copied.cut ≡ count_by is_cut parts
  pub written : Appends old new (flat_map written_of parts)
