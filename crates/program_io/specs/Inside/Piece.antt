-- How a piece grows.
use Rattle.std.specs.Prelude.{◌≡◌, ◌≢◌, ◌<◌, ◌≤◌, ◌⊎◌, ℕ, Bool, true, false, List, ◌++◌, Option, OnSome, All, length}
use Rattle.std.specs.Io.{StopsAt}
use Rattle.std.specs.Io.KnownBytes.{Consumes, IsAtEnd}
use Rattle.program_io.specs.Line.{IsPiece}
use Rattle.program_io.specs.declared.Split.{Split}
use Rattle.program_io.specs.declared.Split.TheVariants.{Lines}
use Rattle.program_io.specs.declared.TheConstants.{LONGEST_LINE}

-- a part of a piece that may go on, with room for more
abbrev pub IsOpen : Split → List ℕ → Type 0
IsOpen split bytes = (split ≡ Lines → All (λ x. x ≢ 10) bytes) × (length bytes < LONGEST_LINE)

-- the next bytes were added, and the reply is whether those are all that the piece has
pub record Extends (split : Split) (known_old known_new : Option (List ℕ)) (old new : List ℕ) (is_all : Bool) : Type 0 where
  pub bytes : List ℕ
  pub added : new ≡ old ++ bytes
  pub consumed : Consumes known_old known_new bytes
  pub line : split ≡ Lines → StopsAt new 10
  pub room : length new ≤ LONGEST_LINE
  pub ends : is_all ≡ true → IsPiece new ⊎ OnSome known_old (IsAtEnd known_new)
  pub goes_on : is_all ≡ false → IsOpen split new
