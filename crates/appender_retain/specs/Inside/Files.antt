-- The files to remove.
use Rattle.std.specs.Prelude.{◌≢◌, ℕ, List, AllPairs, Contains}
use Rattle.std.specs.FinMap as fin
use Rattle.appender_store.specs.Content.{NameMap, IsFile}

-- each of these names leads to a file, and no two of them are one
pub record AreFiles (names : NameMap) (some : List (List ℕ)) : Type 0 where
  pub files : (name : List ℕ) → Contains some name → IsFile (fin.get names name)
  pub apart : AllPairs (λ first later. first ≢ later) some
