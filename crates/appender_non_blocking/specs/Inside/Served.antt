-- What a worker did until its end.
use Rattle.std.specs.Prelude.{ℕ, List, Option}
use Rattle.std.specs.List.{FoldsTo}
use Rattle.appender_worker.specs.Served.{ServesLines}

-- From its first shares on it took lines, one after another, and then the closing of the queue. It wrote these lines, and so many of
-- them were given up. Its result has the shares that it had then.
pub record Serves {Pass Done : Type 0} (takes : Pass → List ℕ → Pass → Type 0) (closes : Pass → Pass → Type 0) (has_ended : Pass → Type 0) (returns : Pass → Done → Type 0) (first : Pass) (done : Done) (old new : Option (List ℕ)) (given_up : ℕ) : Type 0 where
  pub lines : List (List ℕ)
  pub last : Pass
  pub ended : Pass
  pub taken : FoldsTo takes first lines last
  pub closed : closes last ended
  pub over : has_ended ended
  pub returned : returns ended done
  pub written : ServesLines old new lines given_up
