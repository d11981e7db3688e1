-- Lines that a worker wrote.
use Rattle.std.specs.Prelude.{◌≡◌, ℕ, List, Option, map, flat_map, count_by}
use Rattle.std.specs.Io.KnownBytes.{Appends}
use Rattle.appender_worker.specs.Batch.{saturating_sum}
use Rattle.appender_worker.specs.Parts.{Part, line_of, written_of, is_cut}

-- The lines were written, in order: known bytes grow by each of them, up to the place in its part. A line that was not written whole
-- was given up, and was counted.
pub record ServesLines (old new : Option (List ℕ)) (lines : List (List ℕ)) (given_up : ℕ) : Type 0 where
  pub parts : List Part
  pub order : lines ≡ map line_of parts
  pub bytes : Appends old new (flat_map written_of parts)
  pub counted : given_up ≡ saturating_sum 0 (count_by is_cut parts)
