-- Gathered lines, as they are stored: one after another, with the length of each.
use Rattle.std.specs.Prelude.{◌≡◌, ℕ, List, [], ◌∷◌, Option, is_some, nat_lt, take, drop, map, flat_map, count_by, filter}
use Rattle.std.specs.Option.{option_map, option_or}
use Rattle.std.specs.Io.KnownBytes.{Appends}
use Rattle.std.specs.IoError.{error_kind}
use Rattle.std.specs.declared.io.Error.{Error}
use Rattle.std.specs.declared.io.ErrorKind.{ErrorKind}
use Rattle.appender_worker.specs.Batch.{Batch, WritesParts}
use Rattle.appender_worker.specs.Parts.{Part, part, line_of, written_of, is_whole, is_cut}
use Rattle.appender_worker.specs.Tries.{WriteTry, is_failed, reported_kind, first_fault, TriesWrites, FailWithin}
use Rattle.appender_worker.specs.declared.batching.Outcome.{Outcome}

-- the lines of these lengths
abbrev pub lines_of_lengths : List ℕ → List ℕ → List (List ℕ)
lines_of_lengths [] bytes = []
lines_of_lengths (n ∷ lengths) bytes = take n bytes ∷ lines_of_lengths lengths (drop n bytes)

-- these lines were written and counted
pub record WritesGathered {W : Type 0} (contents : W → Option (List ℕ)) (tries : W → List ℕ → ℕ → Option ErrorKind → W → Type 0) (lines : List (List ℕ)) (old new : W) (outcome : Outcome) : Type 0 where
  pub parts : List Part
  pub order : lines ≡ map line_of parts
  pub bytes : Appends (contents old) (contents new) (flat_map written_of parts)
  pub taken : outcome.taken ≡ count_by is_whole parts
  pub lost : outcome.lost ≡ count_by is_cut parts
  pub fault : is_some outcome.fault ≡ nat_lt 0 outcome.lost
  pub asked : List WriteTry
  pub were_asked : TriesWrites tries old asked new
  pub failed_within : FailWithin (filter is_failed asked) (filter is_cut parts)
  pub kind : option_map error_kind outcome.fault ≡ first_fault asked

-- this write was tried, and its fault is the first one if there was none before
pub record TriesOn {W : Type 0} (tries : W → List ℕ → ℕ → Option ErrorKind → W → Type 0) (old : W) (bytes : List ℕ) (n : ℕ) (first last : Option Error) (new : W) : Type 0 where
  pub fault : Option ErrorKind
  pub tried : tries old bytes n fault new
  pub kind : option_map error_kind last ≡ option_or (option_map error_kind first) (option_map reported_kind fault)

-- the first n bytes of a line by itself were written, and it was counted
pub record WritesLine {W : Type 0} (contents : W → Option (List ℕ)) (tries : W → List ℕ → ℕ → Option ErrorKind → W → Type 0) (line : List ℕ) (n : ℕ) (old new : Batch W) : Type 0 where
  pub passes : WritesParts contents tries (part line n ∷ []) (line ∷ []) old new
  pub none_waits : new.waiting ≡ []
