-- A writer that gathers lines, and writes them together.
use Rattle.std.specs.Prelude.{◌≡◌, ℕ, zero, suc, ◌+◌, ◌<◌, ◌≤◌, List, [], ◌∷◌, ◌++◌, Bool, true, false, ◌||◌, Option, None, Some, Result, Err, OnOk, is_some, nat_lt, length, map, flat_map, sum_by, count_by, filter}
use Rattle.std.specs.Option.{option_map, option_or}
use Rattle.std.specs.Io.KnownBytes.{Appends, Keeps}
use Rattle.std.specs.IoError.{error_kind}
use Rattle.std.specs.declared.io.Error.{Error}
use Rattle.std.specs.declared.io.ErrorKind.{ErrorKind}
use Rattle.appender_queue.specs.Queue.{saturating_next}
use Rattle.appender_worker.specs.Parts.{Part, part, line_of, written_of, is_whole, is_cut}
use Rattle.appender_worker.specs.Tries.{WriteTry, is_failed, first_fault, TriesWrites, FailWithin}

-- its writer, how many bytes it gathers, the lines that wait, since they were gathered and not written yet, how many lines its
-- writer took whole and not whole, and the first fault after the last flush
pub record Batch (W : Type 0) : Type 0 where
  pub writer : W
  pub capacity : ℕ
  pub waiting : List (List ℕ)
  pub taken : ℕ
  pub lost : ℕ
  pub fault : Option Error

-- no line was gathered or counted yet
abbrev pub new_batch : {W : Type 0} → W → ℕ → Batch W
new_batch writer capacity = record { writer = writer; capacity = capacity; waiting = []; taken = 0; lost = 0; fault = None }

-- how many lines wait at most
abbrev pub most_lines : ℕ
most_lines = 1024

-- no more lines wait than that, of no more bytes than the capacity
pub record IsWithin {W : Type 0} (b : Batch W) : Type 0 where
  pub bytes : sum_by length b.waiting ≤ b.capacity
  pub lines : length b.waiting ≤ most_lines

-- there is room for a line of n bytes beside those that wait
pub record HasRoomFor {W : Type 0} (b : Batch W) (n : ℕ) : Type 0 where
  pub bytes : sum_by length b.waiting + n ≤ b.capacity
  pub lines : length b.waiting < most_lines

-- the sum of two counts, up to the greatest count
abbrev pub saturating_sum : ℕ → ℕ → ℕ
saturating_sum n zero = n
saturating_sum n (suc added) = saturating_next (saturating_sum n added)

-- the fault of before, or else that of the first of these writes which failed
pub record KeepsFirstFault (asked : List WriteTry) (old new : Option Error) : Type 0 where
  pub later : Option Error
  pub kept : new ≡ option_or old later
  pub kind : option_map error_kind later ≡ first_fault asked

-- Of these lines the first were written, in order: each up to the place in its part, and each was counted. The others wait. Each line
-- that was not written whole had a write of its own that failed within it, so the lines after it were tried. The first fault is kept.
pub record WritesParts {W : Type 0} (contents : W → Option (List ℕ)) (tries : W → List ℕ → ℕ → Option ErrorKind → W → Type 0) (parts : List Part) (lines : List (List ℕ)) (old new : Batch W) : Type 0 where
  pub order : lines ≡ map line_of parts ++ new.waiting
  pub bytes : Appends (contents old.writer) (contents new.writer) (flat_map written_of parts)
  pub taken : new.taken ≡ saturating_sum old.taken (count_by is_whole parts)
  pub lost : new.lost ≡ saturating_sum old.lost (count_by is_cut parts)
  pub capacity : new.capacity ≡ old.capacity
  pub asked : List WriteTry
  pub were_asked : TriesWrites tries old.writer asked new.writer
  pub failed_within : FailWithin (filter is_failed asked) (filter is_cut parts)
  pub fault : KeepsFirstFault asked old.fault new.fault

-- the lines that wait were written
pub record WritesWaiting {W : Type 0} (contents : W → Option (List ℕ)) (tries : W → List ℕ → ℕ → Option ErrorKind → W → Type 0) (old new : Batch W) : Type 0 where
  pub parts : List Part
  pub passes : WritesParts contents tries parts old.waiting old new
  pub none_waits : new.waiting ≡ []
  pub failed : is_some new.fault ≡ (is_some old.fault || nat_lt 0 (count_by is_cut parts))

-- the line is after those that wait, of which the first may have been written, and itself too
pub record Gathers {W : Type 0} (contents : W → Option (List ℕ)) (tries : W → List ℕ → ℕ → Option ErrorKind → W → Type 0) (line : List ℕ) (old new : Batch W) : Type 0 where
  pub parts : List Part
  pub passes : WritesParts contents tries parts (old.waiting ++ line ∷ []) old new
  pub failed : is_some new.fault ≡ (is_some old.fault || nat_lt 0 (count_by is_cut parts))

-- the lines that wait were written, and then the line was not taken whole
pub record LosesLine {W : Type 0} (contents : W → Option (List ℕ)) (tries : W → List ℕ → ℕ → Option ErrorKind → W → Type 0) (line : List ℕ) (old new : Batch W) : Type 0 where
  pub parts : List Part
  pub length_written : ℕ
  pub cut : length_written < length line
  pub passes : WritesParts contents tries (parts ++ part line length_written ∷ []) (old.waiting ++ line ∷ []) old new
  pub none_waits : new.waiting ≡ []
  pub failed : is_some new.fault ≡ true

-- the first fault as an error, or else this
abbrev pub error_or : Option Error → Result Unit Error → Result Unit Error
error_or None other = other
error_or (Some fault) other = Err fault

-- The lines that wait were written, and then the writer was flushed. The first fault after the last flush is returned, or else what the
-- writer's flush returned. So success says that each line after the last flush was taken whole.
pub record WritesAndFlushes {W : Type 0} (contents : W → Option (List ℕ)) (tries : W → List ℕ → ℕ → Option ErrorKind → W → Type 0) (flushes : W → Result Unit Error → W → Type 0) (result : Result Unit Error) (old new : Batch W) : Type 0 where
  pub written : Batch W
  pub writes : WritesWaiting contents tries old written
  pub answer : Result Unit Error
  pub flushed : flushes written.writer answer new.writer
  pub bytes : Keeps (contents written.writer) (contents new.writer)
  pub reported : result ≡ error_or written.fault answer
  pub ok : OnOk result (written.fault ≡ None)
  pub same : new ≡ record written { writer = new.writer; fault = None }
