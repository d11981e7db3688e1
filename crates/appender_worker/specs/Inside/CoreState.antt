-- The worker's fields, and what they mean.
use Rattle.std.specs.Prelude.{◌<◌, ◌≤◌, length, drop}
use Rattle.appender_worker.specs.Core.{Core, Taking, Writing, Flushing, Ending, Over, most_repeats}
use Rattle.appender_worker.specs.declared.worker.State.{State}
use Rattle.appender_worker.specs.declared.worker.State.TheVariants.{Take, Write, Flush, End, Ended}

-- what the worker does next, in this state
abbrev pub core_of : State → Core
core_of (Take waits) = Taking waits
core_of (Write line from repeats) = Writing (drop from line.items) repeats
core_of Flush = Flushing
core_of (End flushes) = Ending flushes
core_of Ended = Over

-- a line in hand has bytes left, and was interrupted only so often
abbrev pub IsValidState : State → Type 0
IsValidState (Take waits) = Unit {0}
IsValidState (Write line from repeats) = (from < length line.items) × (repeats ≤ most_repeats)
IsValidState Flush = Unit {0}
IsValidState (End flushes) = Unit {0}
IsValidState Ended = Unit {0}
