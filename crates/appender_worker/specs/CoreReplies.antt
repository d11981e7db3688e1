-- Results that are passed to the worker, and what it wants.
use Rattle.std.specs.Prelude.{◌≡◌, ℕ, Bool, true, false, if◌then◌else◌, Result, Ok, Err}
use Rattle.std.specs.IoError.{error_kind}
use Rattle.std.specs.declared.io.Error.{Error}
use Rattle.std.specs.declared.io.ErrorKind.{ErrorKind}
use Rattle.std.specs.declared.io.ErrorKind.TheVariants.{Interrupted as KindInterrupted}
use Rattle.appender_worker.specs.Core.{Core, Taking, Writing, Flushing, Ending, Over, Answer, Wrote, Interrupted, Failed, Found, Line as FoundLine, Last, Nothing}
use Rattle.appender_queue.specs.declared.queue.Taken.{Taken}
use Rattle.appender_queue.specs.declared.queue.Taken.TheVariants.{Line, Shutdown, Gone, Empty}
use Rattle.appender_worker.specs.declared.worker.Want.{Want}
use Rattle.appender_worker.specs.declared.worker.Want.TheVariants.{Take as WantTake, Write as WantWrite, Flush as WantFlush, Ended as WantEnded}

-- what a take found, of which the worker sees so much
abbrev pub found_in : Taken → Found
found_in (Line ticket line) = FoundLine line.items
found_in Shutdown = Last
found_in Gone = Last
found_in Empty = Nothing

-- whether a fault says that the call may be tried again
abbrev pub is_interruption : ErrorKind → Bool
is_interruption KindInterrupted = true
is_interruption kind = false

-- the result of a write, as far as the worker sees it
abbrev pub answer_of : Result ℕ Error → Answer
answer_of (Ok n) = Wrote n
answer_of (Err e) = if is_interruption (error_kind e) then Interrupted else Failed

-- that the worker wants this: a write of the whole rest, a flush, ..
abbrev pub HasWant : Core → Want → Type 0
HasWant (Taking waits) (WantTake w) = w ≡ waits
HasWant (Writing rest repeats) (WantWrite bytes) = bytes.now ≡ rest
HasWant Flushing WantFlush = Unit {0}
HasWant (Ending n) WantFlush = Unit {0}
HasWant Over WantEnded = Unit {0}
HasWant core want = ⊥
