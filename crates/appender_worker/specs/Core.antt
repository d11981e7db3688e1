-- What the worker does next, by the results so far.
use Rattle.std.specs.Prelude.{ℕ, ◌+◌, List, [], ◌∷◌, Bool, true, false, ◌==◌, if◌then◌else◌, nat_le, nat_lt, length, drop}

-- it takes, waiting or not; it writes what is left of a line, which was interrupted so often; it flushes once after
-- lines; it flushes a number of times before the end; or it has ended
pub data Core : Type 0 where
  Taking : Bool → Core
  Writing : List ℕ → ℕ → Core
  Flushing : Core
  Ending : ℕ → Core
  Over : Core

-- the result of a write: how many bytes were taken, that it was interrupted, or any other fault
pub data Answer : Type 0 where
  Wrote : ℕ → Answer
  Interrupted : Answer
  Failed : Answer

-- what a take finds: a line, the end (the shutdown, or that no sender is left), or nothing
pub data Found : Type 0 where
  Line : List ℕ → Found
  Last : Found
  Nothing : Found

-- how often one line may be interrupted and tried again
abbrev pub most_repeats : ℕ
most_repeats = 100

-- after a take: a line is written, but an empty one makes no write; the end is preceded by two flushes;
-- where nothing was found, one flush comes if the take didn't wait
abbrev pub after_took : Core → Found → Core
after_took (Taking waits) (Line []) = Taking false
after_took (Taking waits) (Line (byte ∷ bytes)) = Writing (byte ∷ bytes) 0
after_took (Taking waits) Last = Ending 2
after_took (Taking true) Nothing = Taking true
after_took (Taking false) Nothing = Flushing
after_took core found = core

-- after a write: the rest is written; a line is given up at a write of no byte, at an interruption after the greatest
-- number of repeats, or at any other fault, and then the next take waits
abbrev pub after_wrote : Core → Answer → Core
after_wrote (Writing rest repeats) (Wrote n) =
    if n == 0 then Taking true else if nat_le (length rest) n then Taking false else Writing (drop n rest) repeats
after_wrote (Writing rest repeats) Interrupted = if nat_lt repeats most_repeats then Writing rest (repeats + 1) else Taking true
after_wrote (Writing rest repeats) Failed = Taking true
after_wrote core answer = core

-- after a flush, whatever its result
abbrev pub after_flushed : Core → Core
after_flushed Flushing = Taking true
after_flushed (Ending n) = if n == 2 then Ending 1 else Over
after_flushed core = core

-- whether it wants to take
abbrev pub is_taking : Core → Bool
is_taking (Taking waits) = true
is_taking core = false

-- whether it wants to write
abbrev pub is_writing : Core → Bool
is_writing (Writing rest repeats) = true
is_writing core = false

-- whether it wants to flush
abbrev pub is_flushing : Core → Bool
is_flushing Flushing = true
is_flushing (Ending n) = true
is_flushing core = false
