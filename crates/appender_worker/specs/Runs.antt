-- One write of a worker, and what it does next.
use Rattle.std.specs.Prelude.{◌≡◌, ℕ, List, [], Bool, false, take, Option, Result}
use Rattle.std.specs.Io.KnownBytes.{Appends}
use Rattle.std.specs.declared.io.Error.{Error}
use Rattle.appender_worker.specs.Core.{Core, Taking, Writing, Answer, Wrote, after_wrote}
use Rattle.appender_worker.specs.CoreReplies.{answer_of}

-- the bytes that a write adds: what the writer took of the rest that it was offered
abbrev pub taken_bytes : Core → Answer → List ℕ
taken_bytes (Writing rest repeats) (Wrote n) = take n rest
taken_bytes core answer = []

-- what is left of the line in hand
abbrev pub rest_of : Core → List ℕ
rest_of (Writing rest repeats) = rest
rest_of core = []

-- One write of the rest of the line in hand was made, and the worker has its answer. What was taken of the rest was added to known bytes.
pub record WritesOnce {W : Type 0} (contents : W → Option (List ℕ)) (writes : W → List ℕ → Result ℕ Error → W → Type 0) (before after : W) (old new : Core) : Type 0 where
  pub answer : Result ℕ Error
  pub written : writes before (rest_of old) answer after
  pub bytes : Appends (contents before) (contents after) (taken_bytes old (answer_of answer))
  pub next : new ≡ after_wrote old (answer_of answer)

-- whether the worker waits at its next take
abbrev pub is_waiting : Core → Bool
is_waiting (Taking waits) = waits
is_waiting core = false
