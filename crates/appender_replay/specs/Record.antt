-- What follows from the account of a run: the queue, what the worker does next, and what was written of the lines. Also what each step does
-- to the roller, and which moment it reads.
use Rattle.std.specs.Prelude.{◌≡◌, ℕ, ◌+◌, ◌-◌, ◌^◌, List, [], ◌∷◌, ◌++◌, Bool, false, not, ◌||◌, ◌==◌, nat_le, if◌then◌else◌, length, get_or, take, drop, min, ℤ, Option, Some, None, Result, Ok, Err}
use Rattle.std.specs.declared.io.Error.{Error}
use Rattle.std.specs.declared.io.ErrorKind.{ErrorKind}
use Rattle.appender_worker.specs.Core.{Core, Taking, Writing, Flushing, Ending, Over, most_repeats}
use Rattle.appender_worker.specs.CoreReplies.{is_interruption}
use Rattle.appender_queue.specs.Queue.{Queue}
use Rattle.appender_store.specs.declared.store.Folder.{Ghosts}
use Rattle.appender_rolling.specs.Config.{Config}
use Rattle.appender_rolling.specs.Roller.{Rolling, Puts, Flushes}
use Rattle.appender_replay.specs.Start.{Start}
use Rattle.appender_replay.specs.Headline.{RunAccount, account, by_kind}
use Rattle.appender_replay.specs.declared.replay.whole.Step.{Step}
use Rattle.appender_replay.specs.declared.replay.whole.Step.TheVariants.{Offer, Work}
use Rattle.appender_replay.specs.declared.replay.whole.Reply.{Reply}
use Rattle.appender_replay.specs.declared.replay.whole.Reply.TheVariants.{Accepted, Full, Closed, Took, Wrote, Flushed}

-- a step with its reply
abbrev pub StepWithReply : Type 0
StepWithReply = Step × Reply

-- ---- queue and worker

-- how many offers found no place or a closed queue
abbrev pub refusals : List StepWithReply → ℕ
refusals [] = 0
refusals ((Offer label line, Full) ∷ earlier) = refusals earlier + 1
refusals ((Offer label line, Closed) ∷ earlier) = refusals earlier + 1
refusals (t ∷ earlier) = refusals earlier

-- the queue, after this number of refusals
abbrev pub account_queue : ℕ → Bool → ℕ → RunAccount → Queue
account_queue limit lossy refused a = record {
  lines = if a.closed then [] else drop a.handed a.accepted;
  accepted = length a.accepted;
  handed = a.handed;
  shutdown = a.shutdown;
  closed = a.closed;
  senders = a.senders;
  worker_waits = a.idle;
  dropped = if lossy then min refused (2 ^ 64 - 1) else 0;
  limit = limit;
  lossy = lossy;
  last_tickets = [];
}

-- what the worker does next: it writes the line in hand, makes the flushes that are due, or else takes, until it found the end
abbrev pub account_core : RunAccount → Core
account_core a =
    if not (length a.rest == 0) then Writing a.rest a.interrupted
    else if a.flushes == 0 then (if a.closed then Over else Taking (not a.whole))
    else if a.closed then Ending a.flushes else Flushing

-- ---- labels

-- the labels of the accepted lines, in order
abbrev pub accepted_labels : List StepWithReply → List ℕ
accepted_labels [] = []
accepted_labels ((Offer label line, Accepted ticket) ∷ earlier) = accepted_labels earlier ++ label ∷ []
accepted_labels (t ∷ earlier) = accepted_labels earlier

-- those of the lines that the worker took, by their tickets, which count the accepted lines from 1
abbrev pub handed_labels : List StepWithReply → List ℕ
handed_labels [] = []
handed_labels ((Work m, Took ticket) ∷ earlier) = handed_labels earlier ++ get_or (accepted_labels earlier) (ticket - 1) 0 ∷ []
handed_labels (t ∷ earlier) = handed_labels earlier

-- ---- what is written of the lines

-- A line that the worker took, and what became of it: the bytes that its writes took, how often they were interrupted, and
-- whether it was given up.
pub record WrittenLine : Type 0 where
  pub line : List ℕ
  pub written : List ℕ
  pub interruptions : ℕ
  pub is_given_up : Bool

abbrev pub taken_line : List ℕ → WrittenLine
taken_line line = record { line = line; written = []; interruptions = 0; is_given_up = false }

-- after one more write, of the rest of the line: it is given up at a write of no byte, at an interruption after the greatest
-- number of them, or at any other fault
abbrev pub line_after_write : WrittenLine → Result ℕ ErrorKind → WrittenLine
line_after_write w (Ok n) = record w { written = w.written ++ take n (drop (length w.written) w.line); is_given_up = n == 0 }
line_after_write w (Err kind) =
    record w { interruptions = if is_interruption kind then w.interruptions + 1 else w.interruptions; is_given_up = not (is_interruption kind) || nat_le most_repeats w.interruptions }

abbrev pub written_by : RunAccount → StepWithReply → List WrittenLine → List WrittenLine
written_by a (Work m, Took ticket) earlier = taken_line (get_or a.accepted a.handed []) ∷ earlier
written_by a (Work m, Wrote switch answer) (w ∷ earlier) = line_after_write w answer ∷ earlier
written_by a t earlier = earlier

-- all lines that the worker took, the newest first
abbrev pub written_lines : Config → Start → List StepWithReply → List WrittenLine
written_lines c start [] = []
written_lines c start (t ∷ earlier) = written_by (account c start earlier) t (written_lines c start earlier)

-- their bytes that were written, strung together, the oldest first
abbrev pub text_of_lines : List WrittenLine → List ℕ
text_of_lines [] = []
text_of_lines (w ∷ earlier) = text_of_lines earlier ++ w.written

-- the lines themselves, the oldest first
abbrev pub whole_lines : List WrittenLine → List (List ℕ)
whole_lines [] = []
whole_lines (w ∷ earlier) = whole_lines earlier ++ w.line ∷ []

-- ---- the roller

-- What a step does to the roller, with this rest of the line in hand: a write of the worker checks the clock and puts the rest, a flush of
-- it flushes, and no other step touches the roller. Replies show only the kinds of faults.
abbrev pub RollerDoes : {S F : Type 0} → Ghosts S F → List ℕ → StepWithReply → Rolling S F → Rolling S F → Type 0
RollerDoes kind rest (Work m, Wrote switch shown) old new =
    (answer : Result ℕ Error) × (shown ≡ by_kind answer) × Puts kind m rest switch answer old new
RollerDoes kind rest (Work m, Flushed shown) old new =
    (answer : Result (Unit {0}) Error) × (shown ≡ by_kind answer) × Flushes kind answer old new
RollerDoes kind rest t old new = new ≡ old

-- what a step after these does to the roller
abbrev pub WorkerDoes : {S F : Type 0} → Ghosts S F → Config → Start → List StepWithReply → StepWithReply → Rolling S F → Rolling S F → Type 0
WorkerDoes kind c start earlier = RollerDoes kind (account c start earlier).rest

-- the moment that a step reads: only a write of the worker checks the clock
abbrev pub read_in : StepWithReply → Option ℤ
read_in (Work m, Wrote switch answer) = Some m
read_in t = None
