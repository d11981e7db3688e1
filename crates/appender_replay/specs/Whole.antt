-- What follows of a whole run: which lines were handed, and what the worker wrote of them.
use Rattle.std.specs.Prelude.{◌≡◌, ◌⊎◌, ℕ, ◌<◌, ◌≤◌, List, [], ◌∷◌, ◌++◌, Bool, true, All, length, take}
use Rattle.appender_worker.specs.Core.{Core}
use Rattle.appender_queue.specs.Queue.{Queue}
use Rattle.appender_rolling.specs.Config.{Config}
use Rattle.appender_replay.specs.Start.{Start}
use Rattle.appender_replay.specs.Headline.{Follows, account, FileCall, Try, bytes_taken}
use Rattle.appender_replay.specs.Record.{StepWithReply, WrittenLine, refusals, account_queue, account_core, accepted_labels, handed_labels, written_lines, text_of_lines, whole_lines}

-- ---- the worker's text

-- A line that the worker is done with: it was written whole, or given up.
abbrev pub IsDone : WrittenLine → Type 0
IsDone w = (w.is_given_up ≡ true) ⊎ (w.written ≡ w.line)

-- each is done, but the newest where the worker still has a rest of it in hand
abbrev pub AreDone : List ℕ → List WrittenLine → Type 0
AreDone rest [] = Unit {0}
AreDone rest (w ∷ earlier) = (rest ≡ [] → IsDone w) × All IsDone earlier

-- what was written of a line is a beginning of it, and not all of it where the line was given up
pub record IsBegun (w : WrittenLine) : Type 0 where
  pub beginning : w.written ≡ take (length w.written) w.line
  pub cut_short : w.is_given_up ≡ true → length w.written < length w.line

-- ---- a run

-- all writes and flushes of these tries, the newest first
abbrev pub calls_of : List Try → List FileCall
calls_of [] = []
calls_of (t ∷ earlier) = t.calls ++ calls_of earlier

module _ (c : Config) (start : Start) (past : List StepWithReply) where
  -- The handed lines are the first of the accepted ones, those of each label in its order too.
  pub record HandsInOrder : Type 0 where
    pub most : (account c start past).handed ≤ length (account c start past).accepted
    pub labels : handed_labels past ≡ take (account c start past).handed (accepted_labels past)

  -- What was written are the bytes of the handed lines, line after line: of each a beginning, and the whole line unless it was given up
  -- or is still in hand.
  pub record TextLaw : Type 0 where
    pub lines : whole_lines (written_lines c start past) ≡ take (account c start past).handed (account c start past).accepted
    pub text : bytes_taken (calls_of ((account c start past).files.newest ∷ (account c start past).files.earlier)) ≡ text_of_lines (written_lines c start past)
    pub begun : All IsBegun (written_lines c start past)
    pub done : AreDone (account c start past).rest (written_lines c start past)

  -- What follows of the lines: each reply is the one that the account of the steps before it demands, and the account leads to this queue and
  -- this worker; the lines were handed in order; and what the worker wrote is of these lines.
  pub record LinesFollow (limit : ℕ) (lossy : Bool) (queue : Queue) (worker : Core) : Type 0 where
    pub answers : Follows limit c start past
    pub queue_is : queue ≡ account_queue limit lossy (refusals past) (account c start past)
    pub worker_is : worker ≡ account_core (account c start past)
    pub order : HandsInOrder
    pub text : TextLaw
