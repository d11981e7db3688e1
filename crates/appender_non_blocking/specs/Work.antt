-- What works did with senders of their own, and what the worker wrote.
use Rattle.std.specs.Prelude.{◌≡◌, ◌<◌, ℕ, Bool, List, Option, IfSome, length, map, slice_index_or}
use Rattle.appender_worker.specs.Served.{ServesLines}
use Rattle.line_history.specs.Interleaving.{IsInterleaving}
use Rattle.appender_non_blocking.specs.Account.{IsAccount, new_guard}
use Rattle.appender_non_blocking.specs.SentLines.{SentLines, new_sender}
use Rattle.appender_non_blocking.specs.declared.non_blocking.lines.Ran.{Ran}
use Rattle.appender_non_blocking.specs.declared.non_blocking.work.RanAll.{RanAll}

-- Each of these works was run once, with a new sender. After that they are these, in the same order, and their senders
-- have sent this.
pub record RunsEachWork {K : Type 0} (does : K → SentLines → K → SentLines → Type 0) (lossy : Bool) (works done : List K) (ended : List SentLines) : Type 0 where
  pub each_work : length done ≡ length works
  pub each_sender : length ended ≡ length works
  pub did : (i : ℕ) (work : K) (sent : SentLines) → i < length works
      → does (slice_index_or works i work) (new_sender lossy i) (slice_index_or done i work) (slice_index_or ended i sent)

-- The worker took exactly the lines that the senders were told are queued: each once, those of each sender in their order, and no
-- other. It wrote them, and the account is theirs.
pub record RunsWorks {K W : Type 0} (does : K → SentLines → K → SentLines → Type 0) (contents : W → Option (List ℕ)) (lossy : Bool) (works : List K) (writer : W) (ran : RanAll K W) : Type 0 where
  pub ended : List SentLines
  pub each : RunsEachWork does lossy works ran.works.items ended
  pub taken : List (List ℕ)
  pub arrived : IsInterleaving (map (λ s. s.lines) ended) taken
  pub handed : ran.account.handed ≡ length taken
  pub account : IsAccount ran.account.accepted ran.account.handed ran.account.left ran.account.dropped (new_guard (length works)) ended
  pub wrote : ServesLines (contents writer) (contents ran.written.writer) taken ran.written.given_up

-- The work did what it may do with a new sender. If the worker ended in time, it wrote exactly the lines that were queued, in order.
pub record RunsLines {K W : Type 0} (does : K → SentLines → K → SentLines → Type 0) (contents : W → Option (List ℕ)) (lossy : Bool) (work : K) (writer : W) (ran : Ran K W) : Type 0 where
  pub ended : SentLines
  pub did : does work (new_sender lossy 0) ran.work ended
  pub wrote : IfSome ran.written (λ w. ServesLines (contents writer) (contents w.writer) ended.lines w.given_up)
