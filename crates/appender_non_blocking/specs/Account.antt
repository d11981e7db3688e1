-- What the guard of counted senders and their account show.
use Rattle.std.specs.Prelude.{◌≡◌, ℕ, ◌+◌, ◌-◌, ◌^◌, Bool, true, false, ◌||◌, min, List, length, sum_by}
use Rattle.std.specs.declared.sync.ledger.Blank.{Blank}
use Rattle.std.specs.declared.sync.ledger.Ledger.{Ghosts}
use Rattle.appender_non_blocking.specs.SentLines.{SentLines}
use Rattle.appender_non_blocking.specs.declared.non_blocking.account.Blanks.{Blanks}
use Rattle.appender_queue.specs.declared.queue.Shut.{Shut}
use Rattle.appender_queue.specs.declared.queue.Shut.TheVariants.{Sent as ShutSent, Already, Full, Closed}

-- a blank of a ledger, with all its parts, of which there are this many
abbrev pub IsBlankOf : {L : Type 0} → Ghosts L → ℕ → Blank → Type 0
IsBlankOf ledger parts blank = (blank.name ≡ ledger.name) × (blank.parts ≡ ledger.parts) × (blank.parts ≡ parts)

-- The blanks of the four ledgers of this number of senders. Of accepted lines there is one part for each sender and one for the guard.
abbrev pub AreBlanksOf : {A H S C : Type 0} → Ghosts A → Ghosts H → Ghosts S → Ghosts C → ℕ → Blanks → Type 0
AreBlanksOf accepted handed shutdowns closings senders blanks =
    IsBlankOf accepted (senders + 1) blanks.accepted
    × IsBlankOf handed 1 blanks.handed
    × IsBlankOf shutdowns 1 blanks.shutdowns
    × IsBlankOf closings 1 blanks.closings

-- what an account shows
pub record Totals : Type 0 where
  -- how many lines were queued
  pub accepted : ℕ
  -- how many of them the worker took
  pub handed : ℕ
  -- how many of them were left after a shutdown
  pub left : ℕ
  -- how many lines were dropped
  pub dropped : ℕ

-- how many senders were made with a guard, and whether a shutdown that it tried to send was sent
pub record Guard : Type 0 where
  pub made : ℕ
  pub sent : Bool

abbrev pub new_guard : ℕ → Guard
new_guard made = record { made = made; sent = false }

abbrev pub is_sent_reply : Shut → Bool
is_sent_reply ShutSent = true
is_sent_reply Already = false
is_sent_reply Full = false
is_sent_reply Closed = false

-- the guard after it tried to send the shutdown: once one was sent, that stays
abbrev pub guard_after_try : Guard → Shut → Guard
guard_after_try g reply = record g { sent = g.sent || is_sent_reply reply }

-- over all senders
abbrev pub total_queued : List SentLines → ℕ
total_queued senders = sum_by (λ s. length s.lines) senders

abbrev pub total_dropped : List SentLines → ℕ
total_dropped senders = sum_by (λ s. s.dropped) senders

-- the account of a guard and all its senders
pub record IsAccount (accepted handed left dropped : ℕ) (guard : Guard) (senders : List SentLines) : Type 0 where
  -- the accepted lines are those that a sender queued
  pub accepted_is : accepted ≡ total_queued senders
  pub dropped_is : dropped ≡ min (total_dropped senders) (2 ^ 64 - 1)
  -- every accepted line is accounted for
  pub adds_up : accepted ≡ handed + left
  -- only lines after a shutdown are left
  pub none_left : guard.sent ≡ false → left ≡ 0
