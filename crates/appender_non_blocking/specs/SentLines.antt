-- What a sender sent, line by line.
use Rattle.std.specs.Prelude.{ℕ, ◌+◌, ◌-◌, ◌^◌, Bool, min, List, [], ◌∷◌, ◌++◌, map, Result, Ok, Err}
use Rattle.std.specs.List.{range_with_len}
use Rattle.std.specs.declared.io.Error.{Error}
use Rattle.appender_non_blocking.specs.declared.non_blocking.sender.Sent.{Sent}
use Rattle.appender_non_blocking.specs.declared.non_blocking.sender.Sent.TheVariants.{Queued, Dropped}

-- what a counted sender shows
pub record SentLines : Type 0 where
  -- its lines that were queued, in their order
  pub lines : List (List ℕ)
  -- how many of its lines were dropped
  pub dropped : ℕ
  -- the ticket of the last one that was queued, 0 before the first
  pub last_ticket : ℕ
  -- the place of the queue from which it offers
  pub place : ℕ
  -- whether its queue is lossy
  pub lossy : Bool

abbrev pub new_sender : Bool → ℕ → SentLines
new_sender lossy place = record { lines = []; dropped = 0; last_ticket = 0; place = place; lossy = lossy }

-- this number of senders, each with a place of its own: 0, 1, 2, ..
abbrev pub new_senders : Bool → ℕ → List SentLines
new_senders lossy count = map (new_sender lossy) (range_with_len 0 count)

-- after a line: it is the last one that was queued, with this ticket, exactly after Queued, and one more was dropped exactly after
-- Dropped
abbrev pub sent_after_line : SentLines → List ℕ → Result Sent Error → SentLines
sent_after_line s line (Ok (Queued ticket)) = record s { lines = s.lines ++ line ∷ []; last_ticket = ticket }
sent_after_line s line (Ok Dropped) = record s { dropped = min (s.dropped + 1) (2 ^ 64 - 1) }
sent_after_line s line (Err e) = s
