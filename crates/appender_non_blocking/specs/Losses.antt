-- What a log lost.
use Rattle.std.specs.Prelude.{true, false}
use Rattle.appender_non_blocking.specs.declared.non_blocking.losses.Losses.{Losses}
use Rattle.appender_non_blocking.specs.declared.non_blocking.guard.Closing.{Closing}
use Rattle.appender_non_blocking.specs.declared.non_blocking.guard.Closing.TheVariants.{Done, Ended}

-- nothing
abbrev pub no_losses : Losses
no_losses = record { records = 0; dropped = 0; left = 0; unwritten = 0; is_open = false }

-- what was lost by the result of closing a guard
abbrev pub losses_at : Closing → Losses
losses_at (Done left) = record no_losses { left = left }
losses_at Ended = no_losses
losses_at closing = record no_losses { is_open = true }
