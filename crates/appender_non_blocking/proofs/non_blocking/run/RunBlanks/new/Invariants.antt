use Rattle.std.proofs.Common.{◌≡◌, vec_len}
use Rattle.std.specs.Vec.{vec_capacity}
use Rattle.appender_non_blocking.proofs.non_blocking.run.RunBlanks.new.Given as goal

-- a history for each sender
abbrev pub invariant-loop : goal.invariant-loop
invariant-loop l = (vec_len l.histories ≡ l.counter) × (vec_capacity l.histories ≡ l.fn.senders)
