use Rattle.std.proofs.Common.{◌≡◌, ◌+◌, ◌≤◌, ◌++◌, reverse, vec_len}
use Rattle.std.specs.Vec.{vec_capacity}
use Rattle.appender_non_blocking.specs.Inside.Jobs.{senders_of, works_of}
use Rattle.appender_non_blocking.proofs.non_blocking.work.pair.Given as goal

-- what stands side by side, the last ones first, and what is left
abbrev pub invariant-loop-sender : goal.invariant-loop-sender
invariant-loop-sender g l = record {
  senders : l.senders.items ++ reverse (senders_of l.jobs.items) ≡ l.fn.senders.items;
  works : l.works.items ++ reverse (works_of l.jobs.items) ≡ l.fn.works.items;
  long : vec_len l.works ≡ vec_len l.senders;
  count : vec_len l.jobs + vec_len l.senders ≡ vec_len l.fn.senders;
  room : vec_len l.jobs + vec_len l.senders ≤ vec_capacity l.jobs;
  room_for_senders : vec_capacity l.senders ≡ vec_capacity l.fn.senders;
  room_for_works : vec_capacity l.works ≡ vec_capacity l.fn.works;
}

abbrev pub decreases-loop-sender : goal.decreases-loop-sender
decreases-loop-sender g l = vec_len l.senders
