use Rattle.std.proofs.Common.{◌≡◌, ◌+◌, ◌≤◌, ◌++◌, reverse, vec_len}
use Rattle.std.specs.Vec.{vec_capacity}
use Rattle.appender_non_blocking.specs.Inside.Jobs.{senders_of, works_of}
use Rattle.appender_non_blocking.proofs.non_blocking.work.part.Given as goal

-- what was taken apart, and what is left, the last ones first
abbrev pub invariant-loop-job : goal.invariant-loop-job
invariant-loop-job g l = record {
  senders : l.senders.items ++ reverse (senders_of l.jobs.items) ≡ reverse (senders_of l.fn.jobs.items);
  works : l.works.items ++ reverse (works_of l.jobs.items) ≡ reverse (works_of l.fn.jobs.items);
  room_for_senders : vec_len l.senders + vec_len l.jobs ≤ vec_capacity l.senders;
  room_for_works : vec_len l.works + vec_len l.jobs ≤ vec_capacity l.works;
}

abbrev pub decreases-loop-job : goal.decreases-loop-job
decreases-loop-job g l = vec_len l.jobs
