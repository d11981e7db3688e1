use Rattle.std.proofs.Common.{◌≡◌, ◌+◌, ◌-◌, ◌^◌, ◌≤◌, min, vec_len}
use Rattle.appender_non_blocking.specs.Account.{total_queued, total_dropped}
use Rattle.appender_non_blocking.proofs.non_blocking.account.end_all.Given as goal

-- what was added up, and what the senders still have, are together what they had at first
abbrev pub invariant-loop-sender : goal.invariant-loop-sender
invariant-loop-sender g l = record {
  parts : l.all.parts + vec_len l.senders ≡ l.fn.part.parts + vec_len l.fn.senders;
  accepted : l.all.amount + total_queued l.senders.items ≡ total_queued l.fn.senders.items;
  dropped : min (l.dropped + total_dropped l.senders.items) (2 ^ 64 - 1) ≡ min (total_dropped l.fn.senders.items) (2 ^ 64 - 1);
  small : l.dropped ≤ 2 ^ 64 - 1;
}

abbrev pub decreases-loop-sender : goal.decreases-loop-sender
decreases-loop-sender g l = vec_len l.senders
