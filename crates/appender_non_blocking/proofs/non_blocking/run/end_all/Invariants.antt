use Rattle.std.proofs.Common.{◌≡◌, ◌+◌, ◌-◌, ◌^◌, ◌≤◌, ◌++◌, length, map, min, vec_len}
use Rattle.std.specs.Vec.{vec_capacity}
use Rattle.appender_non_blocking.specs.Account.{total_dropped}
use Rattle.appender_non_blocking.proofs.non_blocking.run.end_all.Given as goal

-- the histories of those that have ended, and the lines of the others
abbrev pub invariant-loop-sender : goal.invariant-loop-sender
invariant-loop-sender g l = record {
  lines : map (λ h. h.lines) l.histories.items ++ map (λ s. s.lines) l.sender-iterator.rest.items ≡ map (λ s. s.lines) l.fn.senders.items;
  dropped : min (l.dropped + total_dropped l.sender-iterator.rest.items) (2 ^ 64 - 1) ≡ min (total_dropped l.fn.senders.items) (2 ^ 64 - 1);
  room : vec_len l.histories + length l.sender-iterator.rest.items ≤ vec_capacity l.histories;
  small : l.dropped ≤ 2 ^ 64 - 1;
}
