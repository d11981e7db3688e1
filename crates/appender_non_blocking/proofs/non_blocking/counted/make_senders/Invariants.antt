use Rattle.std.proofs.Common.{◌≡◌, ◌+◌, ◌≤◌, [], length, vec_len}
use Rattle.std.specs.Vec.{vec_capacity}
use Rattle.line_history.specs.Lines.{AllFrom}
use Rattle.appender_non_blocking.specs.SentLines.{new_senders}
use Rattle.appender_non_blocking.proofs.non_blocking.counted.make_senders.Given as goal

-- those that were made, and the shares of those that are still to be made
abbrev pub invariant-loop-mine : goal.invariant-loop-mine
invariant-loop-mine g l = record {
  made : l.made.items ≡ new_senders l.fn.local.lossy (vec_len l.made);
  shares : AllFrom (λ m place. g.B.SenderBooks.has_sent m place []) (vec_len l.made) l.mine-iterator.rest.items;
  count : vec_len l.made + length l.mine-iterator.rest.items ≡ vec_len l.fn.shares;
  room : vec_len l.fn.shares ≤ vec_capacity l.made;
}
