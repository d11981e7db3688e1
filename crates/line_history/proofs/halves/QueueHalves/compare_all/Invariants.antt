use Rattle.std.proofs.Common.{◌≡◌, ◌≤◌, take, length, vec_len}
use Rattle.line_history.proofs.Places.{ComparedFrom}
use Rattle.line_history.proofs.halves.QueueHalves.compare_all.Given as goal

-- those that are left are the first ones, and the others were compared
abbrev pub invariant-loop-sender : goal.invariant-loop-sender
invariant-loop-sender g l = record {
  same : l.self ≡ l.fn.self;
  left : l.senders.items ≡ take (length l.senders.items) l.fn.senders.items;
  few : length l.senders.items ≤ length l.fn.senders.items;
  compared : ComparedFrom (λ s. s.place) (λ s. s.lines) l.fn.self.sent l.fn.senders.items (length l.senders.items);
}

abbrev pub decreases-loop-sender : goal.decreases-loop-sender
decreases-loop-sender g l = vec_len l.senders
