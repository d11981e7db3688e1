use Rattle.std.proofs.Common.{◌≡◌, ◌≢◌, ℕ, ◌<◌, slice_index_or}
use Rattle.line_history.proofs.halves.QueueHalves.apart_from_all.Given as goal

-- nothing has changed, and the first ones have other places
abbrev pub invariant-loop-i : goal.invariant-loop-i
invariant-loop-i g l = record {
  same : (l.self ≡ l.fn.self) × (l.one ≡ l.fn.one) × (l.others.items ≡ l.fn.others.items);
  apart : (i : ℕ) (d : _) → i < l.i → l.fn.one.place ≢ (slice_index_or l.fn.others.items i d).place;
}
