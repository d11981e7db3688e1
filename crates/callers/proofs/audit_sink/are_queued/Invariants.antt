use Rattle.std.proofs.Common.{◌≡◌, ◌<◌, ℕ, true, slice_index_or}
use Rattle.callers.proofs.audit_sink.are_queued.Given as goal

-- those before this one were queued
abbrev pub invariant-loop-i : goal.invariant-loop-i
invariant-loop-i l = (k : ℕ) (d : _) → k < l.i → (slice_index_or l.fn.sources k d).is_queued ≡ true
