use Rattle.std.proofs.Common.{◌≡◌, ◌+◌, ◌^◌, ◌<◌, ◌≤◌, vec_len}
use Rattle.std.specs.Vec.{vec_capacity}
use Rattle.line_history.specs.Lines.{AllFrom}
use Rattle.appender_non_blocking.proofs.non_blocking.counted.split_shares.Given as goal

-- one part is left for each sender that is still to be made, and one for the guard
abbrev pub invariant-loop-place : goal.invariant-loop-place
invariant-loop-place g l = record {
  parts : l.share.parts + l.place ≡ l.fn.senders + 1;
  amount : l.share.amount ≡ 0;
  count : vec_len l.made ≡ l.place;
  room : l.fn.senders ≤ vec_capacity l.made;
  made : AllFrom (λ s n. (s.place ≡ n) × (s.place + 1 < g.A.Ledger.parts) × (s.share.parts ≡ 1) × (s.share.amount ≡ 0) × (0 < 2 ^ 64)) 0 l.made.items;
}
