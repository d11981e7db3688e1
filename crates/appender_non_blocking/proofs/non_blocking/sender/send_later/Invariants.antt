use Rattle.std.proofs.Common.{◌≡◌}
use Rattle.appender_non_blocking.proofs.non_blocking.sender.send_later.Given as goal

-- nothing was counted so far, and the line is the same
abbrev pub invariant-loop : goal.invariant-loop
invariant-loop g l = record {
  line : l.line ≡ l.fn.line;
  mine : l.mine ≡ l.fn.mine;
  lossy : l.local.lossy ≡ l.fn.local.lossy;
}
