use Rattle.std.proofs.Common.{◌≡◌, [], arith}
use Rattle.line_history.proofs.Lists.{all_from_map}
use Rattle.appender_non_blocking.proofs.non_blocking.run.open_halves.Goals as goal

pub returns-clause-senders : goal.returns-clause-senders
returns-clause-senders g c =
    all_from_map (λ s n. (s.place ≡ n) × (s.lines ≡ [])) _ (λ s n new. (new.0, new.1, omega arith)) c.in_ok-halves.shares.items 0 c.in_ok-halves.ensures.senders
