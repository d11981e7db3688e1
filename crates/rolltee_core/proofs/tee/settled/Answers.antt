use Rattle.std.proofs.Common.{ap, ◌∙◌}
use Rattle.rolltee_core.proofs.tee.settled.Goals as goal

pub returns-clause-queued : goal.returns-clause-queued
returns-clause-queued g c = λ none.
    let dropped = c.dropped.ensures none in
    ap (λ s. s.lines) c.into_sender.ensures.sender ∙ c.into_sender.ensures.queued dropped.0 dropped.1 ∙ ap (λ q. q.offered) c.settle.ensures
