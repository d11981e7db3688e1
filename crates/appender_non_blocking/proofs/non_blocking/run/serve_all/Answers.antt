use Rattle.std.proofs.Common.{sym, subst}
use Rattle.appender_worker.specs.Served.{ServesLines}
use Rattle.appender_non_blocking.proofs.Histories.{history_served}
use Rattle.appender_non_blocking.proofs.non_blocking.run.serve_all.Goals as goal

-- what the worker took is its history, and it wrote that
pub invariant_of-result : goal.invariant_of-result
invariant_of-result g c =
    let lines = c.serve-done.result.0.taker in
    let wrote = history_served c.serve-done.ensures (λ p. p.taker) lines (λ p q line h. h) (λ p q h. h) (λ p h. h) c.requires.history in
    subst (λ t. ServesLines t (g.W.Write.contents c.serve-done.new.writer) lines c.serve-done.result.1) (sym c.requires.first) wrote
