use Rattle.std.proofs.Common.{sym, ap, ◌∙◌, ◌++◌}
use Rattle.std.specs.List.{concat}
use Rattle.rolltee_core.proofs.tee.send_after.Goals as goal

pub returns-in-Ok : goal.returns-in-Ok
returns-in-Ok g c = record {
  sent = λ none all text is.
      let fed = (rw c.in-Ok.is at c.feed_pieces-queue.ensures) (sym c.settled-sender.ensures.unechoed ∙ all) text is in
      (fed.0, fed.1, ap concat (c.settled-sender.ensures.queued none) ∙ fed.2 ∙ ap (λ t. t ++ fed.0) c.requires.first);
}
