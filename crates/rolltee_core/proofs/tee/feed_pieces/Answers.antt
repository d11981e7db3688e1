use Rattle.std.proofs.Common.{sym, ap, ◌∙◌, ◌++◌}
use Rattle.rolltee_core.proofs.Outcome.{on_ok}
use Rattle.rolltee_core.proofs.Taken.{feeds_all}
use Rattle.rolltee_core.proofs.tee.feed_pieces.Goals as goal

pub returns : goal.returns
returns g c = on_ok c.copy_pieces-copied.result (λ all none text is.
    let parts = c.into_parts-sink.ensures.parts in
    let given = all text is ∙ ap (λ f. f.given ++ text) c.new-feed.ensures in
    let fed = feeds_all c.copy_pieces-copied.new.writer c.into_parts-sink.ensures.fed (sym parts.2 ∙ none) given (ap g.O.Write.contents (sym parts.1)) in
    (fed.0, fed.1, ap g.Q.FeedSink.sent parts.0 ∙ fed.2)) c.copy_pieces-copied.ensures.all
