use Rattle.std.proofs.Common.{ap, ◌∙◌, ◌++◌}
use Rattle.std.specs.List.{concat}
use Rattle.rolltee_core.proofs.Taken.{noted_on}
use Rattle.rolltee_core.proofs.feed.SenderQueue.drop_line.Goals as goal

pub returns : goal.returns
returns g c = ap (λ o. concat o.offered) c.report_drops.ensures ∙ noted_on c.self.inside.offered.lines c.args.line.now c.note.ensures ∙ ap (λ o. concat o.offered ++ c.args.line.now) c.self.view_is
