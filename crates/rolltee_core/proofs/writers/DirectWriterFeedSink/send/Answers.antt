use Rattle.std.proofs.Common.{◌++◌, ap, sym, ◌∙◌, arith}
use Rattle.rolltee_core.proofs.Taken.{noted_on}
use Rattle.rolltee_core.proofs.writers.DirectWriterFeedSink.send.Goals as goal

pub invariant_of-self : goal.invariant_of-self
invariant_of-self g c = λ none.
    let text = c.args.text.now in
    noted_on c.self.inside.given.lines text c.note.ensures ∙ ap (λ t. t ++ text) (c.self.invariant (omega (arith, none, c.saturating_add-self-inside.ensures)))
    ∙ sym (c.write_lines-lost.ensures (omega (arith, none, c.saturating_add-self-inside.ensures)))

pub returns : goal.returns
returns g c = noted_on c.self.inside.given.lines c.args.text.now c.note.ensures ∙ ap (λ t. t ++ c.args.text.now) c.self.view_is
