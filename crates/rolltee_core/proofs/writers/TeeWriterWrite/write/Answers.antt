use Rattle.std.proofs.Common.{◌++◌, ap, sym, ◌∙◌, arith, take_all}
use Rattle.rolltee_core.proofs.Taken.{given_on, noted_on}
use Rattle.rolltee_core.proofs.writers.TeeWriterWrite.write.Goals as goal

pub invariant_of-self-2 : goal.invariant_of-self-2
invariant_of-self-2 g c none =
    let given = c.self.inside.given.lines in
    noted_on given c.args.line.now c.note.ensures ∙ given_on given c.args.line.now c.in_ok-taken.ensures.passes c.self.invariant none

pub returns-clause-bytes : goal.returns-clause-bytes
returns-clause-bytes g c =
    let line = c.args.line.now in
    let whole = take_all c.in_ok-taken.taken line (omega (arith, c.in_ok-taken.ensures.whole)) in
    noted_on c.self.inside.given.lines line c.note.ensures ∙ ap (λ t. t ++ line) c.self.view_is ∙ ap (λ t. c.args.self.now ++ t) (sym whole)
