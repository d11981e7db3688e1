use Rattle.std.proofs.Common.{[], ◌∷◌, ◌++◌, OnOk, ap, sym, subst, ◌∙◌, append_assoc}
use Rattle.std.specs.Prelude.{codes}
use Rattle.std.specs.Fmt.{decimal}
use Rattle.std.specs.Io.KnownBytes.{Appends}
use Rattle.program_io.specs.Report.{AppendsBeginning}
use Rattle.rollplay_core.proofs.Written.{text_is}
use Rattle.rollplay_core.proofs.play.report_line.Goals as goal

pub returns-clause-whole : goal.returns-clause-whole
returns-clause-whole g c =
    let text = text_is _ _ _ c.in_ok-writeln.ensures.writes c.new-text.ensures.intact c.new-text.ensures.text in
    let line = c.as_bytes.ensures.value ∙ c.as_str.ensures.value ∙ text ∙ ap (λ l. codes "line " ++ l) (sym (append_assoc (decimal c.args.number) (codes ": fault") (10 ∷ []))) in
    subst (λ words. OnOk c.report.result (Appends (g.E.Write.contents c.args.errors.now) (g.E.Write.contents c.report.new.errors) words)) line c.report.ensures.whole

pub returns-clause-beginning : goal.returns-clause-beginning
returns-clause-beginning g c =
    let text = text_is _ _ _ c.in_ok-writeln.ensures.writes c.new-text.ensures.intact c.new-text.ensures.text in
    let line = c.as_bytes.ensures.value ∙ c.as_str.ensures.value ∙ text ∙ ap (λ l. codes "line " ++ l) (sym (append_assoc (decimal c.args.number) (codes ": fault") (10 ∷ []))) in
    subst (λ words. AppendsBeginning (g.E.Write.contents c.args.errors.now) (g.E.Write.contents c.report.new.errors) words) line c.report.ensures.beginning
