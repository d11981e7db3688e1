use Rattle.std.proofs.Common.{◌∙◌, sym, subst, List, ℕ}
use Rattle.appender_names.specs.DateText.{IsDateText}
use Rattle.appender_names.proofs.Marks.{marked_date}
use Rattle.appender_names.proofs.names.read_mark.Goals as goal

pub returns-in_err-read_date : goal.returns-in_err-read_date
returns-in_err-read_date c =
    rw c.from_residual-in_err-read_date.ensures (λ s k m.
    let date = marked_date c.args.numbered m.date c.in_ok-date.date.now k c.in_ok-date.number (sym m.text ∙ c.in_ok-date.ensures.1) in
    c.in_err-read_date.ensures s (subst (λ (d : List ℕ). IsDateText c.args.kind d s) date m.is_date))
