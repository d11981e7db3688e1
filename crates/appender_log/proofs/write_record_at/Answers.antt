-- Without a line nothing is written; with one, what is written of it and its time is what is written of the record.
use Rattle.std.proofs.Common.{◌∙◌, ap, sym, subst, refl, drop, FitsSigned}
use Rattle.std.specs.Int.{w128}
use Rattle.std.proofs.lemmas.Int.{to_z-of_z}
use Rattle.appender_log.specs.Written.{IsRecordLine, IsLineAt, room}
use Rattle.appender_log.proofs.Unwritten.{on_unwritten, whole, beginning, nothing}
use Rattle.appender_log.proofs.write_record_at.Goals as goal

pub returns-in_err-line-clause-beginning : goal.returns-in_err-line-clause-beginning
returns-in_err-line-clause-beginning g c = on_unwritten _ c.from_residual.result _

pub returns-in_err-line-2-clause-beginning : goal.returns-in_err-line-2-clause-beginning
returns-in_err-line-2-clause-beginning g c = on_unwritten _ c.from_residual-in_err-line-2.result _

pub returns-clause-whole : goal.returns-clause-whole
returns-clause-whole g c =
    let fits : FitsSigned w128 c.args.nanos = c.ranges.nanos in
    let same = ap (drop room) c.as_mut_slice.ensures.value ∙ c.in_ok-line-2.ensures.line ∙ c.as_slice.ensures.value in
    let is_line = subst (IsRecordLine _) (sym same) c.in_ok-line.ensures in
    let wrote = rw (to_z-of_z w128 c.args.nanos fits) at c.write_line_at.ensures.whole in
    whole (IsLineAt c.args.nanos _) c.write_line_at.result _ _ _ c.write_line_at.new.cut (_, is_line, refl) wrote

pub returns-clause-beginning : goal.returns-clause-beginning
returns-clause-beginning g c =
    let fits : FitsSigned w128 c.args.nanos = c.ranges.nanos in
    let same = ap (drop room) c.as_mut_slice.ensures.value ∙ c.in_ok-line-2.ensures.line ∙ c.as_slice.ensures.value in
    let is_line = subst (IsRecordLine _) (sym same) c.in_ok-line.ensures in
    let wrote = rw (to_z-of_z w128 c.args.nanos fits) at c.write_line_at.ensures.part in
    beginning (IsLineAt c.args.nanos _) c.write_line_at.result _ _ _ c.write_line_at.new.cut (_, is_line, refl) wrote

pub returns-clause-nothing : goal.returns-clause-nothing
returns-clause-nothing g c = nothing c.write_line_at.result _ _ _ c.write_line_at.new.cut c.write_line_at.ensures.part c.write_line_at.ensures.nothing
