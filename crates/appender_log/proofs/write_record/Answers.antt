-- Without a line nothing is written; with one, what is written of it is what is written of the record.
use Rattle.std.proofs.Common.{sym, subst}
use Rattle.appender_log.specs.Written.{IsRecordLine}
use Rattle.appender_log.proofs.Unwritten.{on_unwritten, whole, beginning, nothing}
use Rattle.appender_log.proofs.write_record.Goals as goal

pub returns-in_err-line-clause-beginning : goal.returns-in_err-line-clause-beginning
returns-in_err-line-clause-beginning g c = on_unwritten _ c.from_residual.result _

pub returns-clause-whole : goal.returns-clause-whole
returns-clause-whole g c =
    let is_line = subst (IsRecordLine _) (sym c.as_slice.ensures.value) c.in_ok-line.ensures in
    whole (IsRecordLine _) c.write_line.result _ _ _ c.write_line.new.cut is_line c.write_line.ensures.whole

pub returns-clause-beginning : goal.returns-clause-beginning
returns-clause-beginning g c =
    let is_line = subst (IsRecordLine _) (sym c.as_slice.ensures.value) c.in_ok-line.ensures in
    beginning (IsRecordLine _) c.write_line.result _ _ _ c.write_line.new.cut is_line c.write_line.ensures.part

pub returns-clause-nothing : goal.returns-clause-nothing
returns-clause-nothing g c = nothing c.write_line.result _ _ _ c.write_line.new.cut c.write_line.ensures.part c.write_line.ensures.nothing
