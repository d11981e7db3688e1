use Rattle.std.proofs.Common.{◌∙◌, subst, sym}
use Rattle.std.proofs.KnownBytes.{Keeps-refl}
use Rattle.std.specs.Result.{is_ok}
use Rattle.callers.specs.AccessLog.{IsWritten}
use Rattle.callers.proofs.Lines.{none_written, some, written}
use Rattle.callers.proofs.access_log.write_line.Goals as goal

-- memory for the line was refused
pub returns-in-Err : goal.returns-in-Err
returns-in-Err g c = none_written g.W.Write.contents _ c.args.log.now c.args.log.now (some c.args.request.now c.args.response.now) (Keeps-refl _)

-- run_line wrote all of it, or its first bytes
pub returns-in-Ok : goal.returns-in-Ok
returns-in-Ok g c =
    let contents = g.W.Write.contents in
    let old = c.args.log.now in
    let new = c.run_line.new.writer in
    subst (IsWritten contents _ old new) (sym c.is_ok.ensures.value)
    (subst (λ line. IsWritten contents line old new (is_ok c.run_line.result)) (c.as_bytes.ensures.value ∙ c.in-Ok.ensures)
    (written contents _ old new c.run_line.result c.run_line.ensures.ok c.run_line.ensures.fault))
