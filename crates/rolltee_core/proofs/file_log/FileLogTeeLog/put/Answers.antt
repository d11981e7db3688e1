use Rattle.std.proofs.Common.{ap, inl, refl, false}
use Rattle.rolltee_core.specs.Log.{LogState}
use Rattle.rolltee_core.proofs.file_log.FileLogTeeLog.put.Goals as goal

pub returns-clause-taken : goal.returns-clause-taken
returns-clause-taken g c =
    let flushed = ap (λ (l : LogState _ _ _). record l { flushed = false }) c.self.view_is in
    inl (c.args.bytes.now, c.write-answer.result, refl, c.write-answer.new.self, c.write-answer.ensures.writes, flushed)
