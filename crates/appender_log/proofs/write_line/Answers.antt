-- The ending of the line before, and then this line or a part of it.
use Rattle.std.proofs.Common.{inr, take, refl}
use Rattle.std.proofs.KnownBytes.{Appends-trans}
use Rattle.appender_log.specs.Written.{ending}
use Rattle.appender_log.proofs.write_line.Goals as goal

pub returns-in-Ok-clause-whole : goal.returns-in-Ok-clause-whole
returns-in-Ok-clause-whole g c =
    let ended = c.in_ok-end_cut.ensures.whole in
    (ended.0, Appends-trans _ _ _ (ending c.args.cut.now) c.args.line.now ended.1 c.in-Ok.ensures.ok)

pub returns-in-Err-clause-part : goal.returns-in-Err-clause-part
returns-in-Err-clause-part g c =
    let ended = c.in_ok-end_cut.ensures.whole in
    let taken = c.in-Err.ensures.fault in
    inr (
      c.in-Err.fault.taken,
      taken.0,
      Appends-trans _ _ _ (ending c.args.cut.now) (take c.in-Err.fault.taken c.args.line.now) ended.1 taken.1,
      refl,
    )
