-- The ending of a line that was cut short is a newline, and that of another is nothing.
use Rattle.std.proofs.Common.{sym, subst, refl, ap}
use Rattle.std.proofs.KnownBytes.{Appends-nil}
use Rattle.std.specs.Io.KnownBytes.{Appends}
use Rattle.appender_log.specs.Written.{ending}
use Rattle.appender_log.proofs.end_cut.Goals as goal

pub returns-then-not-cut-clause-whole : goal.returns-then-not-cut-clause-whole
returns-then-not-cut-clause-whole g c =
    let contents = g.W.Write.contents c.args.writer.now in
    (c.if-not-cut.true, subst (Appends contents contents) (sym (ap ending c.if-not-cut.true)) (Appends-nil contents))

pub returns-in-Ok-clause-whole : goal.returns-in-Ok-clause-whole
returns-in-Ok-clause-whole g c = (
  refl,
  subst
      (Appends (g.W.Write.contents c.args.writer.now) (g.W.Write.contents c.run_line.new.writer))
      (sym (ap ending c.if-not-cut.false))
      c.in-Ok.ensures.ok,
)
