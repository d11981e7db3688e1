use Rattle.std.specs.Io.KnownBytes.{Keeps}
use Rattle.appender_runtime.proofs.waiting.write_waiting.Given as goal

-- nothing was written so far
abbrev pub invariant-loop : goal.invariant-loop
invariant-loop g l = Keeps (g.W.Write.contents l.fn.writer) (g.W.Write.contents l.writer)
