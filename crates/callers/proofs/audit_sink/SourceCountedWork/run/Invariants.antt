use Rattle.std.proofs.Common.{◌≡◌, ◌++◌, take}
use Rattle.callers.specs.Sources.{texts_of}
use Rattle.callers.proofs.audit_sink.SourceCountedWork.run.Given as goal

-- the lines before this one were queued
abbrev pub invariant-loop-i : goal.invariant-loop-i
invariant-loop-i g l = record {
  same : l.self.lines ≡ l.fn.self.lines;
  sent : (g.L.LineSender.sent l.sender).lines ≡ (g.L.LineSender.sent l.fn.sender).lines ++ take l.i (texts_of l.fn.self);
}
