use Rattle.std.proofs.Common.{◌+◌, ◌-◌, ◌≤◌, length, take}
use Rattle.std.specs.Io.KnownBytes.{Appends}
use Rattle.appender_worker.proofs.worker.run_line.Given as goal

-- the bytes so far were written
abbrev pub invariant-loop-from : goal.invariant-loop-from
invariant-loop-from g l =
    let contents = g.W.Write.contents in
    record {
      within : l.from ≤ length l.line;
      few : l.repeats ≤ 100;
      written : Appends (contents l.fn.writer) (contents l.writer) (take l.from l.line);
    }

abbrev pub decreases-loop-from : goal.decreases-loop-from
decreases-loop-from g l = (length l.line - l.from) + (100 - l.repeats)
