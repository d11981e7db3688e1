use Rattle.std.proofs.Common.{◌≡◌, ℕ, List, ◌++◌, length}
use Rattle.std.specs.Io.KnownBytes.{Appends}
use Rattle.appender_runtime.proofs.waiting.WaitingWriterWrite.write.Given as goal

-- what is no longer left was written
abbrev pub invariant-loop-rt : goal.invariant-loop-rt
invariant-loop-rt g l = (done : List ℕ) × (l.fn.buf ≡ done ++ l.rest) × Appends (g.W.Write.contents l.fn.self) (g.W.Write.contents l.writer) done

abbrev pub decreases-loop-rt : goal.decreases-loop-rt
decreases-loop-rt g l = length l.rest
