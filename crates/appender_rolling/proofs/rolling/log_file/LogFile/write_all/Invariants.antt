use Rattle.std.proofs.Common.{◌≡◌, List, length}
use Rattle.std.specs.Prelude.{ℕ, Result}
use Rattle.std.specs.declared.io.Error.{Error}
use Rattle.appender_rolling.specs.Roller.{Scheduled, rolling_of, WritesSoFar, AreContinued}
use Rattle.appender_rolling.proofs.rolling.log_file.LogFile.write_all.Given as goal

-- what is left was not written yet, all before it was, and each write goes on
abbrev pub invariant-loop-made : goal.invariant-loop-made
invariant-loop-made g l =
    (answers : List (Result ℕ Error)) × ((s : Scheduled) → WritesSoFar g.S.Folder answers l.fn.bytes l.rest (rolling_of s l.fn.self) (rolling_of s l.self)) × AreContinued answers × (length answers ≡ l._made)
