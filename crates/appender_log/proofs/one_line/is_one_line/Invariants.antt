-- The bytes so far are no control characters.
use Rattle.std.proofs.Common.{◌≡◌, take}
use Rattle.appender_log.specs.OneLine.{one_line}
use Rattle.appender_log.proofs.one_line.is_one_line.Given as goal

abbrev pub invariant-loop-byte : goal.invariant-loop-byte
invariant-loop-byte l = one_line (take l.byte-index l.text) ≡ take l.byte-index l.text
