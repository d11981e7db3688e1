-- Adds a byte at a time.
use Rattle.std.proofs.Common.{◌≡◌, ◌++◌, take}
use Rattle.appender_log.specs.OneLine.{one_line}
use Rattle.appender_log.proofs.one_line.push_escapes.Given as goal

abbrev pub invariant-loop-byte : goal.invariant-loop-byte
invariant-loop-byte l = l.line.items ≡ l.initial.line.items ++ one_line (take l.byte-index l.text)
