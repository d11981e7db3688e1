-- Adds a byte at a time.
use Rattle.std.proofs.Common.{◌≡◌, ◌++◌, take}
use Rattle.rollplay_core.specs.Text.{script_escapes}
use Rattle.rollplay_core.proofs.page.push_escapes.Given as goal

abbrev pub invariant-loop-byte : goal.invariant-loop-byte
invariant-loop-byte l = l.page.items ≡ l.initial.page.items ++ script_escapes (take l.byte-index l.bytes)
