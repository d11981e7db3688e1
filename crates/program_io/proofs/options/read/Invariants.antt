-- The words before the rest were read, and none of them asks for help or for the version.
use Rattle.std.proofs.Common.{ℕ, length}
use Rattle.program_io.specs.Options.{ReadsWords}
use Rattle.program_io.proofs.Words.{GoesOn}
use Rattle.program_io.proofs.options.read.Given as goal

abbrev pub invariant-loop-word : goal.invariant-loop-word
invariant-loop-word l = record { reached : (k : ℕ) × ReadsWords l.words k l.rest l.reading; goes_on : GoesOn l.reading.next }

abbrev pub decreases-loop-word : goal.decreases-loop-word
decreases-loop-word l = length l.rest
