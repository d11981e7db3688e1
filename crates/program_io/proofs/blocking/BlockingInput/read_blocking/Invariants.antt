use Rattle.std.specs.Io.KnownBytes.{Keeps}
use Rattle.program_io.proofs.blocking.BlockingInput.read_blocking.Given as goal

-- nothing was read
abbrev pub invariant-loop : goal.invariant-loop
invariant-loop g l = Keeps (g.I.Read.remaining l.fn.self.input) (g.I.Read.remaining l.self.input)
