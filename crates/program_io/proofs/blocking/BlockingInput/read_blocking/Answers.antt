use Rattle.std.proofs.KnownBytes.{Keeps-trans}
use Rattle.program_io.proofs.blocking.BlockingInput.read_blocking.Goals as goal

pub returns-in_default-clause-bytes : goal.returns-in_default-clause-bytes
returns-in_default-clause-bytes g c = Keeps-trans _ _ _ c.loop.invariant c.in-Err.ensures.bytes
