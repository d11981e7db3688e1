use Rattle.std.proofs.KnownBytes.{Keeps-refl}
use Rattle.rollplay_core.proofs.play.play.Goals as goal

pub returns-in-Ok-clause-silent : goal.returns-in-Ok-clause-silent
returns-in-Ok-clause-silent g c = λ few. Keeps-refl _
