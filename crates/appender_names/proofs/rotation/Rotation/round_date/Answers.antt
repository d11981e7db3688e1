use Rattle.std.proofs.Common.{arith}
use Rattle.std.proofs.lemmas.Grind.{common_steps}
use Rattle.appender_names.proofs.Periods.{start_is_boundary}
use Rattle.appender_names.proofs.rotation.Rotation.round_date.Goals as goal

pub returns-clause-boundary : goal.returns-clause-boundary
returns-clause-boundary c = start_is_boundary _ _ _ c.requires.rotates c.requires.moment (grind (arith, common_steps))
