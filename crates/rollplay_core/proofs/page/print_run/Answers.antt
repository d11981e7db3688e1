use Rattle.std.proofs.Common.{arith}
use Rattle.std.proofs.lemmas.Grind.{common_steps}
use Rattle.rollplay_core.proofs.page.print_run.Goals as goal

pub returns : goal.returns
returns c = grind (arith, common_steps)
