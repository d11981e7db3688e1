use Rattle.std.proofs.Common.{arith}
use Rattle.std.proofs.lemmas.Grind.{common_steps}
use Rattle.std.specs.Int.{w64}
use Rattle.std.proofs.lemmas.Int.{to_z-of_z}
use Rattle.rollplay_core.proofs.page.print_opening.Goals as goal

pub returns : goal.returns
returns c =
    let name = simp (to_z-of_z w64 c.args.start c.ranges.start) at c.in_ok-name.ensures in
    grind (arith, common_steps, name)
