use Rattle.rolltee_core.proofs.Openings.{opens_last}
use Rattle.acceptance_rolltee.proofs.rests.SceneOpenerOpensMemoryFolderRefScene.open.Goals as goal

pub returns-in-Ok : goal.returns-in-Ok
returns-in-Ok c = (_, tt, opens_last c.in-Ok.ensures.ok)
