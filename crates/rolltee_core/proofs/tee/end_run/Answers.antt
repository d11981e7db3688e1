use Rattle.rolltee_core.proofs.Openings.{if_ok_by}
use Rattle.rolltee_core.proofs.Taken.{ends_run}
use Rattle.rolltee_core.proofs.tee.end_run.Goals as goal

pub returns-in-Some : goal.returns-in-Some
returns-in-Some g c =
    let lost = c.losses_of.ensures in
    if_ok_by c.all_written.result (λ echoed whole. ends_run c.in-Ok.is c.in-Some.is lost.sent lost.whole lost.took whole) c.all_written.ensures
