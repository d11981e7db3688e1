use Rattle.rolltee_core.proofs.Openings.{if_ok_by}
use Rattle.rolltee_core.proofs.Taken.{run_logged}
use Rattle.rolltee_core.proofs.tee.copy_to.Goals as goal

pub returns : goal.returns
returns g c =
    let ran = c.in-Ok.ensures.1 in
    if_ok_by c.end_run.result (λ echoed ends. run_logged c.in-Ok.ensures.0 ran.ended c.in_ok-writer.ensures.input c.in_ok-writer.ensures.writer ran.did ran.wrote ends) c.end_run.ensures
