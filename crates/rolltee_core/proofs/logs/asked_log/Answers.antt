use Rattle.rolltee_core.proofs.logs.asked_log.Goals as goal

pub returns : goal.returns
returns c = rw (c.in_ok-opener.ensures.0, c.in_ok-opener.ensures.1, c.in_ok-settings.ensures, c.has.ensures) at c.in_ok-log.ensures
