use Rattle.rolltee_core.proofs.Taken.{plain_lines}
use Rattle.rolltee_core.proofs.tee.tee.Goals as goal

pub returns-in-Ok-clause-written : goal.returns-in-Ok-clause-written
returns-in-Ok-clause-written g c good text is =
    let plain = c.new-options.ensures in
    let wrote = c.in-Ok.ensures.written text is in
    (c.new-options.result, plain, rw (plain_lines plain wrote.1) at wrote.2)
