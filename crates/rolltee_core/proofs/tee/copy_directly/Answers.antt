use Rattle.rolltee_core.proofs.Openings.{if_ok_by}
use Rattle.rolltee_core.proofs.Runs.{takes_same}
use Rattle.rolltee_core.proofs.tee.copy_directly.Goals as goal

pub new-requires : goal.new-requires
new-requires g c = (_, _, _, _, rw (c.as_str-directory.ensures.value, c.as_str-prefix.ensures.value) c.requires.asked, c.in_ok-log.ensures)

pub returns : goal.returns
returns g c = if_ok_by c.all_written.result (λ echoed whole. takes_same c.in_ok-parts.ensures.input whole.0 (c.in_ok-output.ensures whole.1)) c.all_written.ensures
