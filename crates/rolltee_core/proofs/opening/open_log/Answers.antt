use Rattle.std.proofs.Common.{◌∙◌}
use Rattle.rolltee_core.proofs.Openings.{if_ok_by, opens_last, opens_next}
use Rattle.rolltee_core.proofs.opening.open_log.Goals as goal

pub returns-in-Ok : goal.returns-in-Ok
returns-in-Ok g c = opens_last c.in-Ok.ensures.ok

pub returns-in_default : goal.returns-in_default
returns-in_default g c =
    if_ok_by c.open_next.result (λ log opens. opens_next c.in-Err-File-default-default.field-0-0-is (λ same. c.in_default.not-OutOfMemory (c.kind.ensures ∙ same), λ same. c.in_default.not-Interrupted (c.kind.ensures ∙ same)) c.in-Err-File-default-default.ensures.err opens) c.open_next.ensures
