use Rattle.std.proofs.Common.{inl, inr, rules}
use Rattle.rollplay_core.proofs.ScriptLemmas.{misplaced_before_start, misplaced_without_queue, misplaced_with_queue}
use Rattle.rollplay_core.proofs.script.Draft.add.Goals as goal

pub returns-in_err-setting-clause-fault : goal.returns-in_err-setting-clause-fault
returns-in_err-setting-clause-fault c = λ e. inl (c.in_err-setting.ensures.fault (search rules))

pub returns-in_default-clause-fault : goal.returns-in_default-clause-fault
returns-in_default-clause-fault c = λ e.
    inr (c.in_ok-setting.field-0, c.in_ok-setting.ensures.ok, (search (misplaced_before_start, misplaced_without_queue, misplaced_with_queue, rules)))
