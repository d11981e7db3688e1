use Rattle.appender_rolling.proofs.Kept.{maps}
use Rattle.appender_rolling.proofs.Limits.{refusal_has_reason}
use Rattle.appender_rolling.proofs.laws.refusals_have_reasons.Goals as goal

pub returns : goal.returns
returns g c = refusal_has_reason (maps c.names_change_one_at_a_time.ensures.removals c.names_change_one_at_a_time.ensures.additions) g.S.Folder
