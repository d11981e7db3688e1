use Rattle.std.proofs.Common.{◌∙◌}
use Rattle.appender_rolling.proofs.rolling.builder.Builder.build.Goals as goal

pub returns-clause-ok : goal.returns-clause-ok
returns-clause-ok g c =
    let opened = c.in_ok-open.ensures.ok in
    (opened.0, opened.1, record { file = c.in_ok-open.field-0; opens = opened.2; clock_is = c.share.ensures ∙ opened.2.clock_is })
