use Rattle.std.proofs.Common.{◌∙◌}
use Rattle.appender_rolling.proofs.rolling.builder.Builder.build_in.Goals as goal

pub returns-clause-ok : goal.returns-clause-ok
returns-clause-ok g c = record {
  file = c.in_ok-open_in.field-0;
  opens = c.in_ok-open_in.ensures.ok;
  clock_is = c.share.ensures ∙ c.in_ok-open_in.ensures.ok.clock_is;
}
