use Rattle.appender_names.proofs.Periods.{start_is_boundary, next_is_boundary, has_start}
use Rattle.appender_names.proofs.laws.periods_lie_between_boundaries.Goals as goal

pub returns : goal.returns
returns c = record {
  begin = λ r m b h e. start_is_boundary r m b (has_start r m b e) h e;
  end = λ r m b h e. next_is_boundary r m b (has_start r m b e) h e;
}
