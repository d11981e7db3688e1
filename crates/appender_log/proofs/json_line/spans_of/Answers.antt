use Rattle.std.proofs.Common.{ap, map}
use Rattle.appender_log.specs.Json.{ShowsScope}
use Rattle.appender_log.specs.JsonKept.{span_of}
use Rattle.appender_log.specs.declared.json_line.Span.{Span}
use Rattle.appender_log.specs.declared.json_line.Collector.{Collector}
use Rattle.appender_log.proofs.JsonKept.{all_visited, spans_have_members}
use Rattle.appender_log.proofs.json_line.spans_of.Goals as goal

pub returns-in-Ok : goal.returns-in-Ok
returns-in-Ok g c = (
  spans_have_members c.visit.new.visitor.items.items,
  all_visited (λ (v : Collector Span). map span_of v.items.items) ShowsScope (g.S.Spans.scopes c.args.source.now) _ c.visit.new.visitor
      (ap (map span_of) c.new.ensures.items) c.in-Ok.ensures,
)
