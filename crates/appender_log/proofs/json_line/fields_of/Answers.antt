use Rattle.std.proofs.Common.{ap, map}
use Rattle.appender_log.specs.Json.{ShowsPair}
use Rattle.appender_log.specs.JsonKept.{member_of}
use Rattle.appender_log.specs.declared.json_line.Field.{Field}
use Rattle.appender_log.specs.declared.json_line.Collector.{Collector}
use Rattle.appender_log.proofs.JsonKept.{all_visited, fields_have_scalars}
use Rattle.appender_log.proofs.json_line.fields_of.Goals as goal

pub returns-in-Ok : goal.returns-in-Ok
returns-in-Ok g c = (
  fields_have_scalars c.visit.new.visitor.items.items,
  all_visited (λ (v : Collector Field). map member_of v.items.items) ShowsPair (g.K.Source.pairs c.args.source.now) _ c.visit.new.visitor
      (ap (map member_of) c.new.ensures.items) c.in-Ok.ensures,
)
