use Rattle.std.proofs.lemmas.Option.{IfSome_then}
use Rattle.appender_log.specs.Json.{ShowsScope}
use Rattle.appender_log.specs.JsonKept.{span_of}
use Rattle.appender_log.proofs.JsonKept.{one_more}
use Rattle.appender_log.proofs.json_line.add_span.Goals as goal

pub returns : goal.returns
returns g c =
    IfSome_then (g.K.Source.pairs c.args.fields.now) c.in_ok-fields.ensures.1 (λ pairs shows.
    one_more span_of ShowsScope _ _ _ (c.args.name.now, pairs) c.in_ok-push.ensures.items (c.in_ok-name.ensures.ok, shows))
