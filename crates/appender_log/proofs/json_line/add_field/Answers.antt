use Rattle.std.proofs.lemmas.Option.{IfSome_then}
use Rattle.log.specs.Kv.{value_text}
use Rattle.appender_log.specs.Json.{ShowsPair}
use Rattle.appender_log.specs.JsonKept.{member_of}
use Rattle.appender_log.proofs.JsonKept.{one_more}
use Rattle.appender_log.proofs.json_line.add_field.Goals as goal

pub returns : goal.returns
returns g c =
    IfSome_then (value_text g.D.Display.output c.args.value) c.in_ok-value.ensures (λ text shows.
    one_more member_of ShowsPair _ _ _ (c.args.key.now, text) c.in_ok-push.ensures.items (c.in_ok-key.ensures.ok, shows))
