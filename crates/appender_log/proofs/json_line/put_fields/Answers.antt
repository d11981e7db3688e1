use Rattle.std.proofs.Common.{◌∙◌, sym, arith, codes}
use Rattle.std.proofs.lemmas.Bool.{eqb-false}
use Rattle.json.specs.Token.{begin_object, end_object, key}
use Rattle.appender_log.specs.Json.{member_tokens}
use Rattle.appender_log.specs.JsonKept.{member_of}
use Rattle.appender_log.proofs.JsonKept.{list_is_written}
use Rattle.appender_log.proofs.json_line.put_fields.Goals as goal

pub returns : goal.returns
returns c =
    let l = c.loop-field in
    let written = list_is_written member_tokens member_of (key (codes "fields")) begin_object end_object c.args.fields.now l.field-index c.args.line.now.tokens
    (eqb-false _ 0 (sym c.if-is_empty.ensures)) (omega arith) in
    let last = c.in_ok-end_object.ensures in
    (last.room.0 ∙ l.invariant.before, rw (last.ok, l.invariant.tokens, c.in_ok-begin_object.ensures.ok, c.in_ok-key.ensures.ok) written)
