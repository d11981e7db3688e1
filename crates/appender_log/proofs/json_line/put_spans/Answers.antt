use Rattle.std.proofs.Common.{◌∙◌, sym, arith, codes}
use Rattle.std.proofs.lemmas.Bool.{eqb-false}
use Rattle.json.specs.Token.{begin_array, end_array, key}
use Rattle.appender_log.specs.Json.{span_tokens}
use Rattle.appender_log.specs.JsonKept.{span_of}
use Rattle.appender_log.proofs.JsonKept.{list_is_written}
use Rattle.appender_log.proofs.json_line.put_spans.Goals as goal

pub returns : goal.returns
returns c =
    let l = c.loop-span in
    let written = list_is_written span_tokens span_of (key (codes "spans")) begin_array end_array c.args.spans.now l.span-index c.args.line.now.tokens
    (eqb-false _ 0 (sym c.if-is_empty.ensures)) (omega arith) in
    let last = c.in_ok-end_array.ensures in
    (last.room.0 ∙ l.invariant.before, rw (last.ok, l.invariant.tokens, c.in_ok-begin_array.ensures.ok, c.in_ok-key.ensures.ok) written)
