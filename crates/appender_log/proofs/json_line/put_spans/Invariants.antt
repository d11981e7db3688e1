-- The tokens of the spans so far are written.
use Rattle.std.proofs.Common.{◌≡◌, ◌++◌, take, flat_map}
use Rattle.appender_log.specs.Json.{span_tokens}
use Rattle.appender_log.specs.JsonKept.{span_of}
use Rattle.appender_log.proofs.json_line.put_spans.Given as goal

abbrev pub invariant-loop-span : goal.invariant-loop-span
invariant-loop-span l = record {
  before : l.line.before ≡ l.fn.line.before;
  tokens : l.line.tokens ≡ l.initial.line.tokens ++ flat_map (λ x. span_tokens (span_of x)) (take l.span-index l.spans);
}
