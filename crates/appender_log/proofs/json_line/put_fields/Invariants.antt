-- The tokens of the fields so far are written.
use Rattle.std.proofs.Common.{◌≡◌, ◌++◌, take, flat_map}
use Rattle.appender_log.specs.Json.{member_tokens}
use Rattle.appender_log.specs.JsonKept.{member_of}
use Rattle.appender_log.proofs.json_line.put_fields.Given as goal

abbrev pub invariant-loop-field : goal.invariant-loop-field
invariant-loop-field l = record {
  before : l.line.before ≡ l.fn.line.before;
  tokens : l.line.tokens ≡ l.initial.line.tokens ++ flat_map (λ x. member_tokens (member_of x)) (take l.field-index l.fields);
}
