-- The time and a space, and the line after the room.
use Rattle.std.proofs.Common.{◌≡◌, ◌∙◌, ap, ◌++◌, ◌-◌, drop, FitsSigned, arith}
use Rattle.std.specs.Int.{w128}
use Rattle.std.proofs.lemmas.Int.{to_z-of_z}
use Rattle.std.specs.Prelude.{codes}
use Rattle.appender_log.specs.Time.{time_text}
use Rattle.appender_log.proofs.TimeLines.{text_before, time_before}
use Rattle.appender_log.proofs.times.put_time.Goals as goal

pub returns-clause-line : goal.returns-clause-line
returns-clause-line c =
    let fits : FitsSigned w128 c.args.nanos = c.ranges.nanos in
    let line = c.args.line.now in
    let text = c.copy_from_slice.new.self in
    let is : text ≡ time_text c.args.nanos ++ codes " " =
    c.copy_from_slice.ensures.after ∙ c.as_bytes.ensures.value ∙ c.as_str.ensures.value ∙ c.push_str.ensures.bytes
    ∙ ap (λ t. t ++ codes " ") (rw (to_z-of_z w128 c.args.nanos fits) at c.time_text-text.ensures.text) in
    text_before (28 - c.len-start.result) 28 line text (omega arith) c.requires ∙ time_before c.args.nanos text (drop 28 line) is
