-- The line that is written is the one with its time.
use Rattle.std.proofs.Common.{◌≡◌, ◌-◌, take, drop, length, FitsSigned, arith, take_all, length-drop}
use Rattle.std.specs.Int.{w128}
use Rattle.std.proofs.lemmas.Int.{to_z-of_z}
use Rattle.appender_log.proofs.write_line_at.Goals as goal

pub returns-clause-part : goal.returns-clause-part
returns-clause-part g c =
    let fits : FitsSigned w128 c.args.nanos = c.ranges.nanos in
    let line = c.put_time-start.new.line in
    let start = c.put_time-start.result in
    let rest : take (length line - start) (drop start line) ≡ drop start line = take_all (length line - start) (drop start line) (omega (arith, length-drop start line)) in
    rw (rest, c.put_time-start.ensures.line, to_z-of_z w128 c.args.nanos fits) at c.write_line.ensures.part
