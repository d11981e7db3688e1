use Rattle.std.proofs.Common.{rules, ◌∙◌, FitsSigned}
use Rattle.std.specs.Int.{w128}
use Rattle.std.proofs.lemmas.Int.{to_z-of_z}
use Rattle.appender_log.proofs.json_line.put_time.Goals as goal

pub returns-in-Some : goal.returns-in-Some
returns-in-Some c =
    let text = c.as_str.ensures.value ∙ c.time_text.ensures.text in
    let fits : FitsSigned w128 c.in-Some.nanos = search rules in
    let put = rw text at c.put_text.ensures in
    rw c.in-Some.is (rw (to_z-of_z w128 c.in-Some.nanos fits) at put)
