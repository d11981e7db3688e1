use Rattle.std.proofs.Common.{rules}
use Rattle.rolltee_core.proofs.Timed.{count_more}
use Rattle.rolltee_core.proofs.feed.count_lines.Goals as goal

pub loop-rest-preserved : goal.loop-rest-preserved
loop-rest-preserved c =
    let (counted, within) = c.loop-rest.invariant in
    let line = c.line_length.ensures in
    count_more c.loop-rest.count _ _ c.line_length.result c.loop-rest.rest.now counted within (line.some (search rules)) line.bound line.line line.ends
