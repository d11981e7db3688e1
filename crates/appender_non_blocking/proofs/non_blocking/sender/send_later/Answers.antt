use Rattle.std.proofs.Common.{rules, ◌≡◌, ◌∙◌, Err}
use Rattle.appender_non_blocking.proofs.Refused.{same_line}
use Rattle.appender_queue.specs.declared.queue.Refused.TheVariants.{Full}
use Rattle.appender_non_blocking.proofs.non_blocking.sender.send_later.Goals as goal

pub loop-preserved : goal.loop-preserved
loop-preserved g c =
    let is : c.offer-reply.result.0 ≡ Err (Full c.in-Err-Full.back) = search rules in
    let back : c.in-Err-Full.back ≡ c.loop.line = same_line _ _ _ c.loop.line c.in-Err-Full.back c.offer-reply.result.0 c.offer-reply.ensures.offer is in
    record { line = back ∙ c.loop.invariant.line; mine = search rules; lossy = c.loop.invariant.lossy }
