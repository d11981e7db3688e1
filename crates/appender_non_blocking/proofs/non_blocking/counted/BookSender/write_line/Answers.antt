use Rattle.std.proofs.Common.{◌≡◌, ◌∷◌, [], Some, arith, rules}
use Rattle.std.proofs.lemmas.List.{length-append}
use Rattle.appender_non_blocking.specs.declared.non_blocking.sender.Sent.TheVariants.{Queued}
use Rattle.appender_non_blocking.proofs.non_blocking.counted.BookSender.write_line.Goals as goal

-- the lines with this one are fewer than 2 ^ 64
pub overflow_add-queued : goal.overflow_add-queued
overflow_add-queued g c =
    let law = c.one_line_more.ensures in
    let lines = c.self.inside.lines.lines in
    let is : c.send.result ≡ Some (Queued c.in-Some-Queued.ticket) = search rules in
    let sent = law.more _ _ c.self.inside.place lines _ c.self.invariant.0 (c.send.ensures.queued c.in-Some-Queued.ticket is) in
    let few = law.few _ c.self.inside.place _ sent in
    search (rules, arith, few, length-append lines (c.in-Ok.copy.items ∷ []), c.self.invariant.1)
