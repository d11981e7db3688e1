use Rattle.std.proofs.Common.{rules, ◌≡◌, true}
use Rattle.appender_worker.specs.Core.{is_taking, is_writing}
use Rattle.appender_non_blocking.proofs.Holding.{holding_kept, holding_next, holding_wrote}
use Rattle.appender_non_blocking.proofs.non_blocking.worker.serve.Goals as goal

pub loop-preserved-in-Take : goal.loop-preserved-in-Take
loop-preserved-in-Take g c =
    let books = g.B.Books in
    let is : is_taking c.loop.core ≡ true = search rules in
    let kept = holding_kept books.counts_take books.counts_closing books.may_take books.has_ended c.args.pass _ c.loop.pass _ _ c.loop.core c.loop.given_up _ is c.flush_asked.ensures c.loop.invariant in
    let took = holding_next books.counts_take books.counts_closing books.may_take books.has_ended c.args.pass _ c.loop.pass c.take-taken.new.pass _ c.loop.core c.loop.given_up _ c.take-taken.new.hand.taken.items c.take-taken.result is
    c.take-taken.ensures kept in
    rw c.took.ensures (rw c.take_spent.ensures took)

pub loop-preserved-in-Write : goal.loop-preserved-in-Write
loop-preserved-in-Write g c =
    let books = g.B.Books in
    let is : is_writing c.loop.core ≡ true = search rules in
    holding_wrote books.counts_take books.counts_closing books.may_take books.has_ended c.args.pass _ g.W.Write.contents _ _ _ c.loop.core c.write.new.core c.loop.pass c.loop.given_up c.write.new.given_up _ is
    c.write.ensures.wrote c.write.ensures.counted c.loop.invariant
