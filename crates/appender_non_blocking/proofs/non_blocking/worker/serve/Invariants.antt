use Rattle.appender_non_blocking.proofs.Holding.{Holding}
use Rattle.appender_non_blocking.proofs.non_blocking.worker.serve.Given as goal

-- the worker may take until it is told of the end, and wrote what it took, up to what is in hand
abbrev pub invariant-loop : goal.invariant-loop
invariant-loop g l =
    let books = g.B.Books in
    let contents = g.W.Write.contents in
    Holding books.counts_take books.counts_closing books.may_take books.has_ended l.fn.pass (contents l.fn.writer) l.pass (contents l.writer) l.core l.given_up l.hand.taken.items
