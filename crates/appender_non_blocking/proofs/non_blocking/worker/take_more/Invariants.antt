use Rattle.appender_non_blocking.specs.Inside.Hand.{OnlyLines, Ahead}
use Rattle.appender_non_blocking.proofs.non_blocking.worker.take_more.Given as goal

-- the worker may take, and has lines in hand
abbrev pub invariant-loop : goal.invariant-loop
invariant-loop g l =
    let books = g.B.Books in
    record {
      may : books.may_take l.pass;
      lines : OnlyLines l.hand.taken.items;
      ahead : Ahead books.counts_take books.counts_closing books.may_take books.has_ended l.hand.taken.items l.fn.pass l.pass;
    }
