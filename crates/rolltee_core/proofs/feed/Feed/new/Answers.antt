use Rattle.rolltee_core.proofs.Sent.{fed_nothing}
use Rattle.rolltee_core.proofs.feed.Feed.new.Goals as goal

pub invariant_of-result : goal.invariant_of-result
invariant_of-result g c =
    let asked = c.requires.asked in
    rw (c.has.ensures, c.has-2.ensures, c.of.ensures) (
      asked.0,
      asked.1,
      asked.2,
      c.args.options.now,
      asked.3,
      fed_nothing g.Q.FeedSink.sent g.O.Write.contents g.N.Asked.first g.N.Asked.printed c.args.options.now c.args.sink c.args.output c.requires.first c.requires.printed,
    )
