use Rattle.std.proofs.Common.{refl}
use Rattle.rolltee_core.proofs.Sent.{fed_same}
use Rattle.rolltee_core.proofs.feed.FeedWrite.flush.Goals as goal

pub invariant_of-self : goal.invariant_of-self
invariant_of-self g c =
    let fed = rw (← c.self-inside.view_is) at c.self.invariant in
    (fed.0, fed.1, fed.2, fed.3, fed.4, fed_same g.Q.FeedSink.sent g.O.Write.contents g.N.Asked.first g.N.Asked.printed fed.3 fed.5 c.flush.ensures refl refl refl refl)
