use Rattle.std.proofs.Common.{drop, subst, sym}
use Rattle.appender_channel.specs.Tally.{tally_of}
use Rattle.appender_channel.proofs.Takes.{CountsTake, take_is_counted}
use Rattle.appender_channel.proofs.state.count_take.Goals as goal

-- the line is the first one that waits
pub returns-in-Line-clause-agree : goal.returns-in-Line-clause-agree
returns-in-Line-clause-agree g c old new waits lawful takes agree =
    let counts = subst (CountsTake (tally_of old) (tally_of new)) c.in-Line.is (take_is_counted old new waits _ lawful takes) in
    subst (g.B.Books.agree c.hand.new.self) (sym counts.0) (c.hand.ensures.agree (tally_of old) (drop 1 old.lines) agree counts.1 counts.2)
