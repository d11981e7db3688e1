use Rattle.std.proofs.Common.{refl, ap, ◌∙◌, ◌++◌, arith, length, take_all}
use Rattle.rolltee_core.proofs.Sent.{fed_more, fed_same}
use Rattle.rolltee_core.proofs.Taken.{noted_on}
use Rattle.rolltee_core.proofs.feed.FeedWrite.write.Goals as goal

pub invariant_of-self : goal.invariant_of-self
invariant_of-self g c =
    let fed = c.self.invariant in
    let none = c.in_err-send_text.ensures.not_sent in
    (fed.0, fed.1, fed.2, fed.3, fed.4, fed_same g.Q.FeedSink.sent g.O.Write.contents g.N.Asked.first g.N.Asked.printed fed.3 fed.5 none.0 none.1 refl refl refl)

pub invariant_of-self-2 : goal.invariant_of-self-2
invariant_of-self-2 g c =
    let piece = c.args.piece.now in
    let fed = c.self.invariant in
    let (text, timed, sends) = c.in_ok-send_text.ensures.sent in (
      fed.0,
      fed.1,
      fed.2,
      fed.3,
      fed.4,
      fed_more g.Q.FeedSink.sent g.O.Write.contents g.N.Asked.first g.N.Asked.printed fed.3 piece text fed.5 timed sends
          c.in_ok-send_text.ensures.echo refl c.is_within-self-inside.ensures (noted_on c.self.inside.given.lines piece c.note.ensures),
    )

pub returns-clause-bytes : goal.returns-clause-bytes
returns-clause-bytes g c =
    let piece = c.args.piece.now in
    let whole = take_all (length piece) piece (omega arith) in
    rw (whole, ← c.self.view_is) (noted_on c.self.inside.given.lines piece c.note.ensures)
