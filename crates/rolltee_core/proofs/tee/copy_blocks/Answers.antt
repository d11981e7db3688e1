use Rattle.std.proofs.Common.{ap, subst, ◌∙◌, ◌++◌}
use Rattle.rolltee_core.specs.declared.losses.TeeLosses.{TeeLosses}
use Rattle.rolltee_core.specs.Taken.{TookText, WasOpened}
use Rattle.rolltee_core.proofs.tee.copy_blocks.Goals as goal

pub returns : goal.returns
returns g c = λ none. record {
  took = λ text is.
      let fed = (rw c.in_ok-copied.was at c.feed_pieces-writer.ensures) (ap (λ (l : TeeLosses). l.unechoed) none) text is in
      let taken = c.flush.ensures ∙ fed.2 ∙ ap (λ t. t ++ fed.0) c.requires.first in
      let took = c.close.ensures (record { unwritten = ap (λ (l : TeeLosses). l.unwritten) none; gone = ap (λ (l : TeeLosses). l.gone) none; unsynced = ap (λ (l : TeeLosses). l.unsynced) none }) in
      (fed.0, fed.1, subst (λ t. TookText (WasOpened g.W.TeeLog.opens g.N.Asked.asked) g.W.TeeLog.takes g.W.TeeLog.is_kept t) taken took);
}
