use Rattle.std.proofs.Common.{sym, subst, ◌∙◌}
use Rattle.rolltee_core.specs.Taken.{WasOpened, TakesPieces}
use Rattle.rolltee_core.proofs.Taken.{takes_one, noted_none}
use Rattle.rolltee_core.proofs.waiting.NotedLog.give_up.Goals as goal

pub invariant_of-self : goal.invariant_of-self
invariant_of-self g c = subst (λ t. TakesPieces (WasOpened g.W.TeeLog.opens g.N.Asked.asked) g.W.TeeLog.takes t c.give_up.new.self) (sym c.note.ensures) (takes_one c.self.invariant c.give_up.ensures)

pub returns : goal.returns
returns g c = noted_none c.self.inside.taken.lines c.note.ensures ∙ c.self.view_is
