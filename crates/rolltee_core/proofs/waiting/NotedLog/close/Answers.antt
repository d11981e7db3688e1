use Rattle.rolltee_core.proofs.waiting.NotedLog.close.Goals as goal

pub returns : goal.returns
returns g c = λ none. record { last = c.self.inside.log; pieces = c.self.inside.taken.lines; took = c.self.invariant; text_is = c.self.view_is; kept = c.close.ensures none }
