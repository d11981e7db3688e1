use Rattle.rolltee_core.proofs.feed.Feed.into_parts.Goals as goal

pub returns-clause-fed : goal.returns-clause-fed
returns-clause-fed g c = rw (← c.self.view_is) c.self.invariant
