use Rattle.std.proofs.Common.{◌≤◌, ◌++◌, ◌∷◌, [], length, subst, sym, ℕ, List}
use Rattle.line_history.specs.Interleaving.{IsInterleaving}
use Rattle.line_history.proofs.Counts.{few_of}
use Rattle.line_history.proofs.Places.{one_more}
use Rattle.line_history.proofs.halves.QueueHalves.send.Goals as goal

pub returns-clause-sent : goal.returns-clause-sent
returns-clause-sent g c lines whole =
    let line = c.args.line.now.value.items in
    subst (λ z. IsInterleaving z (lines ++ line ∷ [])) (sym c.add.ensures.sent) (one_more c.args.self.now.sent lines c.args.sender.now.place line c.add.ensures.within whole)

pub returns-clause-few : goal.returns-clause-few
returns-clause-few g c lines whole =
    subst (λ (own : List (List ℕ)). length own ≤ length lines) (sym c.add.ensures.same) (few_of c.args.self.now.sent lines c.args.sender.now.place whole)
