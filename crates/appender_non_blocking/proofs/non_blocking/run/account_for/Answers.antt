use Rattle.std.proofs.Common.{◌∙◌, ℕ, List, ap, length, subst, sum_by}
use Rattle.line_history.specs.Interleaving.{IsInterleaving}
use Rattle.line_history.proofs.Counts.{all_counted}
use Rattle.appender_non_blocking.proofs.Work.{sum_of_map}
use Rattle.appender_non_blocking.proofs.non_blocking.run.account_for.Goals as goal

pub returns-clause-wrote : goal.returns-clause-wrote
returns-clause-wrote g c = λ senders same.
    let taken = c.done.inside.done.taker in
    let counts = c.final_lines-counts.ensures in
    (taken, subst (λ ls. IsInterleaving ls taken) same counts.whole, counts.handed, c.done.invariant)

-- the number is that of lines
pub returns-clause-accepted : goal.returns-clause-accepted
returns-clause-accepted g c = λ senders same.
    let counts = c.final_lines-counts.ensures in
    counts.accepted ∙ all_counted _ c.done.inside.done.taker counts.whole ∙ ap (λ (z : List (List (List ℕ))). sum_by (λ s. length s) z) same ∙ sum_of_map (λ s. s.lines) senders
