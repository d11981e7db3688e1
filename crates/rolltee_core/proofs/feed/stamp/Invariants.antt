use Rattle.std.proofs.Common.{◌≡◌, ◌≢◌, ℕ, List, [], ◌++◌, length}
use Rattle.rolltee_core.specs.Feed.{begins_after, IsTimed}
use Rattle.rolltee_core.proofs.feed.stamp.Given as goal

-- the text of what is done, and whether the rest begins a line
abbrev pub invariant-loop-rest : goal.invariant-loop-rest
invariant-loop-rest l =
    (done : List ℕ) × (l.fn.piece ≡ done ++ l.rest) × IsTimed l.fn.begins done l.stamped.items
    × (l.rest ≢ [] → begins_after l.fn.begins done ≡ l.begins)

abbrev pub decreases-loop-rest : goal.decreases-loop-rest
decreases-loop-rest l = length l.rest
