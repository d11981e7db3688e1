use Rattle.std.proofs.Common.{◌≡◌, ◌≤◌, ◌+◌, true, length}
use Rattle.rolltee_core.specs.Feed.{line_count}
use Rattle.rolltee_core.proofs.feed.count_lines.Given as goal

-- the lines of the rest are still to be counted
abbrev pub invariant-loop-rest : goal.invariant-loop-rest
invariant-loop-rest l = (l.count + line_count true l.rest ≡ line_count true l.fn.text) × (l.count + length l.rest ≤ length l.fn.text)

abbrev pub decreases-loop-rest : goal.decreases-loop-rest
decreases-loop-rest l = length l.rest
