use Rattle.std.proofs.Common.{◌≡◌, ◌+◌, ◌≤◌, map, drop}
use Rattle.std.specs.List.{count_by}
use Rattle.appender_store.specs.Folder.{listed_row}
use Rattle.appender_retain.specs.Rank.{is_later}
use Rattle.appender_retain.proofs.retain.count_later.Given as goal

-- how many were counted, and how many are still to come, are all
abbrev pub invariant-loop-entry : goal.invariant-loop-entry
invariant-loop-entry l =
    (l.count + count_by (is_later l.log) (map listed_row (drop l.entry-index l.listed)) ≡ count_by (is_later l.log) (map listed_row l.listed))
    × (l.count ≤ l.entry-index)
