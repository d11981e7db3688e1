use Rattle.std.proofs.Common.{◌≡◌, ◌≤◌, max, map, drop}
use Rattle.appender_store.specs.Folder.{listed_row}
use Rattle.appender_rolling.specs.Inside.Numbers.{first_number}
use Rattle.appender_rolling.proofs.rolling.setup.first_number.Given as goal

-- the greater of what was found so far and of what is still to come is the answer
abbrev pub invariant-loop-entry : goal.invariant-loop-entry
invariant-loop-entry l =
    (max l.first (first_number l.names l.by_name l.continues l.moment (map listed_row (drop l.entry-index l.listed))) ≡ first_number l.names l.by_name l.continues l.moment (map listed_row l.listed))
    × (l.first ≤ 999999)
