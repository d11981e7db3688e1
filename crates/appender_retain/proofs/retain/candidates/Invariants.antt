use Rattle.std.proofs.Common.{◌≡◌, map, drop, ◌++◌}
use Rattle.std.specs.List.{filter_map, enumerate_from}
use Rattle.appender_store.specs.Folder.{listed_row}
use Rattle.appender_retain.specs.Rank.{rank_of, ranks}
use Rattle.appender_retain.specs.Inside.Candidate.{rank_in}
use Rattle.appender_retain.proofs.retain.candidates.Given as goal

-- the candidates so far, and before them those that are still to come, are all
abbrev pub invariant-loop-place : goal.invariant-loop-place
invariant-loop-place l =
    map rank_in l.all.items ++ filter_map (rank_of l.log) (enumerate_from l.place (map listed_row (drop l.place l.listed)))
    ≡ ranks l.log (map listed_row l.listed)
