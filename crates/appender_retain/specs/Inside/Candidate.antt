-- The candidates that the code sorts.
use Rattle.std.specs.Prelude.{ℕ, ◌-◌, ◌==◌, if◌then◌else◌}
use Rattle.appender_retain.specs.Rank.{Rank}
use Rattle.appender_retain.specs.declared.retain.Candidate.{Candidate}

-- the rank that a candidate carries
abbrev pub rank_in : Candidate → Rank
rank_in c = (c.key, c.name.now, c.place)

-- how many of c candidates are removed, so that at most max - 1 are left beside the next file
abbrev pub removal_count : ℕ → ℕ → ℕ
removal_count max c = if max == 0 then 0 else c - (max - 1)
