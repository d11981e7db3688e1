-- One write of the rest of a line, and what comes after it.
use Rattle.std.specs.Prelude.{◌≡◌, ℕ, ◌<◌, ◌≤◌}
use Rattle.appender_worker.specs.Core.{Answer, Wrote, Interrupted, Failed, most_repeats}
use Rattle.appender_worker.specs.declared.worker.Step.{Step}
use Rattle.appender_worker.specs.declared.worker.Step.TheVariants.{More, Again, Whole, GivenUp}

-- with these numbers of bytes left and of interruptions so far, this answer is followed by this step
abbrev pub IsNextStep : ℕ → ℕ → Answer → Step → Type 0
IsNextStep rest repeats (Wrote n) (More m) = (m ≡ n) × (0 < n) × (n < rest)
IsNextStep rest repeats (Wrote n) Whole = (0 < n) × (rest ≤ n)
IsNextStep rest repeats (Wrote n) GivenUp = n ≡ 0
IsNextStep rest repeats (Wrote n) Again = ⊥
IsNextStep rest repeats Interrupted Again = repeats < most_repeats
IsNextStep rest repeats Interrupted GivenUp = most_repeats ≤ repeats
IsNextStep rest repeats Interrupted step = ⊥
IsNextStep rest repeats Failed GivenUp = Unit {0}
IsNextStep rest repeats Failed step = ⊥
