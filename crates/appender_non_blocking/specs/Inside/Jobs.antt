-- Works beside their senders.
use Rattle.std.specs.Prelude.{◌<◌, ℕ, List, map, length, slice_index_or}
use Rattle.appender_non_blocking.specs.SentLines.{SentLines}
use Rattle.appender_non_blocking.specs.declared.non_blocking.work.Job.{Job}

abbrev pub senders_of : {L K : Type 0} → List (Job L K) → List L
senders_of jobs = map (λ j. j.sender) jobs

abbrev pub works_of : {L K : Type 0} → List (Job L K) → List K
works_of jobs = map (λ j. j.work) jobs

-- each work was run once, with its sender
abbrev pub RunsJobs : {L K : Type 0} → (K → SentLines → K → SentLines → Type 0) → (L → SentLines) → List (Job L K) → List (Job L K) → Type 0
RunsJobs {L} {K} does sent old new =
    (i : ℕ) (d : Job L K) → i < length old
    → does (slice_index_or old i d).work (sent (slice_index_or old i d).sender) (slice_index_or new i d).work (sent (slice_index_or new i d).sender)

-- the same, by lists of senders and of works: before, and after
abbrev pub RunsWorksWith : {L K : Type 0} → (K → SentLines → K → SentLines → Type 0) → (L → SentLines) → List L → List K → List L → List K → Type 0
RunsWorksWith {L} {K} does sent senders works senders' works' =
    (i : ℕ) (d : L) (e : K) → i < length works
    → does (slice_index_or works i e) (sent (slice_index_or senders i d)) (slice_index_or works' i e) (sent (slice_index_or senders' i d))
