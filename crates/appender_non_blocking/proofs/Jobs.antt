-- Jobs, the last ones first.
use Rattle.std.proofs.Common.{◌≡◌, ◌-◌, ◌<◌, ◌++◌, ◌∷◌, [], ℕ, List, map, length, reverse, slice_index_or, refl, sym, subst, arith}
use Rattle.std.proofs.lemmas.List.{map-append, reverse-append, get_or-reverse, get_or-map, length-map, length-reverse}
use Rattle.appender_non_blocking.specs.SentLines.{SentLines}
use Rattle.appender_non_blocking.specs.declared.non_blocking.work.Job.{Job}
use Rattle.appender_non_blocking.specs.Inside.Jobs.{senders_of, works_of, RunsJobs, RunsWorksWith}

-- one job more at the end is the first in reverse
snoc : {A X : Type 0} (f : A → X) (xs : List A) (x : A) → reverse (map f (xs ++ x ∷ [])) ≡ f x ∷ reverse (map f xs)
snoc f xs x = rw (map-append f xs (x ∷ []), reverse-append (map f xs) (f x ∷ [])) refl

pub more_senders : {L K : Type 0} (jobs : List (Job L K)) (p : Job L K) → reverse (senders_of (jobs ++ p ∷ [])) ≡ p.sender ∷ reverse (senders_of jobs)
more_senders jobs p = snoc (λ q. q.sender) jobs p

pub more_works : {L K : Type 0} (jobs : List (Job L K)) (p : Job L K) → reverse (works_of (jobs ++ p ∷ [])) ≡ p.work ∷ reverse (works_of jobs)
more_works jobs p = snoc (λ q. q.work) jobs p

-- an element of the reverse
at : {A X : Type 0} (f : A → X) (xs : List A) (i : ℕ) (d : A) (e : X) → i < length xs → slice_index_or (reverse (map f xs)) i e ≡ f (slice_index_or xs (length xs - 1 - i) d)
at f xs i d e h =
    let long : length (map f xs) ≡ length xs = length-map xs f in
    let one : slice_index_or (reverse (map f xs)) i e ≡ slice_index_or (map f xs) (length (map f xs) - 1 - i) e = get_or-reverse (map f xs) i e (omega (arith, long, h)) in
    let two : slice_index_or (map f xs) (length xs - 1 - i) e ≡ f (slice_index_or xs (length xs - 1 - i) d) = get_or-map f xs (length xs - 1 - i) d e (omega (arith, h)) in
    rw (one, long) two

pub all_did : {L K : Type 0} (does : K → SentLines → K → SentLines → Type 0) (sent : L → SentLines) (old new : List (Job L K)) (senders senders' : List L) (works works' : List K) → reverse (senders_of old) ≡ senders → reverse (works_of old) ≡ works → senders' ≡ reverse (senders_of new) → works' ≡ reverse (works_of new) → length new ≡ length old → RunsJobs does sent old new → RunsWorksWith does sent senders works senders' works'
all_did {L} {K} does sent old new senders senders' works works' s w s' w' long all i d e h =
    let p : Job L K = record { sender = d; work = e } in
    let long_map : length (works_of old) ≡ length old = length-map old (λ q. q.work) in
    let long_reverse : length (reverse (works_of old)) ≡ length (works_of old) = length-reverse (works_of old) in
    let count : length works ≡ length old = subst (λ ws. length ws ≡ length old) w (omega (arith, long_map, long_reverse)) in
    let here : i < length old = omega (arith, h, count) in
    let there : i < length new = omega (arith, here, long) in
    let j : ℕ = length old - 1 - i in
    let is_sender : slice_index_or senders i d ≡ (slice_index_or old j p).sender = subst (λ xs. slice_index_or xs i d ≡ (slice_index_or old j p).sender) s (at (λ q. q.sender) old i p d here) in
    let is_work : slice_index_or works i e ≡ (slice_index_or old j p).work = subst (λ xs. slice_index_or xs i e ≡ (slice_index_or old j p).work) w (at (λ q. q.work) old i p e here) in
    let is_sender' : slice_index_or senders' i d ≡ (slice_index_or new j p).sender = rw (s', sym long) (at (λ q. q.sender) new i p d there) in
    let is_work' : slice_index_or works' i e ≡ (slice_index_or new j p).work = rw (w', sym long) (at (λ q. q.work) new i p e there) in
    rw (is_sender, is_work, is_sender', is_work') (all j p (omega (arith, here)))
