-- The candidates that the code keeps, as ranks.
use Rattle.std.proofs.Common.{◌≡◌, ◌∙◌, ℕ, ◌+◌, ◌<◌, List, [], ◌∷◌, length, take, map, refl, sym, ap, subst, arith, Ordering}
use Rattle.std.specs.List.Sorted.{IsPermutation, IsSorted, IsSortedBy}
use Rattle.std.specs.Ordering.{is_lt}
use Rattle.std.proofs.lemmas.List.{length-map, get_or-map, take-map}
use Rattle.std.proofs.lemmas.List.Sorted.{IsPermutation-map}
use Rattle.appender_store.specs.Folder.{Row}
use Rattle.appender_retain.specs.Rank.{LogFiles, Rank, rank_cmp, ranks}
use Rattle.appender_retain.specs.Inside.Candidate.{rank_in, removal_count}
use Rattle.appender_retain.specs.declared.retain.Candidate.{Candidate}
use Rattle.appender_retain.proofs.Ranks.{InOrder, in_order, places_to_go}

-- a list sorted by a key has its keys sorted
sorted_keys : {X K : Type 0} (f : X → K) (R : K → K → Ordering) (xs : List X) → IsSortedBy (λ x y. is_lt (R (f x) (f y))) xs → IsSorted R (map f xs)
sorted_keys f R [] sorted k d low high = absurd (omega arith)
sorted_keys f R (x ∷ xs) sorted k d low high =
    let short : k + 1 < length (x ∷ xs) = omega (arith, length-map (x ∷ xs) f) in
    let shorter : k < length (x ∷ xs) = omega arith in
    rw (get_or-map f (x ∷ xs) (k + 1) x d short, get_or-map f (x ∷ xs) k x d shorter) (sorted k x low short)

-- sorted candidates have ranks in order
pub candidates_in_order : (log : LogFiles) (rows : List Row) (cs ds : List Candidate) → map rank_in cs ≡ ranks log rows → IsPermutation cs ds → IsSortedBy (λ x y. is_lt (rank_cmp (rank_in x) (rank_in y))) ds → InOrder log rows (map rank_in ds)
candidates_in_order log rows cs ds all moved sorted =
    in_order log rows (map rank_in ds)
    (subst (λ (rs : List Rank). IsPermutation rs (map rank_in ds)) all (IsPermutation-map rank_in cs ds moved))
    (sorted_keys rank_in rank_cmp ds sorted)

-- a candidate's place is that of its rank
places_map : (cs : List Candidate) → map (λ (c : Candidate). c.place) cs ≡ map (λ (r : Rank). r.2) (map rank_in cs)
places_map [] = refl
places_map (c ∷ cs) = ap (λ ns. c.place ∷ ns) (places_map cs)

-- the first of them have the places that go
pub places_gone : (max count : ℕ) (ds : List Candidate) → count ≡ removal_count max (length ds) → map (λ (c : Candidate). c.place) (take count ds) ≡ places_to_go max (map rank_in ds)
places_gone max count ds e =
    places_map (take count ds) ∙ ap (map (λ (r : Rank). r.2)) (sym (take-map rank_in count ds) ∙ ap (λ (m : ℕ). take m (map rank_in ds)) (e ∙ ap (removal_count max) (sym (length-map ds rank_in))))
