-- What threads did with new senders.
use Rattle.std.proofs.Common.{◌≡◌, ◌∙◌, ◌<◌, ℕ, Bool, List, [], ◌∷◌, length, map, slice_index_or, refl, subst, sym, arith}
use Rattle.std.specs.Prelude.{sum_by}
use Rattle.std.proofs.lemmas.List.FromFn.{length-map-range_with_len, get_or-map-range_with_len}
use Rattle.std.proofs.lemmas.List.Sums.{sum_by-cons}
use Rattle.appender_non_blocking.specs.SentLines.{SentLines, new_sender, new_senders}
use Rattle.appender_non_blocking.specs.Inside.Jobs.{RunsWorksWith}
use Rattle.appender_non_blocking.specs.Work.{RunsEachWork}

-- there are as many of them as were made
pub made : (lossy : Bool) (n : ℕ) (old : List SentLines) → old ≡ new_senders lossy n → length old ≡ n
made lossy n old is = subst (λ xs. length xs ≡ n) (sym is) (length-map-range_with_len (new_sender lossy) 0 n)

-- as many lines as there are in all lists
pub sum_of_map : {T : Type 0} (lines : T → List (List ℕ)) (xs : List T) → sum_by (λ s. length s) (map lines xs) ≡ sum_by (λ t. length (lines t)) xs
sum_of_map lines [] = refl
sum_of_map lines (x ∷ xs) =
    omega (arith, sum_by-cons (λ (s : List (List ℕ)). length s) (lines x) (map lines xs), sum_by-cons (λ t. length (lines t)) x xs, sum_of_map lines xs)

-- each work was run with one of them
pub worked : {K : Type 0} (does : K → SentLines → K → SentLines → Type 0) (lossy : Bool) (n : ℕ) (works done : List K) (old new : List SentLines)
    → n ≡ length works → old ≡ new_senders lossy n → length new ≡ length old → length done ≡ length works
    → RunsWorksWith does (λ s. s) old works new done → RunsEachWork does lossy works done new
worked does lossy n works done old new many is long same each =
    let one : (i : ℕ) (d : SentLines) → i < n → slice_index_or old i d ≡ new_sender lossy i = λ i d h. subst (λ xs. slice_index_or xs i d ≡ new_sender lossy i) (sym is) (get_or-map-range_with_len (new_sender lossy) 0 n i i d h (omega arith)) in
    record {
      each_work = same;
      each_sender = long ∙ made lossy n old is ∙ many;
      did = λ i work d h. subst (λ s. does (slice_index_or works i work) s (slice_index_or done i work) (slice_index_or new i d)) (one i d (omega (arith, h, many))) (each i d work h);
    }
