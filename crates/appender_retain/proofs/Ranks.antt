-- The candidates of a listing, and which of them go.
use Rattle.std.proofs.Common.{◌≡◌, ◌≢◌, ◌∙◌, ℕ, ◌+◌, ◌-◌, ◌<◌, ◌≤◌, ℤ, pos, Bool, true, false, cond, eqb, leb, ◌||◌, List, [], length, get_or, take, map, Option, None, Some, refl, sym, ap, arith, Ordering}
use Rattle.std.specs.Prelude.{◌==◌}
use Rattle.std.specs.Option.{option_map, option_map_or, option_and_then}
use Rattle.std.specs.List.{Contains, AllPairs, IsDistinct, enumerate_from, slice_get, count_by}
use Rattle.std.specs.List.Sorted.{IsPermutation, IsSorted, IsStrictlySortedBy}
use Rattle.std.specs.Cmp.{IsTotalOrder}
use Rattle.std.specs.Cmp.Lexicographic.{slice_cmp, nat_list_cmp_total}
use Rattle.std.specs.Ordering.{nat_cmp, int_cmp, ordering_then, is_lt}
use Rattle.std.specs.declared.cmp.Ordering.TheVariants.{Less, Equal, Greater}
use Rattle.std.proofs.lemmas.Bool.{ne_eqb}
use Rattle.std.proofs.lemmas.Bool.Decides.{nat_tests}
use Rattle.std.proofs.lemmas.Cmp.{tied_itself, then_total, on_total, int_cmp_total, nat_cmp_total, nat_eq_equiv}
use Rattle.std.proofs.lemmas.List.{length-map, length-take, get_or-map, get_or-take}
use Rattle.std.proofs.lemmas.List.Elements.{Contains-get_or}
use Rattle.std.proofs.lemmas.List.Sorted.{Contains-permutation, IsPermutation-sym, sum_by-IsPermutation}
use Rattle.std.proofs.lemmas.Map.Keys.{IsDistinct-IsPermutation, IsDistinct-from_apart, Less-from_sorted}
use Rattle.std.proofs.lemmas.Map.Lookups.{CmpEqualImpliesEq, exact_bytes, exact_signed, exact_unsigned}
use Rattle.appender_store.specs.Folder.{Row}
use Rattle.appender_store.specs.declared.store.Kind.TheVariants.{File, Folder, Link, Other}
use Rattle.appender_retain.specs.Rank.{LogFiles, Rank, rank_cmp, rank_of, rank_at, ranks, candidate_key, survives, IsRankedBelow, IsPlan}
use Rattle.appender_retain.specs.Inside.Candidate.{removal_count}
use Rattle.appender_retain.proofs.Elements.{Contains_map, map_Contains, Contains_filter_map, filter_map_Contains, all_pairs_filter_map, Contains_enumerated, enumerated_Contains, numbers_rise}
use Rattle.appender_retain.proofs.Order.{how_many_above, lowest_go, go_lowest, strict_from_sorted}

-- ---- ranks

-- a candidate is a file, and its rank has its name and its place
pub record IsCandidate (at : ℕ) (row : Row) (r : Rank) : Type 0 where
  pub name : row.0 ≡ Some r.1
  pub kind : row.1 ≡ File
  pub place : r.2 ≡ at

-- it is so wherever there is a rank
pub candidate : (log : LogFiles) (e : ℕ × Row) (r : Rank) → rank_of log e ≡ Some r → IsCandidate e.0 e.1 r
candidate log (place, (Some name, File, created)) r h = by (candidate_key log name created) h
  where
    by : (o : Option ℤ) → option_map (λ (key : ℤ). (key, name, place)) o ≡ Some r → IsCandidate place (Some name, File, created) r
    by None never = absurd (let nothing : None ≡ Some r = never in cc)
    by (Some key) is =
        let same : Some (key, name, place) ≡ Some r = is in
        let rank : (key, name, place) ≡ r = (cc) in
        record { name = ap (λ (r : Rank). Some r.1) rank; kind = refl; place = sym (ap (λ (r : Rank). r.2) rank) }
candidate log (place, (Some name, Folder, created)) r h = absurd (let nothing : None ≡ Some r = h in cc)
candidate log (place, (Some name, Link, created)) r h = absurd (let nothing : None ≡ Some r = h in cc)
candidate log (place, (Some name, Other, created)) r h = absurd (let nothing : None ≡ Some r = h in cc)
candidate log (place, (None, kind, created)) r h = absurd (let nothing : None ≡ Some r = h in cc)

-- whether two ranks have one place
abbrev same_place : Rank → Rank → Bool
same_place a b = eqb a.2 b.2

module _ (log : LogFiles) (rows : List Row) where
  -- what is listed at a candidate's place has its rank
  pub at_place : (r : Rank) → Contains (ranks log rows) r → rank_at log rows r.2 ≡ Some r
  at_place r there =
      let w = filter_map_Contains (rank_of log) (enumerate_from 0 rows) r there in
      let number : r.2 ≡ w.0.0 = (candidate log w.0 r w.2).place in
      let row : slice_get rows r.2 ≡ Some w.0.1 = ap (slice_get rows) number ∙ enumerated_Contains rows w.0 w.1 in
      ap (option_and_then (λ (l : Row). rank_of log (r.2, l))) row ∙ ap (λ (place : ℕ). rank_of log (place, w.0.1)) number ∙ w.2

  module _ (place : ℕ) (r : Rank) (at : rank_at log rows place ≡ Some r) where
    -- a rank at a place is that of the row there
    pub row_of_rank : (l : Row) × (slice_get rows place ≡ Some l) × (rank_of log (place, l) ≡ Some r)
    row_of_rank = by (slice_get rows place) refl at
      where
        by : (o : Option Row) → slice_get rows place ≡ o → option_and_then (λ (l : Row). rank_of log (place, l)) o ≡ Some r → (l : Row) × (slice_get rows place ≡ Some l) × (rank_of log (place, l) ≡ Some r)
        by None e never = absurd (let nothing : None ≡ Some r = never in cc)
        by (Some row) e is = (row, e, is)

    -- and what has a rank is a candidate
    candidate_at : Contains (ranks log rows) r × (r.2 ≡ place)
    candidate_at =
        let w = row_of_rank in
        (Contains_filter_map (rank_of log) (enumerate_from 0 rows) (place, w.0) r (Contains_enumerated rows place w.0 w.1) w.2, (candidate log (place, w.0) r w.2).place)

  -- candidates have places of their own
  places_apart : IsDistinct same_place (ranks log rows)
  places_apart =
      IsDistinct-from_apart same_place (ranks log rows) (λ i j d less short.
      let rise : (get_or (ranks log rows) i d).2 < (get_or (ranks log rows) j d).2 =
      all_pairs_filter_map (λ (a b : ℕ × Row). a.0 < b.0) (λ (r s : Rank). r.2 < s.2) (rank_of log)
      (λ a b r s less is_r is_s. omega (arith, (candidate log a r is_r).place, (candidate log b s is_s).place)) (enumerate_from 0 rows) (numbers_rise rows) i j d less short in
      ne_eqb _ _ (λ same. omega arith))

-- ---- order

-- ranks compare as their parts do
pub rank_cmp_total : IsTotalOrder rank_cmp
rank_cmp_total = then_total (on_total (λ (r : Rank). r.0) int_cmp_total) (then_total (on_total (λ (r : Rank). r.1) nat_list_cmp_total) (on_total (λ (r : Rank). r.2) nat_cmp_total))

-- both parts of an order that says Equal do
both_equal : (a b : Ordering) → ordering_then a b ≡ Equal → (a ≡ Equal) × (b ≡ Equal)
both_equal Less b never = absurd (let nothing : Less ≡ Equal = never in cc)
both_equal Equal b e = (refl, e)
both_equal Greater b never = absurd (let nothing : Greater ≡ Equal = never in cc)

-- ranks that tie are one
pub exact_rank : CmpEqualImpliesEq rank_cmp
exact_rank (key, name, place) (its_key, its_name, its_place) tie =
    let keys = both_equal (int_cmp key its_key) _ tie in
    let names = both_equal (slice_cmp nat_cmp name its_name) (nat_cmp place its_place) keys.1 in
    cc (exact_signed key its_key keys.0, exact_bytes name its_name names.0, exact_unsigned place its_place names.1)

-- stands where there is no rank
no_rank : Rank
no_rank = (pos 0, [], 0)

-- the candidates in order
pub record InOrder (log : LogFiles) (rows : List Row) (ordered : List Rank) : Type 0 where
  pub moved : IsPermutation (ranks log rows) ordered
  pub rising : IsStrictlySortedBy rank_cmp ordered

-- the places of those that go
abbrev pub places_to_go : ℕ → List Rank → List ℕ
places_to_go max ordered = map (λ (r : Rank). r.2) (take (removal_count max (length ordered)) ordered)

module _ (log : LogFiles) (rows : List Row) (ordered : List Rank) where
  -- candidates that are sorted are strictly so
  pub in_order : IsPermutation (ranks log rows) ordered → IsSorted rank_cmp ordered → InOrder log rows ordered
  in_order moved sorted = record {
    moved = moved;
    rising = strict_from_sorted rank_cmp_total same_place ordered no_rank (λ a b tie. rw (exact_rank a b tie) (nat_eq_equiv.refl b.2)) sorted
        (IsDistinct-IsPermutation same_place (λ a b. nat_eq_equiv.symm a.2 b.2) (ranks log rows) ordered moved (places_apart log rows));
  }

  -- places ranked below one another differ
  below_differs : (low high : ℕ) → IsRankedBelow log rows low high → low ≢ high
  below_differs low high b same =
      let one : Some b.lower ≡ Some b.higher = sym b.at_low ∙ ap (rank_at log rows) same ∙ b.at_high in
      let same_rank : b.lower ≡ b.higher = (cc) in
      let tie : rank_cmp b.lower b.higher ≡ Equal = rw (← same_rank) (tied_itself rank_cmp_total b.lower) in
      let nothing : Less ≡ Equal = sym b.below ∙ tie in
      cc

  module _ (max : ℕ) (o : InOrder log rows ordered) where
    -- as many stand above in order as in the listing
    same_count : (r : Rank) → how_many_above rank_cmp r ordered ≡ count_by (λ (b : Rank). is_lt (rank_cmp r b)) (ranks log rows)
    same_count r = sum_by-IsPermutation (λ b. cond (is_lt (rank_cmp r b)) 1 0) (ranks log rows) ordered o.moved

    -- what is in order is listed at its place
    listed_at : (r : Rank) → Contains ordered r → rank_at log rows r.2 ≡ Some r
    listed_at r there = at_place log rows r (Contains-permutation ordered (ranks log rows) r (IsPermutation-sym (ranks log rows) ordered o.moved) there)

    -- what goes doesn't survive
    gone_falls : (place : ℕ) → Contains (places_to_go max ordered) place → survives log max rows place ≡ false
    gone_falls place there = by (max == 0) refl there
      where
        by : (b : Bool) → (max == 0) ≡ b → Contains (map (λ (r : Rank). r.2) (take (cond b 0 (length ordered - (max - 1))) ordered)) place → (b || option_map_or (λ (a : Rank). leb (count_by (λ (b : Rank). is_lt (rank_cmp a b)) (ranks log rows) + 2) max) (rank_at log rows place) true) ≡ false
        by true e (k, l, is) = absurd (omega arith)
        by false e c =
            let positive : 0 < max = grind (arith, nat_tests) in
            let w = map_Contains (λ (r : Rank). r.2) (take (length ordered - (max - 1)) ordered) place c in
            let low = lowest_go rank_cmp_total ordered max o.rising positive w.0 w.1 in
            let found : rank_at log rows place ≡ Some w.0 = ap (rank_at log rows) (sym w.2) ∙ listed_at w.0 low.0 in
            rw (found, ← same_count w.0) low.1

    -- and what doesn't survive goes
    fallen_goes : (place : ℕ) → survives log max rows place ≡ false → Contains (places_to_go max ordered) place
    fallen_goes place falls = by (max == 0) refl (rank_at log rows place) refl falls
      where
        by : (b : Bool) → (max == 0) ≡ b → (r : Option Rank) → rank_at log rows place ≡ r → (b || option_map_or (λ (a : Rank). leb (count_by (λ (b : Rank). is_lt (rank_cmp a b)) (ranks log rows) + 2) max) r true) ≡ false → Contains (map (λ (r : Rank). r.2) (take (cond b 0 (length ordered - (max - 1))) ordered)) place
        by true e r f no_way = absurd (let both : true ≡ false = no_way in cc)
        by false e None f no_way = absurd (let both : true ≡ false = no_way in cc)
        by false e (Some a) f many =
            let positive : 0 < max = grind (arith, nat_tests) in
            let at = candidate_at log rows place a f in
            let more : leb (how_many_above rank_cmp a ordered + 2) max ≡ false = rw (same_count a) many in
            let there : Contains (take (length ordered - (max - 1)) ordered) a = go_lowest rank_cmp_total ordered max o.rising positive a (Contains-permutation (ranks log rows) ordered a o.moved at.0) more in
            rw at.1 at (Contains_map (λ (r : Rank). r.2) (take (length ordered - (max - 1)) ordered) a there)

    -- the places that go are in rank order
    gone_rises : AllPairs (IsRankedBelow log rows) (places_to_go max ordered)
    gone_rises i j d less short =
        let many = removal_count max (length ordered) in
        let few : (j < many) × (j < length ordered) = (omega (arith, length-map (take many ordered) (λ (r : Rank). r.2), length-take many ordered), omega (arith, length-map (take many ordered) (λ (r : Rank). r.2), length-take many ordered)) in
        let at : (k : ℕ) → k ≤ j → rank_at log rows (get_or (places_to_go max ordered) k d) ≡ Some (get_or ordered k no_rank) =
        λ k h.
        ap (rank_at log rows) (get_or-map (λ (r : Rank). r.2) (take many ordered) k no_rank d (omega (arith, length-take many ordered)) ∙ ap (λ (r : Rank). r.2) (get_or-take many ordered k no_rank (omega arith)))
        ∙ listed_at (get_or ordered k no_rank) (Contains-get_or ordered k no_rank (omega arith)) in
        record {
          lower = get_or ordered i no_rank;
          higher = get_or ordered j no_rank;
          at_low = at i (omega arith);
          at_high = at j (omega arith);
          below = Less-from_sorted rank_cmp ordered i j no_rank o.rising less few.1;
        }

    -- so the places are a plan
    pub plans : IsPlan log max rows (places_to_go max ordered)
    plans = record {
      exact = λ place. (gone_falls place, fallen_goes place);
      once = λ i j d less short. below_differs _ _ (gone_rises i j d less short);
      in_rank_order = gone_rises;
    }
