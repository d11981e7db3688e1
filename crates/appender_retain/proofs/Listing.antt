-- What a listing says of the names of a folder.
use Rattle.std.proofs.Common.{◌≡◌, ◌∙◌, ℕ, ◌+◌, ◌<◌, ℤ, Bool, true, false, ◌||◌, leb, cond, List, [], length, get_or, map, Option, None, Some, refl, sym, ap, subst, arith, Ordering}
use Rattle.std.specs.Prelude.{◌==◌}
use Rattle.std.specs.Option.{option_map, option_map_or, option_and_then, unwrap_or}
use Rattle.std.specs.List.{IsDistinct, enumerate_from, slice_get, count_by}
use Rattle.std.specs.List.Sorted.{IsPermutation}
use Rattle.std.specs.Cmp.Lexicographic.{slice_cmp, nat_list_cmp_total}
use Rattle.std.specs.Ordering.{nat_cmp, int_cmp, ordering_then, is_lt, is_eq}
use Rattle.std.specs.Str.{bytes_eq}
use Rattle.std.specs.declared.cmp.Ordering.TheVariants.{Less, Equal, Greater}
use Rattle.std.specs.FinMap as fin
use Rattle.std.proofs.lemmas.Cmp.{nat_list_eq_equiv, tied_itself, nat_cmp_total}
use Rattle.std.proofs.lemmas.List.{length-map, get_or-map}
use Rattle.std.proofs.lemmas.List.Sorted.{Contains-permutation, IsPermutation-sym, sum_by-IsPermutation}
use Rattle.std.proofs.lemmas.Map.Keys.{IsDistinct-IsPermutation, IsDistinct-from_apart, apart_from_distinct}
use Rattle.std.proofs.lemmas.Map.Lookups.{exact_bytes}
use Rattle.std.proofs.lemmas.Map.Text.{is_eq-slice_cmp}
use Rattle.std.proofs.lemmas.Map.Views.{tells_apart}
use Rattle.std.proofs.lemmas.Option.{slice_get_within, get_or_from_slice_get}
use Rattle.appender_store.specs.Content.{NameMap, Entry, File, Link, Folder}
use Rattle.appender_store.specs.Folder.{Row, entry_row}
use Rattle.appender_store.specs.declared.store.Kind.TheVariants.{File as PlainFile, Folder as PlainFolder, Link as PlainLink, Other}
use Rattle.appender_retain.specs.Rank.{LogFiles, Rank, rank_cmp, rank_of, candidate_key, survives, ranks}
use Rattle.appender_retain.specs.Survival.{name_ranks, name_survives}
use Rattle.appender_retain.specs.Pruning.{listed_name_at}
use Rattle.appender_retain.proofs.Elements.{Contains_found, found_Contains, Contains_map, map_Contains, count_filter_map, count_map, count_agree}
use Rattle.appender_retain.proofs.Entries.{entries_rise, entry_there, there_entry}

-- ---- names and rows

-- the rows of a listing of these names
pub record IsListing (names : NameMap) (rows : List Row) : Type 0 where
  pub moved : IsPermutation rows (map entry_row (fin.entries names))

-- a row has its entry's name
pub row_name : (e : List ℕ × Entry) → (entry_row e).0 ≡ Some e.0
row_name (name, File b t) = refl
row_name (name, Link target) = refl
row_name (name, Folder) = refl

-- whether two rows have one name
abbrev same_name : Row → Row → Bool
same_name l m = bytes_eq (unwrap_or l.0 []) (unwrap_or m.0 [])

-- entries have rows of their own
rows_apart : (names : NameMap) → IsDistinct same_name (map entry_row (fin.entries names))
rows_apart names =
    let all = fin.entries names in
    let no_entry : List ℕ × Entry = ([], Folder) in
    IsDistinct-from_apart same_name (map entry_row all) (λ i j d before short.
    let name : (k : ℕ) → k < length all → unwrap_or (get_or (map entry_row all) k d).0 [] ≡ (get_or all k no_entry).0 =
    λ k h. ap (λ (l : Row). unwrap_or l.0 []) (get_or-map entry_row all k no_entry d h) ∙ ap (λ o. unwrap_or o []) (row_name (get_or all k no_entry)) in
    let less : slice_cmp nat_cmp (get_or all i no_entry).0 (get_or all j no_entry).0 ≡ Less = entries_rise names i j no_entry before (omega (arith, length-map all entry_row)) in
    rw (name i (omega (arith, length-map all entry_row)), name j (omega (arith, length-map all entry_row)))
    (sym (is_eq-slice_cmp (get_or all i no_entry).0 (get_or all j no_entry).0) ∙ ap is_eq less))

-- the row of a name at a place
pub named_row : (rows : List Row) (place : ℕ) (name : List ℕ) → listed_name_at rows place ≡ Some name → (l : Row) × (slice_get rows place ≡ Some l) × (l.0 ≡ Some name)
named_row rows place name h = by (slice_get rows place) refl h
  where
    by : (o : Option Row) → slice_get rows place ≡ o → option_and_then (λ (l : Row). l.0) o ≡ Some name → (l : Row) × (slice_get rows place ≡ Some l) × (l.0 ≡ Some name)
    by None at never = absurd (let nothing : None ≡ Some name = never in cc)
    by (Some l) at is = (l, at, is)

module _ (names : NameMap) (rows : List Row) (all : IsListing names rows) where
  -- no two rows have one name
  not_before : (name : List ℕ) (j k : ℕ) → listed_name_at rows j ≡ Some name → listed_name_at rows k ≡ Some name → ¬ (j < k)
  not_before name j k at_j at_k before =
      let l = named_row rows j name at_j in
      let m = named_row rows k name at_k in
      let apart : IsDistinct same_name rows =
      IsDistinct-IsPermutation same_name (λ l m. nat_list_eq_equiv.symm (unwrap_or l.0 []) (unwrap_or m.0 [])) (map entry_row (fin.entries names)) rows (IsPermutation-sym rows (map entry_row (fin.entries names)) all.moved) (rows_apart names) in
      let differ : same_name l.0 m.0 ≡ false = rw (get_or_from_slice_get rows j l.0 l.0 l.1, get_or_from_slice_get rows k m.0 l.0 m.1) at (apart_from_distinct same_name rows j k l.0 apart before (slice_get_within rows k m.0 m.1)) in
      let same : same_name l.0 m.0 ≡ true = rw (l.2, m.2) (nat_list_eq_equiv.refl name) in
      let both : true ≡ false = sym same ∙ differ in
      cc

  -- so a name has one place
  pub one_place : (name : List ℕ) (j k : ℕ) → listed_name_at rows j ≡ Some name → listed_name_at rows k ≡ Some name → j ≡ k
  one_place name j k at_j at_k =
      let first : ¬ (j < k) = not_before name j k at_j at_k in
      let second : ¬ (k < j) = not_before name k j at_k at_j in
      omega (arith, first, second)

  -- a row is that of an entry
  pub row_at : (k : ℕ) (l : Row) → slice_get rows k ≡ Some l → (e : List ℕ × Entry) × (entry_row e ≡ l) × (fin.get names e.0 ≡ Some e.1)
  row_at k l at =
      let w = map_Contains entry_row (fin.entries names) l (Contains-permutation rows (map entry_row (fin.entries names)) l all.moved (Contains_found rows k l at)) in
      (w.0, w.2, entry_there nat_list_cmp_total names w.0 w.1)

  -- and each entry has one
  pub at_row : (name : List ℕ) (v : Entry) → fin.get names name ≡ Some v → (k : ℕ) × (slice_get rows k ≡ Some (entry_row (name, v)))
  at_row name v h =
      found_Contains rows (entry_row (name, v)) (Contains-permutation (map entry_row (fin.entries names)) rows (entry_row (name, v)) (IsPermutation-sym rows (map entry_row (fin.entries names)) all.moved)
      (Contains_map entry_row (fin.entries names) (name, v) (there_entry exact_bytes names name v h)))

-- ---- ranks

-- a place decides only between rows of one name
agree : (log : LogFiles) (key : ℤ) (name : List ℕ) (k j : ℕ) (l : Row) → (l.0 ≡ Some name → j ≡ k) → option_map_or (λ (b : Rank). is_lt (rank_cmp (key, name, k) b)) (rank_of log (j, l)) false ≡ option_map_or (λ (b : Rank). is_lt (rank_cmp (key, name, 0) b)) (rank_of log (0, l)) false
agree log key name k j (Some other, PlainFile, created) same = by (candidate_key log other created)
  where
    tie : (keys names : Ordering) → slice_cmp nat_cmp name other ≡ names → is_lt (ordering_then keys (ordering_then names (nat_cmp k j))) ≡ is_lt (ordering_then keys (ordering_then names (nat_cmp 0 0)))
    tie Less names e = refl
    tie Equal Less e = refl
    tie Equal Equal e =
        let one : name ≡ other = tells_apart exact_bytes name other (ap is_eq e) in
        let place : j ≡ k = same (ap Some (sym one)) in
        rw (place, tied_itself nat_cmp_total k) refl
    tie Equal Greater e = refl
    tie Greater names e = refl

    by : (o : Option ℤ) → option_map_or (λ (b : Rank). is_lt (rank_cmp (key, name, k) b)) (option_map (λ (its : ℤ). (its, other, j)) o) false ≡ option_map_or (λ (b : Rank). is_lt (rank_cmp (key, name, 0) b)) (option_map (λ (its : ℤ). (its, other, 0)) o) false
    by None = refl
    by (Some its) = tie (int_cmp key its) (slice_cmp nat_cmp name other) refl
agree log key name k j (Some other, PlainFolder, created) same = refl
agree log key name k j (Some other, PlainLink, created) same = refl
agree log key name k j (Some other, Other, created) same = refl
agree log key name k j (None, kind, created) same = refl

module _ (log : LogFiles) (names : NameMap) (rows : List Row) (all : IsListing names rows) (k : ℕ) (name : List ℕ) where
  -- as many candidates stand above in the listing as among the names
  same_above : listed_name_at rows k ≡ Some name → (key : ℤ) → count_by (λ (b : Rank). is_lt (rank_cmp (key, name, k) b)) (ranks log rows) ≡ count_by (λ (b : Rank). is_lt (rank_cmp (key, name, 0) b)) (name_ranks log names)
  same_above at key =
      count_filter_map by_place (rank_of log) (enumerate_from 0 rows)
      ∙ count_agree (λ (e : ℕ × Row). option_map_or by_place (rank_of log e) false) passes 0 rows
      (λ j m there. let number : j ≡ 0 + j = omega arith in subst (λ (i : ℕ). option_map_or by_place (rank_of log (i, m)) false ≡ passes m) number (agree log key name k j m (λ is. one_place names rows all name j k (ap (option_and_then (λ (l : Row). l.0)) there ∙ is) at)))
      ∙ sym (sum_by-IsPermutation (λ (m : Row). cond (passes m) 1 0) rows (map entry_row (fin.entries names)) all.moved)
      ∙ count_map passes entry_row (fin.entries names)
      ∙ sym (count_filter_map by_name (λ (e : List ℕ × Entry). rank_of log (0, entry_row e)) (fin.entries names))
    where
      by_place : Rank → Bool
      by_place b = is_lt (rank_cmp (key, name, k) b)

      by_name : Rank → Bool
      by_name b = is_lt (rank_cmp (key, name, 0) b)

      passes : Row → Bool
      passes m = option_map_or by_name (rank_of log (0, m)) false

  -- a name survives exactly if its row does
  pub same_survival : (max : ℕ) (v : Entry) → slice_get rows k ≡ Some (entry_row (name, v)) → fin.get names name ≡ Some v → survives log max rows k ≡ name_survives log max names name
  same_survival max v at here =
      ap (λ (o : Option Row). (max == 0) || option_map_or stays (option_and_then (λ (m : Row). rank_of log (k, m)) o) true) at
      ∙ by v (same_above (ap (option_and_then (λ (l : Row). l.0)) at ∙ row_name (name, v)))
      ∙ ap (λ (o : Option Entry). (max == 0) || option_map_or name_stays (option_and_then (λ (e : Entry). rank_of log (0, entry_row (name, e))) o) true) (sym here)
    where
      stays : Rank → Bool
      stays a = leb (count_by (λ (b : Rank). is_lt (rank_cmp a b)) (ranks log rows) + 2) max

      name_stays : Rank → Bool
      name_stays a = leb (count_by (λ (b : Rank). is_lt (rank_cmp a b)) (name_ranks log names) + 2) max

      Same : Type 0
      Same = (key : ℤ) → count_by (λ (b : Rank). is_lt (rank_cmp (key, name, k) b)) (ranks log rows) ≡ count_by (λ (b : Rank). is_lt (rank_cmp (key, name, 0) b)) (name_ranks log names)

      by_key : (o : Option ℤ) → Same → ((max == 0) || option_map_or stays (option_map (λ (key : ℤ). (key, name, k)) o) true) ≡ ((max == 0) || option_map_or name_stays (option_map (λ (key : ℤ). (key, name, 0)) o) true)
      by_key None count = refl
      by_key (Some key) count = ap (λ (c : ℕ). (max == 0) || leb (c + 2) max) (count key)

      by : (e : Entry) → Same → ((max == 0) || option_map_or stays (rank_of log (k, entry_row (name, e))) true) ≡ ((max == 0) || option_map_or name_stays (rank_of log (0, entry_row (name, e))) true)
      by (File b t) count = by_key (candidate_key log name t) count
      by (Link target) count = refl
      by Folder count = refl
