-- Which changes of a folder leave the same survivors.
use Rattle.std.proofs.Common.{◌≡◌, ◌∙◌, ◌||◌, ℕ, ℤ, ◌+◌, ◌≤◌, if◌then◌else◌, Bool, true, false, leb, List, [], ◌∷◌, length, get_or, Option, None, Some, inl, inr, refl, sym, ap, arith, Ordering}
use Rattle.std.specs.Prelude.{◌==◌}
use Rattle.std.specs.List.{Contains, IsDistinct, cons_option, count_by, filter, filter_map}
use Rattle.std.specs.Option.{option_map, option_and_then}
use Rattle.std.specs.Ordering.{nat_cmp, int_cmp, ordering_then, is_lt, is_eq, eq_by_cmp}
use Rattle.std.specs.Cmp.Lexicographic.{slice_cmp, nat_list_cmp_total}
use Rattle.std.specs.declared.cmp.Ordering.TheVariants.{Less, Equal, Greater}
use Rattle.std.specs.Cmp.{eq_by_cmp_equiv}
use Rattle.std.specs.FinMap as fin
use Rattle.std.proofs.lemmas.List.Sums.{length-filter}
use Rattle.std.proofs.lemmas.Map.Keys.{IsDistinct-from_apart}
use Rattle.std.proofs.lemmas.Map.Made.{length-le_from_is_member}
use Rattle.std.proofs.lemmas.Map.Views.{Contains-from_any, list_any-from_Contains, tells_apart}
use Rattle.std.proofs.lemmas.Map.Lookups.{exact_bytes}
use Rattle.appender_store.specs.Content.{Content, NameMap, Entry, File, Link, OpensBody}
use Rattle.appender_store.specs.Folder.{entry_row}
use Rattle.appender_store.specs.NameLaws.{NameLaws}
use Rattle.appender_retain.specs.Rank.{LogFiles, Rank, rank_cmp, rank_of, rank_survives}
use Rattle.appender_retain.specs.Survival.{SurvivorsStay, SameSurvive, name_rank, name_ranks, name_survives}
use Rattle.appender_retain.proofs.ByName.{opened_keyless}
use Rattle.appender_retain.proofs.Elements.{filter_map_Contains, Contains_filter_map, all_pairs_filter_map}
use Rattle.appender_retain.proofs.Entries.{entries_rise, entry_there, there_entry}
use Rattle.appender_retain.proofs.Listing.{row_name}
use Rattle.appender_retain.proofs.Ranks.{rank_cmp_total, exact_rank, candidate}

module _ (log : LogFiles) where
  abbrev entry_rank : List ℕ × Entry → Option Rank
  entry_rank e = rank_of log (0, entry_row e)

  -- a candidate's rank has its name
  rank_name : (e : List ℕ × Entry) (r : Rank) → entry_rank e ≡ Some r → e.0 ≡ r.1
  rank_name e r h = let both : Some e.0 ≡ Some r.1 = sym (row_name e) ∙ (candidate log (0, entry_row e) r h).name in cc

  -- each name has the same rank in both, if it has one
  abbrev SameRanks : NameMap → NameMap → Type 0
  SameRanks old new = (name : List ℕ) → name_rank log new name ≡ name_rank log old name

  module _ (test : Rank → Bool) where
    abbrev kept : Option Rank → Option Rank
    kept None = None
    kept (Some r) = if test r then Some r else None

    kept_is : (o : Option Rank) (r : Rank) → kept o ≡ Some r → o ≡ Some r
    kept_is None r e = absurd (let nothing : ◌≡◌ {A = Option Rank} None (Some r) = e in cc)
    kept_is (Some x) r e = by (test x) e
      where
        by : (t : Bool) → (if t then Some x else None) ≡ Some r → Some x ≡ Some r
        by true is = is
        by false is = absurd (let nothing : ◌≡◌ {A = Option Rank} None (Some r) = is in cc)

    -- the rank of an entry, if it passes the test
    abbrev kept_rank : List ℕ × Entry → Option Rank
    kept_rank e = kept (entry_rank e)

    kept_filter : (es : List (List ℕ × Entry)) → filter test (filter_map entry_rank es) ≡ filter_map kept_rank es
    kept_filter [] = refl
    kept_filter (e ∷ es) = by (entry_rank e) (kept_filter es)
      where
        by : (o : Option Rank) → filter test (filter_map entry_rank es) ≡ filter_map kept_rank es → filter test (cons_option o (filter_map entry_rank es)) ≡ cons_option (kept o) (filter_map kept_rank es)
        by None is = is
        by (Some r) is = at (test r) refl
          where
            at : (t : Bool) → test r ≡ t → filter test (r ∷ filter_map entry_rank es) ≡ cons_option (if test r then Some r else None) (filter_map kept_rank es)
            at true e = rw e (ap (λ (rs : List Rank). r ∷ rs) is)
            at false e = rw e is

    kept_count : (es : List (List ℕ × Entry)) → count_by test (filter_map entry_rank es) ≡ length (filter_map kept_rank es)
    kept_count es = sym (length-filter test (filter_map entry_rank es)) ∙ ap length (kept_filter es)

    kept_apart : (names : NameMap) → IsDistinct (eq_by_cmp rank_cmp) (filter_map kept_rank (fin.entries names))
    kept_apart names =
        IsDistinct-from_apart (eq_by_cmp rank_cmp) (filter_map kept_rank (fin.entries names)) (λ i j d before short.
        let less : slice_cmp nat_cmp (get_or (filter_map kept_rank (fin.entries names)) i d).1 (get_or (filter_map kept_rank (fin.entries names)) j d).1 ≡ Less =
        all_pairs_filter_map (λ (a b : List ℕ × Entry). slice_cmp nat_cmp a.0 b.0 ≡ Less) (λ (r s : Rank). slice_cmp nat_cmp r.1 s.1 ≡ Less) kept_rank
        (λ a b r s less is_r is_s. rw (← rank_name a r (kept_is (entry_rank a) r is_r), ← rank_name b s (kept_is (entry_rank b) s is_s)) less) (fin.entries names) (entries_rise names) i j d before short in
        not_tied (get_or (filter_map kept_rank (fin.entries names)) i d) (get_or (filter_map kept_rank (fin.entries names)) j d) less)
      where
        not_tied : (a b : Rank) → slice_cmp nat_cmp a.1 b.1 ≡ Less → eq_by_cmp rank_cmp a b ≡ false
        not_tied a b less = rw less (by (int_cmp a.0 b.0))
          where
            by : (o : Ordering) → is_eq (ordering_then o Less) ≡ false
            by Less = refl
            by Equal = refl
            by Greater = refl

    -- an entry whose name has a rank
    ranked : (names : NameMap) (name : List ℕ) (r : Rank) → name_rank log names name ≡ Some r → (e : Entry) × (fin.get names name ≡ Some e) × (entry_rank (name, e) ≡ Some r)
    ranked names name r is = by (fin.get names name) refl is
      where
        by : (o : Option Entry) → fin.get names name ≡ o → option_and_then (λ (e : Entry). entry_rank (name, e)) o ≡ Some r → (e : Entry) × (fin.get names name ≡ Some e) × (entry_rank (name, e) ≡ Some r)
        by None at none = absurd (let nothing : ◌≡◌ {A = Option Rank} None (Some r) = none in cc)
        by (Some e) at rank = (e, at, rank)

    no_more : (old new : NameMap) → SameRanks old new → length (filter_map kept_rank (fin.entries new)) ≤ length (filter_map kept_rank (fin.entries old))
    no_more old new same =
        length-le_from_is_member (eq_by_cmp_equiv rank_cmp_total) (filter_map kept_rank (fin.entries new)) (filter_map kept_rank (fin.entries old)) (kept_apart new)
        (λ q is. list_any-from_Contains (eq_by_cmp_equiv rank_cmp_total) q (filter_map kept_rank (fin.entries old)) (known q (Contains-from_any (tells_apart exact_rank) q (filter_map kept_rank (fin.entries new)) is)))
      where
        known : (q : Rank) → Contains (filter_map kept_rank (fin.entries new)) q → Contains (filter_map kept_rank (fin.entries old)) q
        known q there =
            let w = filter_map_Contains kept_rank (fin.entries new) q there in
            let at : fin.get new w.0.0 ≡ Some w.0.1 = entry_there nat_list_cmp_total new w.0 w.1 in
            let rank : entry_rank w.0 ≡ Some q = kept_is (entry_rank w.0) q w.2 in
            let now : name_rank log new w.0.0 ≡ Some q = ap (option_and_then (λ (e : Entry). entry_rank (w.0.0, e))) at ∙ rank in
            let before = ranked old w.0.0 q (sym (same w.0.0) ∙ now) in
            let passes : kept_rank (w.0.0, before.0) ≡ Some q = ap kept (before.2 ∙ sym rank) ∙ w.2 in
            Contains_filter_map kept_rank (fin.entries old) (w.0.0, before.0) q (there_entry exact_bytes old w.0.0 before.0 before.1) passes

    -- as many ranks pass
    same_count : (old new : NameMap) → SameRanks old new → count_by test (name_ranks log new) ≡ count_by test (name_ranks log old)
    same_count old new same =
        let less = no_more old new same in
        let more = no_more new old (λ name. sym (same name)) in
        let equal : length (filter_map kept_rank (fin.entries new)) ≡ length (filter_map kept_rank (fin.entries old)) = omega (arith, less, more) in
        kept_count (fin.entries new) ∙ equal ∙ sym (kept_count (fin.entries old))

  -- so the same names survive
  same_survive : (old new : NameMap) → SameRanks old new → (max : ℕ) (name : List ℕ) → name_survives log max new name ≡ name_survives log max old name
  same_survive old new same max name =
      ap (rank_survives max (name_ranks log new)) (same name) ∙ by (name_rank log old name)
    where
      by : (own : Option Rank) → rank_survives max (name_ranks log new) own ≡ rank_survives max (name_ranks log old) own
      by None = refl
      by (Some a) = ap (λ (n : ℕ). (max == 0) || leb (n + 2) max) (same_count (λ (b : Rank). is_lt (rank_cmp a b)) old new same)

module _ (maps : NameLaws) (log : LogFiles) where
  -- a name that is added, and was free, if it has no rank
  added : (old : NameMap) (name : List ℕ) (e : Entry) → fin.get old name ≡ None → rank_of log (0, entry_row (name, e)) ≡ None → SameRanks log old (fin.insert old name e)
  added old name e free none other = elim (maps.additions old name e other) [
    | inl own ↦
        let now : name_rank log (fin.insert old name e) other ≡ None = ap (option_and_then (λ (v : Entry). rank_of log (0, entry_row (other, v)))) own.1 ∙ ap (λ (n : List ℕ). rank_of log (0, entry_row (n, e))) own.0 ∙ none in
        let before : name_rank log old other ≡ None = ap (option_and_then (λ (v : Entry). rank_of log (0, entry_row (other, v)))) (ap (fin.get old) own.0 ∙ free) in
        now ∙ sym before
    | inr same ↦ ap (option_and_then (λ (v : Entry). rank_of log (0, entry_row (other, v)))) same.1
  ]

  pub survivors_stay : log.by_name ≡ true → SurvivorsStay log
  survivors_stay by_name = record {
    opened = opened;
    made = λ link target old new makes max name. rw makes.after (same_survive log old.names (fin.insert old.names link (Link target)) (added old.names link (Link target) makes.was_free refl) max name);
    removed = λ link old new removes max name. rw removes.after (same_survive log old.names (fin.remove old.names link) (without link old removes.was_there.0 removes.was_there.1) max name);
  }
    where
      without : (link : List ℕ) (old : Content) (target : List ℕ) → fin.get old.names link ≡ Some (Link target) → SameRanks log old.names (fin.remove old.names link)
      without link old target was other = elim (maps.removals old.names link other) [
        | inl own ↦
            let now : name_rank log (fin.remove old.names link) other ≡ None = ap (option_and_then (λ (v : Entry). rank_of log (0, entry_row (other, v)))) own.1 in
            let before : name_rank log old.names other ≡ None = ap (option_and_then (λ (v : Entry). rank_of log (0, entry_row (other, v)))) (ap (fin.get old.names) own.0 ∙ was) in
            now ∙ sym before
        | inr same ↦ ap (option_and_then (λ (v : Entry). rank_of log (0, entry_row (other, v)))) same.1
      ]

      opened : (name : List ℕ) (old new : Content) (b : ℕ) → log.opened ≡ Some name → OpensBody name old new b → SameSurvive log old new
      opened name old new b is (there, inl (t, at, same)) max other = ap (λ (c : Content). name_survives log max c.names other) same
      opened name old new b is (there, inr (t, free, number, after)) max other =
          let none : rank_of log (0, entry_row (name, File b t)) ≡ None = ap (λ (k : Option ℤ). option_map (λ (key : ℤ). (key, name, 0)) k) (opened_keyless log name by_name is t) in
          rw after (same_survive log old.names (fin.insert old.names name (File b t)) (added old.names name (File b t) free none) max other)
