-- How many candidates stand.
use Rattle.std.proofs.Common.{◌≡◌, ◌∙◌, ◌||◌, ◌⊎◌, ℕ, ℤ, ◌+◌, ◌<◌, ◌≤◌, if◌then◌else◌, Bool, true, false, leb, List, [], ◌++◌, length, length-append, get_or, Option, None, Some, inl, inr, refl, sym, ap, arith, Ordering}
use Rattle.std.specs.Prelude.{◌==◌}
use Rattle.std.specs.List.{Contains, IsDistinct, cons_option, count_by}
use Rattle.std.specs.Option.{option_map_or, option_and_then}
use Rattle.std.specs.Ordering.{nat_cmp, int_cmp, ordering_then, is_lt, is_eq, eq_by_cmp}
use Rattle.std.specs.Cmp.Lexicographic.{slice_cmp, nat_list_cmp_total}
use Rattle.std.specs.declared.cmp.Ordering.TheVariants.{Less, Equal, Greater}
use Rattle.std.specs.Cmp.{eq_by_cmp_equiv}
use Rattle.std.specs.FinMap as fin
use Rattle.std.proofs.lemmas.Bool.{leb-true, ne_eqb}
use Rattle.std.proofs.lemmas.List.Elements.{Contains-append_left, Contains-append_right}
use Rattle.std.proofs.lemmas.Map.Keys.{IsDistinct-from_apart}
use Rattle.std.proofs.lemmas.Map.Made.{length-le_from_is_member}
use Rattle.std.proofs.lemmas.Map.Views.{Contains-from_any, list_any-from_Contains, tells_apart}
use Rattle.std.proofs.lemmas.Map.Lookups.{exact_bytes}
use Rattle.appender_store.specs.Content.{Content, NameMap, Entry, File, Link, MakesLink, OpensBody, RemovesLink}
use Rattle.appender_store.specs.Folder.{entry_row}
use Rattle.appender_store.specs.NameLaws.{NameLaws}
use Rattle.appender_retain.specs.Rank.{LogFiles, Rank, rank_cmp, rank_of}
use Rattle.appender_retain.specs.Survival.{KeepsSurvivors, LinksAddNone, OpeningsAddOne, name_survives, name_ranks, candidates_in}
use Rattle.appender_retain.proofs.Elements.{filter_map_Contains, Contains_filter_map, all_pairs_filter_map}
use Rattle.appender_retain.proofs.Entries.{entries_rise, entry_there, there_entry}
use Rattle.appender_retain.proofs.Order.{few}
use Rattle.appender_retain.proofs.Listing.{row_name}
use Rattle.appender_retain.proofs.Ranks.{rank_cmp_total, exact_rank, candidate}

module _ (log : LogFiles) where
  -- the rank of an entry, if it is a candidate
  abbrev entry_rank : List ℕ × Entry → Option Rank
  entry_rank e = rank_of log (0, entry_row e)

  -- a candidate's rank has its name
  rank_name : (e : List ℕ × Entry) (r : Rank) → entry_rank e ≡ Some r → e.0 ≡ r.1
  rank_name e r h = let both : Some e.0 ≡ Some r.1 = sym (row_name e) ∙ (candidate log (0, entry_row e) r h).name in cc

  -- candidates of one folder have ranks that differ
  ranks_apart : (names : NameMap) → IsDistinct (eq_by_cmp rank_cmp) (name_ranks log names)
  ranks_apart names =
      IsDistinct-from_apart (eq_by_cmp rank_cmp) (name_ranks log names) (λ i j d before short.
      let less : slice_cmp nat_cmp (get_or (name_ranks log names) i d).1 (get_or (name_ranks log names) j d).1 ≡ Less =
      all_pairs_filter_map (λ (a b : List ℕ × Entry). slice_cmp nat_cmp a.0 b.0 ≡ Less) (λ (r s : Rank). slice_cmp nat_cmp r.1 s.1 ≡ Less) entry_rank
      (λ a b r s less is_r is_s. rw (← rank_name a r is_r, ← rank_name b s is_s) less) (fin.entries names) (entries_rise names) i j d before short in
      not_tied (get_or (name_ranks log names) i d) (get_or (name_ranks log names) j d) less)
    where
      not_tied : (a b : Rank) → slice_cmp nat_cmp a.1 b.1 ≡ Less → eq_by_cmp rank_cmp a b ≡ false
      not_tied a b less = rw less (by (int_cmp a.0 b.0))
        where
          by : (o : Ordering) → is_eq (ordering_then o Less) ≡ false
          by Less = refl
          by Equal = refl
          by Greater = refl

  module _ (old new : Content) where
    -- where exactly the survivors are left, fewer candidates than the maximum are left
    pub fewer_stand : (max : ℕ) → 0 < max → KeepsSurvivors log max old new → candidates_in log new < max
    fewer_stand max positive left =
        few rank_cmp_total exact_rank (name_ranks log new.names) (name_ranks log old.names) max positive (ranks_apart new.names) fit
      where
        at_most : (c : ℕ) → ((max == 0) || leb c max) ≡ true → c ≤ max
        at_most c h =
            let some : (max == 0) ≡ false = ne_eqb max 0 (λ e. omega arith) in
            leb-true c max (rw some at h)

        survivor : (name : List ℕ) (v : Entry) → fin.get new.names name ≡ Some v → (name_survives log max old.names name ≡ true) × (fin.get old.names name ≡ Some v)
        survivor name v now = by (name_survives log max old.names name) refl (sym (left name) ∙ now)
          where
            by : (b : Bool) → name_survives log max old.names name ≡ b → (if b then fin.get old.names name else None) ≡ Some v → (name_survives log max old.names name ≡ true) × (fin.get old.names name ≡ Some v)
            by true e is = (e, is)
            by false e is = absurd (let nothing : None ≡ Some v = is in cc)

        how_many_above : Rank → ℕ
        how_many_above a = count_by (λ (c : Rank). is_lt (rank_cmp a c)) (name_ranks log old.names)

        stays : Option Rank → Bool
        stays r = (max == 0) || option_map_or (λ (a : Rank). leb (how_many_above a + 2) max) r true

        fit : (b : Rank) → Contains (name_ranks log new.names) b → Contains (name_ranks log old.names) b × (count_by (λ (c : Rank). is_lt (rank_cmp b c)) (name_ranks log old.names) + 2 ≤ max)
        fit b there =
            let w = filter_map_Contains entry_rank (fin.entries new.names) b there in
            let s = survivor w.0.0 w.0.1 (entry_there nat_list_cmp_total new.names w.0 w.1) in
            let value : name_survives log max old.names w.0.0 ≡ ((max == 0) || leb (how_many_above b + 2) max) =
            ap (λ (o : Option Entry). stays (option_and_then (λ (e : Entry). entry_rank (w.0.0, e)) o)) s.1 ∙ ap stays w.2 in
            (Contains_filter_map entry_rank (fin.entries old.names) w.0 b (there_entry exact_bytes old.names w.0.0 w.0.1 s.1) w.2, at_most (how_many_above b + 2) (sym value ∙ s.0))

-- If each candidate has one of these ranks or was a candidate before, there are at most as many more as there are ranks.
no_more_stand : (log its : LogFiles) (old new : Content) (some : List Rank) → ((name : List ℕ) (v : Entry) (r : Rank) → fin.get new.names name ≡ Some v → entry_rank its (name, v) ≡ Some r → Contains some r ⊎ ((fin.get old.names name ≡ Some v) × (entry_rank log (name, v) ≡ Some r))) → candidates_in its new ≤ length some + candidates_in log old
no_more_stand log its old new some stood =
    let fits : length (name_ranks its new.names) ≤ length (some ++ name_ranks log old.names) =
    length-le_from_is_member (eq_by_cmp_equiv rank_cmp_total) (name_ranks its new.names) (some ++ name_ranks log old.names) (ranks_apart its new.names)
    (λ q is. list_any-from_Contains (eq_by_cmp_equiv rank_cmp_total) q (some ++ name_ranks log old.names) (known q (Contains-from_any (tells_apart exact_rank) q (name_ranks its new.names) is))) in
    omega (arith, fits, length-append some (name_ranks log old.names))
  where
    known : (q : Rank) → Contains (name_ranks its new.names) q → Contains (some ++ name_ranks log old.names) q
    known q there =
        let w = filter_map_Contains (entry_rank its) (fin.entries new.names) q there in
        elim (stood w.0.0 w.0.1 q (entry_there nat_list_cmp_total new.names w.0 w.1) w.2) [
          | inl is ↦ Contains-append_left some (name_ranks log old.names) q is
          | inr before ↦ Contains-append_right some (name_ranks log old.names) q (Contains_filter_map (entry_rank log) (fin.entries old.names) w.0 q (there_entry exact_bytes old.names w.0.0 w.0.1 before.0) before.1)
        ]

module _ (maps : NameLaws) (log : LogFiles) where
  -- links are none
  pub links_stand_aside : LinksAddNone log
  links_stand_aside = record {
    made = λ link target old new makes. omega (arith, no_more_stand log log old new [] (with_link link target old new makes));
    removed = λ link old new removes. omega (arith, no_more_stand log log old new [] (without_link link old new removes));
  }
    where
      with_link : (link target : List ℕ) (old new : Content) → MakesLink link target old new → (name : List ℕ) (v : Entry) (r : Rank) → fin.get new.names name ≡ Some v → entry_rank log (name, v) ≡ Some r → Contains [] r ⊎ ((fin.get old.names name ≡ Some v) × (entry_rank log (name, v) ≡ Some r))
      with_link link target old new makes name v r now is =
          elim (maps.additions old.names link (Link target) name) [
            | inl w ↦ absurd (let kind : Some (Link target) ≡ Some v = sym w.1 ∙ (rw makes.after at now) in let same : Link target ≡ v = (cc) in let nothing : None ≡ Some r = ap (λ (e : Entry). entry_rank log (name, e)) same ∙ is in cc)
            | inr w ↦ inr (sym w.1 ∙ (rw makes.after at now), is)
          ]

      without_link : (link : List ℕ) (old new : Content) → RemovesLink link old new → (name : List ℕ) (v : Entry) (r : Rank) → fin.get new.names name ≡ Some v → entry_rank log (name, v) ≡ Some r → Contains [] r ⊎ ((fin.get old.names name ≡ Some v) × (entry_rank log (name, v) ≡ Some r))
      without_link link old new removes name v r now is =
          elim (maps.removals old.names link name) [
            | inl w ↦ absurd (let nothing : None ≡ Some v = sym w.1 ∙ (rw removes.after at now) in cc)
            | inr w ↦ inr (sym w.1 ∙ (rw removes.after at now), is)
          ]

  -- a file that is opened is at most one
  pub openings_stand_one : OpeningsAddOne log
  openings_stand_one name old new b opens = by opens
    where
      all : List ℕ × Entry → Option Rank
      all e = entry_rank log e

      at_most_one : (o : Option Rank) → length (cons_option o []) ≤ 1
      at_most_one None = omega arith
      at_most_one (Some r) = omega arith

      only : (o : Option Rank) (r : Rank) → o ≡ Some r → Contains (cons_option o []) r
      only o r is = rw is (0, omega arith, refl)

      -- the file that was opened, or one that was there
      Stood : ℕ → Option ℤ → Type 0
      Stood x t = (other : List ℕ) (v : Entry) (r : Rank) → fin.get new.names other ≡ Some v → all (other, v) ≡ Some r → Contains (cons_option (all (name, File x t)) []) r ⊎ ((fin.get old.names other ≡ Some v) × (entry_rank log (other, v) ≡ Some r))

      one : (x : ℕ) (t : Option ℤ) → Stood x t → candidates_in log new ≤ candidates_in log old + 1
      one x t stood = omega (arith, at_most_one (all (name, File x t)), no_more_stand log log old new (cons_option (all (name, File x t)) []) stood)

      own : (x : ℕ) (t : Option ℤ) (other : List ℕ) (v : Entry) (r : Rank) → other ≡ name → Some (File x t) ≡ Some v → all (other, v) ≡ Some r → Contains (cons_option (all (name, File x t)) []) r
      own x t other v r same file is =
          let entry : File x t ≡ v = (cc) in
          only (all (name, File x t)) r (ap (λ (m : List ℕ). all (m, File x t)) (sym same) ∙ ap (λ (e : Entry). all (other, e)) entry ∙ is)

      by : OpensBody name old new b → candidates_in log new ≤ candidates_in log old + 1
      by (there, inl (t, at, unchanged)) = one b t stood
        where
          stood : Stood b t
          stood other v r now is =
              let before : fin.get old.names other ≡ Some v = ap (λ (c : Content). fin.get c.names other) (sym unchanged) ∙ now in
              elim (maps.additions old.names name (File b t) other) [
                | inl w ↦ inl (own b t other v r w.0 (sym at ∙ ap (fin.get old.names) (sym w.0) ∙ before) is)
                | inr w ↦ inr (before, is)
              ]
      by (there, inr (t, free, number, after)) = one b t stood
        where
          stood : Stood b t
          stood other v r now is =
              elim (maps.additions old.names name (File b t) other) [
                | inl w ↦ inl (own b t other v r w.0 (sym w.1 ∙ (rw after at now)) is)
                | inr w ↦ inr (sym w.1 ∙ (rw after at now), is)
              ]
