-- From a plan of a listing to the names of the folder.
use Rattle.std.proofs.Common.{◌≡◌, ◌≢◌, ◌∙◌, ◌⊎◌, ◌||◌, ℕ, ◌+◌, IsTrue, arith, Bool, true, false, leb, List, filter_map, if◌then◌else◌, Option, None, Some, refl, sym, ap, inl, inr}
use Rattle.std.specs.Prelude.{◌==◌}
use Rattle.std.specs.List.{Contains, slice_get, count_by}
use Rattle.std.specs.Option.{option_map_or, option_and_then}
use Rattle.std.specs.FinMap as fin
use Rattle.std.specs.Ordering.{is_lt}
use Rattle.appender_store.specs.Content.{Content, Entry, File, Link, Folder, IsFile}
use Rattle.appender_store.specs.Folder.{AreNotedCounts, NotedCounts, Row, entry_row}
use Rattle.appender_store.specs.NameLaws.{NameLaws}
use Rattle.appender_store.specs.declared.store.Folder.{Ghosts}
use Rattle.appender_store.specs.declared.store.Kind.TheVariants.{File as PlainFile, Folder as PlainFolder, Link as PlainLink}
use Rattle.appender_retain.specs.Pruning.{IsQuiet, Prunes, PrunesListed, RemovesEach, listed_name_at}
use Rattle.appender_retain.specs.Inside.Files.{AreFiles}
use Rattle.appender_retain.specs.Rank.{LogFiles, IsPlan, Rank, rank_at, survives, ranks, rank_cmp}
use Rattle.appender_retain.specs.Survival.{RemovesOnlyOld, KeepsSurvivors, name_survives}
use Rattle.appender_retain.proofs.Elements.{Contains_filter_map, filter_map_Contains, all_pairs_filter_map}
use Rattle.appender_retain.proofs.Listing.{IsListing, named_row, at_row, row_at, row_name, one_place, same_survival}
use Rattle.appender_retain.proofs.Ranks.{candidate, row_of_rank}
use Rattle.appender_retain.proofs.Removals.{AllRemoved, Removed, RemovesAmong, removed}
use Rattle.appender_retain.proofs.Standing.{fewer_stand}

-- what doesn't survive is a candidate, so a file
fallen_kind : (log : LogFiles) (max : ℕ) (rows : List Row) (place : ℕ) (l : Row) → slice_get rows place ≡ Some l → survives log max rows place ≡ false → l.1 ≡ PlainFile
fallen_kind log max rows place l at falls = by (max == 0) (rank_at log rows place) refl falls
  where
    by : (b : Bool) (o : Option Rank) → rank_at log rows place ≡ o → (b || option_map_or (λ (a : Rank). leb (count_by (λ (b : Rank). is_lt (rank_cmp a b)) (ranks log rows) + 2) max) o true) ≡ false → l.1 ≡ PlainFile
    by true o e no_way = absurd (let both : true ≡ false = no_way in cc)
    by false None e no_way = absurd (let both : true ≡ false = no_way in cc)
    by false (Some r) e less =
        let w = row_of_rank log rows place r e in
        let same : l ≡ w.0 = (let both : Some l ≡ Some w.0 = sym at ∙ w.1 in cc) in
        ap (λ (l : Row). l.1) same ∙ (candidate log (place, w.0) r w.2).kind

module _ (log : LogFiles) (max : ℕ) (old : Content) (rows : List Row) (gone : List ℕ) (all : IsListing old.names rows) (plan : IsPlan log max rows gone) where
  -- a planned name is that of a file, which doesn't survive
  planned_name : (name : List ℕ) → Contains (filter_map (listed_name_at rows) gone) name → IsFile (fin.get old.names name) × (name_survives log max old.names name ≡ false)
  planned_name name there =
      let w = filter_map_Contains (listed_name_at rows) gone name there in
      let falls : survives log max rows w.0 ≡ false = (plan.exact w.0).0 w.1 in
      let x = named_row rows w.0 name w.2 in
      let y = row_at old.names rows all w.0 x.0 x.1 in
      let is_name : y.0.0 ≡ name = (let both : Some y.0.0 ≡ Some name = sym (row_name y.0) ∙ ap (λ (l : Row). l.0) y.1 ∙ x.2 in cc) in
      let kind : (entry_row y.0).1 ≡ PlainFile = ap (λ (l : Row). l.1) y.1 ∙ fallen_kind log max rows w.0 x.0 x.1 falls in (
        rw (← is_name, y.2) (file y.0.0 y.0.1 kind),
        ap (name_survives log max old.names) (sym is_name) ∙ sym (same_survival log old.names rows all w.0 y.0.0 max y.0.1 (x.1 ∙ ap Some (sym y.1)) y.2) ∙ falls,
      )
    where
      file : (name : List ℕ) (v : Entry) → (entry_row (name, v)).1 ≡ PlainFile → IsFile (Some v)
      file name (File b t) is = tt
      file name (Link target) is = absurd (let both : PlainLink ≡ PlainFile = is in cc)
      file name Folder is = absurd (let both : PlainFolder ≡ PlainFile = is in cc)

  -- the planned names are files, and differ
  pub planned_files : AreFiles old.names (filter_map (listed_name_at rows) gone)
  planned_files = record {
    files = λ name there. (planned_name name there).0;
    apart = all_pairs_filter_map (λ (a b : ℕ). a ≢ b) (λ (v w : List ℕ). v ≢ w) (listed_name_at rows) differ gone plan.once;
  }
    where
      differ : (a b : ℕ) (v w : List ℕ) → a ≢ b → listed_name_at rows a ≡ Some v → listed_name_at rows b ≡ Some w → v ≢ w
      differ a b v w apart is_v is_w same = apart (one_place old.names rows all v a b is_v (is_w ∙ ap Some (sym same)))

  module _ (new : Content) where
    -- what is planned doesn't survive
    takes_only_old : RemovesAmong (filter_map (listed_name_at rows) gone) old new → RemovesOnlyOld log max old new
    takes_only_old removes = record {
      there = removes.there;
      bodies = removes.bodies;
      names = λ name. elim (removes.names name) [
        | inl same ↦ inl same
        | inr w ↦ inr (w.0, (planned_name name w.1).1)
      ];
    }

    -- and all that doesn't survive is planned
    leaves_survivors : RemovesOnlyOld log max old new → AllRemoved (filter_map (listed_name_at rows) gone) new → KeepsSurvivors log max old new
    leaves_survivors takes removed name = by (name_survives log max old.names name) refl (fin.get old.names name) refl (takes.names name)
      where
        by : (b : Bool) → name_survives log max old.names name ≡ b → (o : Option Entry) → fin.get old.names name ≡ o → (fin.get new.names name ≡ o) ⊎ ((fin.get new.names name ≡ None) × (b ≡ false)) → fin.get new.names name ≡ (if b then o else None)
        by true e o at (inl same) = same
        by true e o at (inr (none, falls)) = absurd (let both : true ≡ false = falls in cc)
        by false e None at (inl same) = same
        by false e (Some v) at (inl same) =
            let w = at_row old.names rows all name v at in
            let survival : survives log max rows w.0 ≡ name_survives log max old.names name = same_survival log old.names rows all w.0 name max v w.1 at in
            let named : listed_name_at rows w.0 ≡ Some name = ap (option_and_then (λ (l : Row). l.0)) w.1 ∙ row_name (name, v) in
            removed name (Contains_filter_map (listed_name_at rows) gone w.0 name ((plan.exact w.0).1 (survival ∙ e)) named)
        by false e o at (inr (none, falls)) = none

-- ---- all of retention

module _ (maps : NameLaws) {S F : Type 0} (kind : Ghosts S F) (fit : (s : S) → AreNotedCounts (kind.noted s)) where
  -- where a listing was had and its plan removed
  pub prunes : (log : LogFiles) (max : ℕ) (old listed new : S) (rows : List Row) (gone : List ℕ) → max ≢ 0 → (IsTrue kind.is_known → IsListing (kind.content old).names rows) → (IsTrue kind.is_known → (kind.content old).there ≡ true) → IsPlan log max rows gone → kind.content listed ≡ kind.content old → kind.noted listed ≡ kind.noted old → RemovesEach kind (filter_map (listed_name_at rows) gone) listed new → PrunesListed kind log max old new → Prunes kind log max old new
  prunes log max old listed new rows gone some all there plan content noted each calls = record {
    none = λ zero. absurd (some zero);
    calls = λ more. calls;
    only_old = takes;
    survivors = left;
    fewer = λ quiet is_known positive. fewer_stand log (kind.content old) (kind.content new) max positive (left quiet is_known);
    absent = λ more is_known away. absurd (let both : true ≡ false = sym (there is_known) ∙ away in cc);
    nothing_else = record { flushes = ap (λ (c : NotedCounts). c.flushes) effect.noted ∙ ap (λ (c : NotedCounts). c.flushes) noted; opens = ap (λ (c : NotedCounts). c.opens) effect.noted ∙ ap (λ (c : NotedCounts). c.opens) noted };
  }
    where
      effect : Removed kind (filter_map (listed_name_at rows) gone) listed new
      effect = removed maps kind fit (filter_map (listed_name_at rows) gone) listed new each

      takes : IsTrue kind.is_known → RemovesOnlyOld log max (kind.content old) (kind.content new)
      takes is_known = takes_only_old log max (kind.content old) rows gone (all is_known) plan (kind.content new) (rw content at (effect.among is_known))

      left : IsQuiet (kind.noted old) (kind.noted new) → IsTrue kind.is_known → KeepsSurvivors log max (kind.content old) (kind.content new)
      left quiet is_known =
          let start : (kind.noted listed).removes ≡ (kind.noted old).removes = ap (λ (c : NotedCounts). c.removes) noted in
          let none : effect.faults ≡ 0 = omega (arith, quiet.removes, quiet.below.1, start, ap (λ (c : NotedCounts). c.removes) effect.noted) in
          leaves_survivors log max (kind.content old) rows gone (all is_known) plan (kind.content new) (takes is_known) (effect.all none is_known)
