-- Which files have their names at the end of a run.
use Rattle.std.proofs.Common.{◌≡◌, ◌≢◌, ◌∙◌, ◌⊎◌, ◌+◌, ℕ, ℤ, arith, Bool, true, false, List, [], ◌∷◌, ◌++◌, map, Option, None, Some, is_some, inl, inr, refl, sym, ap, subst}
use Rattle.std.specs.Prelude.{if◌then◌else◌, MatchOption}
use Rattle.std.specs.Option.{option_map_or}
use Rattle.std.specs.Str.{bytes_eq}
use Rattle.std.specs.FinMap as fin
use Rattle.std.proofs.lemmas.List.{append-nil}
use Rattle.std.proofs.lemmas.Slice.Eq.{bytes_eq-Decides}
use Rattle.appender_store.specs.Content.{Content, NameMap, Entry, File, Link, Folder, OpensBody, IsFile, after_make_folder}
use Rattle.appender_store.specs.NameLaws.{NameLaws}
use Rattle.appender_retain.specs.Rank.{LogFiles}
use Rattle.appender_retain.specs.Survival.{RemovesOnlyOld, name_survives}
use Rattle.appender_rolling.specs.Config.{Config, log_files_of, max_before, max_after}
use Rattle.appender_rolling.specs.Limits.{KeepsEachFile}
use Rattle.appender_rolling.specs.Opening.{file_name_of, MayRemoveLink, MayRemoveNew, IsRefusalEffect}
use Rattle.appender_rolling.specs.declared.rolling.setup.Stamp.{Stamp}
use Rattle.appender_replay.specs.Run.{Attempt, WrittenAttempt, try_of, open_body, OnlyAttemptsChange, Succeeded, AttemptDoes, EachOf}
use Rattle.appender_replay.specs.Headline.{bytes_taken, failures_in, open_stamp, written_to_name}
use Rattle.appender_replay.proofs.NamesLeft.{leads_to, unlimited_keep, opened_other, freed_other, unremoved_other, tried_file}
use Rattle.appender_replay.proofs.NamesLead.{carried_names, none_before, none_after}
use Rattle.appender_replay.proofs.Files.{each_map}

is_file : (o : Option Entry) (b : ℕ) (t : Option ℤ) → o ≡ Some (File b t) → IsFile o
is_file o b t e = subst IsFile (sym e) tt

file_of : (o : Option Entry) → IsFile o → (b : ℕ) × (t : Option ℤ) × (o ≡ Some (File b t))
file_of None never = absurd never
file_of (Some (File b t)) is = (b, t, refl)
file_of (Some (Link target)) never = absurd never
file_of (Some Folder) never = absurd never

keeps_file : (old new : Content) (name : List ℕ) → KeepsEachFile old new → IsFile (fin.get old.names name) → IsFile (fin.get new.names name)
keeps_file old new name keeps is =
    let was = file_of (fin.get old.names name) is in
    is_file (fin.get new.names name) was.0 was.1 (keeps name was.0 was.1 was.2)

keeps_on : (old between new : Content) → KeepsEachFile old between → KeepsEachFile between new → KeepsEachFile old new
keeps_on old between new one two name b t at = two name b t (one name b t at)

same_names : (old new : Content) → new ≡ old → KeepsEachFile old new
same_names old new same name b t at = ap (λ (d : Content). fin.get d.names name) same ∙ at

-- what leads to nothing is not the name of a file
not_free : (names : NameMap) (name free : List ℕ) (b : ℕ) (t : Option ℤ) → fin.get names name ≡ Some (File b t) → fin.get names free ≡ None → name ≢ free
not_free names name free b t at none is = let both : ◌≡◌ {A = Option Entry} None (Some (File b t)) = sym none ∙ ap (fin.get names) (sym is) ∙ at in cc

-- without a maximum nothing is removed
pruned_keeps : (log : LogFiles) (max : ℕ) (old new : Content) → max ≡ 0 → RemovesOnlyOld log max old new → KeepsEachFile old new
pruned_keeps log max old new none only name b t at =
    let all : name_survives log max old.names name ≡ true = rw none refl in
    unlimited_keep log max old new none only name ∙ ap (λ (s : Bool). if s then fin.get old.names name else None) all ∙ at

module _ (maps : NameLaws) (c : Config) where
  opening_keeps : (file : List ℕ) (old new : Content) (x : ℕ) → OpensBody file old new x → KeepsEachFile old new
  opening_keeps file old new x (there, inl (u, own, same)) name b t at = ap (λ (d : Content). fin.get d.names name) same ∙ at
  opening_keeps file old new x (there, inr (u, free, number, after)) name b t at =
      opened_other maps file old new x name (there, inr (u, free, number, after)) (not_free old.names name file b t at free) ∙ at

  freed_keeps : (link : List ℕ) (old new : Content) → MayRemoveLink link old new → KeepsEachFile old new
  freed_keeps link old new (inl same) name b t at = ap (λ (d : Content). fin.get d.names name) same ∙ at
  freed_keeps link old new (inr removes) name b t at =
      let apart : name ≢ link = λ is.
      (let both : ◌≡◌ {A = Option Entry} (Some (Link removes.was_there.0)) (Some (File b t)) = sym removes.was_there.1 ∙ ap (fin.get old.names) (sym is) ∙ at in cc) in
      freed_other maps link old new name (inr removes) apart ∙ at

  -- an opening that fails removes no file if retention doesn't come before it
  failure_keeps : (file : List ℕ) (old new : Content) → max_before c ≡ 0 → IsRefusalEffect c file old new → KeepsEachFile old new
  failure_keeps file old new none little name b t at = elim little.rest [
    | inl same ↦ ap (λ (d : Content). fin.get d.names name) same ∙ pruned
    | inr (inl same) ↦ ap (λ (d : Content). fin.get d.names name) same ∙ pruned
    | inr (inr (unlinked, x, left, opens, frees, removes)) ↦ unremoved left removes
        (freed_keeps c.link unlinked left frees name b t (opening_keeps file (after_make_folder little.pruned) unlinked x opens name b t pruned))
  ]
    where
      pruned : fin.get little.pruned.names name ≡ Some (File b t)
      pruned = pruned_keeps (log_files_of c (Some file)) (max_before c) old little.pruned none little.only_old name b t at

      unremoved : (left : Content) → MayRemoveNew c file old left new → fin.get left.names name ≡ Some (File b t) → fin.get new.names name ≡ Some (File b t)
      unremoved left (inl same) was = ap (λ (d : Content). fin.get d.names name) same ∙ was
      unremoved left (inr (by_name, free, removes)) was =
          unremoved_other maps c file old left new name (inr (by_name, free, removes)) (not_free old.names name file b t at free) ∙ was

  success_keeps : (a : Attempt) (x : ℕ) → c.max_files ≡ 0 → Succeeded c a x → KeepsEachFile a.before a.after
  success_keeps a x none did name b t at =
      let file : List ℕ = file_name_of c a.stamp in
      pruned_keeps (log_files_of c (Some file)) (max_after c) did.linked a.after (none_after maps c none) did.only_old_last name b t
      (tried_file maps c file did.unlinked did.linked name b t did.links
      (opening_keeps file (after_make_folder did.pruned) did.unlinked x did.opens name b t
      (pruned_keeps (log_files_of c (Some file)) (max_before c) a.before did.pruned (none_before maps c none) did.only_old name b t at)))

  tried_keeps : (a : Attempt) → c.max_files ≡ 0 → AttemptDoes c a → KeepsEachFile a.before a.after
  tried_keeps a none did = by a.body did
    where
      by : (o : Option ℕ) → MatchOption o (IsRefusalEffect c (file_name_of c a.stamp) a.before a.after) (Succeeded c a) → KeepsEachFile a.before a.after
      by None little = failure_keeps (file_name_of c a.stamp) a.before a.after (none_before maps c none) little
      by (Some x) did = success_keeps a x none did

  -- the file of an attempt that succeeded
  own_leads : (a : Attempt) → AttemptDoes c a → is_some a.body ≡ true → IsFile (fin.get a.after.names (file_name_of c a.stamp))
  own_leads a did some = by a.body did some
    where
      by : (o : Option ℕ) → MatchOption o (IsRefusalEffect c (file_name_of c a.stamp) a.before a.after) (Succeeded c a) → is_some o ≡ true → IsFile (fin.get a.after.names (file_name_of c a.stamp))
      by None little some = absurd (let both : false ≡ true = some in cc)
      by (Some x) did some =
          let own : List ℕ = file_name_of c a.stamp in
          let to = leads_to maps own (after_make_folder did.pruned) did.unlinked x did.opens in
          is_file (fin.get a.after.names own) x to.0 (did.spares.file ∙ tried_file maps c own did.unlinked did.linked own x to.0 did.links to.1)

  -- the name of an attempt that succeeded leads to a file
  abbrev pub LeadsToFile : NameMap → Attempt → Type 0
  LeadsToFile names a = is_some a.body ≡ true → IsFile (fin.get names (file_name_of c a.stamp))

  -- without a maximum
  pub all_kept : c.max_files ≡ 0 → (attempts : List WrittenAttempt) (first last : Content) → OnlyAttemptsChange c attempts first last → KeepsEachFile first last × EachOf (LeadsToFile last.names) attempts
  all_kept none [] first last leads = (same_names first last leads, tt)
  all_kept none ((a, writes) ∷ earlier) first last leads =
      let before = all_kept none earlier first a.before leads.0 in
      let same : last.names ≡ a.after.names = carried_names (open_body ((a, writes) ∷ earlier)) (bytes_taken writes) a.after last leads.2 in
      let now : KeepsEachFile a.before last = λ name b t at. ap (λ (m : NameMap). fin.get m name) same ∙ tried_keeps a none leads.1 name b t at in (
        keeps_on first a.before last before.0 now,
        (
          (λ opened. subst (λ (m : NameMap). IsFile (fin.get m (file_name_of c a.stamp))) (sym same) (own_leads a leads.1 opened)),
          each_map (LeadsToFile a.before.names) (LeadsToFile last.names) earlier (λ e leads opened. keeps_file a.before last (file_name_of c e.stamp) now (leads opened)) before.1,
        ),
      )

  same_stamp : (s t : Stamp) → ◌≡◌ {A = Option Stamp} (Some s) (Some t) → s ≡ t
  same_stamp s t e = cc

  module _ (names : NameMap) where
    open_leads : (attempts : List WrittenAttempt) → EachOf (LeadsToFile names) attempts → (s : Stamp) → open_stamp (map try_of attempts) ≡ Some s → IsFile (fin.get names (file_name_of c s))
    open_leads [] all s is = absurd (let both : ◌≡◌ {A = Option Stamp} None (Some s) = is in cc)
    open_leads ((a, writes) ∷ earlier) all s is = by (is_some a.body) all.0 (open_leads earlier all.1 s) is
      where
        by : (ok : Bool) → (ok ≡ true → IsFile (fin.get names (file_name_of c a.stamp))) → (open_stamp (map try_of earlier) ≡ Some s → IsFile (fin.get names (file_name_of c s))) → (if ok then Some a.stamp else open_stamp (map try_of earlier)) ≡ Some s → IsFile (fin.get names (file_name_of c s))
        by true own before is = subst (λ (x : Stamp). IsFile (fin.get names (file_name_of c x))) (same_stamp a.stamp s is) (own refl)
        by false own before is = before is

    -- each name to which bytes were written leads to a file
    pub written_lead : (name : List ℕ) (attempts : List WrittenAttempt) → EachOf (LeadsToFile names) attempts → written_to_name c name (map try_of attempts) ≢ [] → IsFile (fin.get names name)
    written_lead name [] all some = absurd (some refl)
    written_lead name ((a, writes) ∷ earlier) all some = by (open_stamp (map try_of ((a, writes) ∷ earlier))) refl (written_lead name earlier all.1) some
      where
        by : (o : Option Stamp) → open_stamp (map try_of ((a, writes) ∷ earlier)) ≡ o → (written_to_name c name (map try_of earlier) ≢ [] → IsFile (fin.get names name))
            → written_to_name c name (map try_of earlier) ++ (if option_map_or (λ (s : Stamp). bytes_eq (file_name_of c s) name) o false then bytes_taken writes else []) ≢ [] → IsFile (fin.get names name)
        by None is before some = before (λ none. some (append-nil (written_to_name c name (map try_of earlier)) ∙ none))
        by (Some s) is before some = named (bytes_eq (file_name_of c s) name) refl some
          where
            named : (d : Bool) → bytes_eq (file_name_of c s) name ≡ d → written_to_name c name (map try_of earlier) ++ (if d then bytes_taken writes else []) ≢ [] → IsFile (fin.get names name)
            named true same some = subst (λ (n : List ℕ). IsFile (fin.get names n)) ((bytes_eq-Decides (file_name_of c s) name).0 same) (open_leads ((a, writes) ∷ earlier) all s is)
            named false same some = before (λ none. some (append-nil (written_to_name c name (map try_of earlier)) ∙ none))

  -- the open file has its name if no try failed, or where retention doesn't come before an opening
  pub open_file_leads : (attempts : List WrittenAttempt) (first last : Content) → OnlyAttemptsChange c attempts first last → (failures_in (map try_of attempts) ≡ 0) ⊎ (max_before c ≡ 0)
      → (s : Stamp) → open_stamp (map try_of attempts) ≡ Some s → IsFile (fin.get last.names (file_name_of c s))
  open_file_leads [] first last leads fine s is = absurd (let both : ◌≡◌ {A = Option Stamp} None (Some s) = is in cc)
  open_file_leads ((a, writes) ∷ earlier) first last leads fine s is =
      subst (λ (m : NameMap). IsFile (fin.get m (file_name_of c s))) (sym (carried_names (open_body ((a, writes) ∷ earlier)) (bytes_taken writes) a.after last leads.2))
      (by a.body leads.1 (own_leads a leads.1) (open_file_leads earlier first a.before leads.0) fine is)
    where
      by : (o : Option ℕ) → MatchOption o (IsRefusalEffect c (file_name_of c a.stamp) a.before a.after) (Succeeded c a) → (is_some o ≡ true → IsFile (fin.get a.after.names (file_name_of c a.stamp)))
          → ((failures_in (map try_of earlier) ≡ 0) ⊎ (max_before c ≡ 0) → (x : Stamp) → open_stamp (map try_of earlier) ≡ Some x → IsFile (fin.get a.before.names (file_name_of c x)))
          → (failures_in (map try_of earlier) + (if is_some o then 0 else 1) ≡ 0) ⊎ (max_before c ≡ 0) → (if is_some o then Some a.stamp else open_stamp (map try_of earlier)) ≡ Some s → IsFile (fin.get a.after.names (file_name_of c s))
      by (Some x) did own before fine is = subst (λ (y : Stamp). IsFile (fin.get a.after.names (file_name_of c y))) (same_stamp a.stamp s is) (own refl)
      by None little own before (inl none) is = absurd (omega (arith, none))
      by None little own before (inr none) is = keeps_file a.before a.after (file_name_of c s) (failure_keeps (file_name_of c a.stamp) a.before a.after none little) (before (inr none) s is)
