-- What a folder contains and counts after a run, by the files of its account.
use Rattle.std.proofs.Common.{◌≡◌, ◌∙◌, ◌⊎◌, ℕ, ℤ, zero, ◌+◌, ◌≤◌, ◌-◌, min, Bool, true, false, List, [], ◌∷◌, ◌++◌, length, get_or, map, Option, None, Some, is_some, IsTrue, inl, inr, refl, ap, sym, subst, arith}
use Rattle.std.specs.Prelude.{if◌then◌else◌, ◌==◌}
use Rattle.std.specs.Option.{option_map_or}
use Rattle.std.specs.FinMap as fin
use Rattle.std.proofs.lemmas.List.Elements.{All-contains_itself}
use Rattle.appender_store.specs.Content.{Content, Entry, File, IsSound, OpensBody, after_make_folder, body_at}
use Rattle.appender_store.specs.Folder.{NotedCounts, next_count}
use Rattle.appender_store.specs.Notes.{CountsRise}
use Rattle.appender_store.proofs.Rising.{rises_on}
use Rattle.appender_store.specs.declared.store.Folder.{Ghosts}
use Rattle.appender_retain.specs.Rank.{LogFiles}
use Rattle.appender_retain.specs.Pruning.{IsQuiet}
use Rattle.appender_retain.specs.Survival.{name_survives}
use Rattle.appender_rolling.specs.Config.{Config, is_limited, log_files_of, max_before, max_after}
use Rattle.appender_rolling.specs.Opening.{file_name_of, OpensFile}
use Rattle.appender_rolling.specs.Roller.{Rolling}
use Rattle.appender_rolling.proofs.Rising.{finds_rise, opens_rise, absent_finds, absent_opens}
use Rattle.appender_replay.specs.Start.{Start, start_of}
use Rattle.appender_replay.specs.Run.{Attempt, WrittenAttempt, try_of, EachOf}
use Rattle.appender_replay.specs.Replay.{RunsFrom, IsSeen}
use Rattle.appender_replay.specs.Headline.{Try, Files, FolderFollows, IsHeld, NamesAfterTries, RetentionSucceeded, failures_in, files_at_opening, open_stamp, written_to_name}
use Rattle.appender_replay.proofs.NamesLead.{PrunesAll, LeavesAll, names_lead, others_stay}
use Rattle.appender_replay.proofs.FilesStay.{all_kept, written_lead, open_file_leads}
use Rattle.appender_replay.proofs.Files.{each_map, law_so_far}
use Rattle.appender_replay.proofs.Texts.{text_same}
use Rattle.appender_replay.proofs.Runs.{Grounds, Known, StepsTo, known_of, run_rises, step_rises}

nothing_beyond : (bodies : List (List ℕ)) → get_or bodies (length bodies) [] ≡ []
nothing_beyond [] = refl
nothing_beyond (b ∷ bodies) = nothing_beyond bodies

-- attempts that all succeeded
each_opened : (attempts : List WrittenAttempt) → failures_in (map try_of attempts) ≡ 0 → EachOf (λ a. is_some a.body ≡ true) attempts
each_opened [] none = tt
each_opened ((a, writes) ∷ earlier) none = by (is_some a.body) none (each_opened earlier)
  where
    by : (ok : Bool) → failures_in (map try_of earlier) + (if ok then 0 else 1) ≡ 0 → (failures_in (map try_of earlier) ≡ 0 → EachOf (λ a. is_some a.body ≡ true) earlier) → (ok ≡ true) × EachOf (λ a. is_some a.body ≡ true) earlier
    by true none before = (refl, before (omega (arith, none)))
    by false none before = absurd (omega (arith, none))

module _ {S F T : Type 0} (kind : Ghosts S F) (c : Config) (grounds : Grounds kind c) (does : List T → T → Rolling S F → Rolling S F → Type 0) (account : List T → Files) (moment : ℤ) (number room : ℕ) (folder : S)
    (steps : (listed : S) (past : List T) (t : T) (old new : Rolling S F) → does past t old new → StepsTo kind c grounds folder listed (account past) (account (t ∷ past)) old new)
    (account_begins : account [] ≡ files_at_opening (start_of c moment number room)) (past : List T) (last : Rolling S F) (run : RunsFrom kind does c moment number room folder past last) where
  abbrev start : Start
  start = start_of c moment number room

  abbrev tries : List Try
  tries = (account past).newest ∷ (account past).earlier

  so : Known kind c grounds folder run.opens.listed (IsSeen kind does run.opens.listed past run.first last run.runs) (account past) last
  so = known_of kind c grounds does account moment number room folder steps account_begins past last run

  rises : CountsRise kind run.first.folder last.folder
  rises = run_rises kind c grounds does account moment number room folder steps account_begins run.first run.opens run.number_is run.room_is past last run.runs

  opening_rise : CountsRise kind folder run.first.folder
  opening_rise = rises_on kind folder run.opens.listed run.first.folder (finds_rise kind grounds.failures_fit grounds.noted_fit c moment folder run.opens.number run.opens.listed run.opens.finds)
      (opens_rise kind grounds.failures_fit grounds.noted_fit c _ run.opens.listed run.first.file run.first.folder run.opens.opens)

  -- ---- retention that succeeded

  module _ (is_known : IsTrue kind.is_known) (fine : RetentionSucceeded c (kind.content folder).there (kind.noted folder) (kind.noted last.folder)) where
    -- the opening of an absent folder noted its listings
    opened_lists : (there : Bool) → (kind.content folder).there ≡ there → (kind.noted last.folder).lists ≡ (kind.noted folder).lists + (if there then 0 else (if is_limited c then 1 else 0) + (if max_before c == 0 then 0 else 1))
        → (kind.noted last.folder).lists ≤ (kind.noted run.first.folder).lists
    opened_lists true is lists = let rise = opening_rise.lists in omega arith
    opened_lists false is lists = by (is_limited c) (max_before c == 0) refl refl lists
      where
        found : (kind.noted folder).lists ≤ (kind.noted run.opens.listed).lists
        found = (finds_rise kind grounds.failures_fit grounds.noted_fit c moment folder run.opens.number run.opens.listed run.opens.finds).lists

        opened : (kind.noted run.opens.listed).lists ≤ (kind.noted run.first.folder).lists
        opened = (opens_rise kind grounds.failures_fit grounds.noted_fit c _ run.opens.listed run.first.file run.first.folder run.opens.opens).lists

        later : (kind.noted run.first.folder).lists ≤ (kind.noted last.folder).lists
        later = rises.lists

        by_finds : is_limited c ≡ true → (kind.noted run.opens.listed).lists ≡ next_count (kind.noted folder).lists
        by_finds limited = absent_finds kind c moment folder run.opens.number run.opens.listed run.opens.finds limited is_known is

        by_opens : (max_before c == 0) ≡ false → (kind.noted run.first.folder).lists ≡ next_count (kind.noted run.opens.listed).lists
        by_opens some = absent_opens kind c _ run.opens.listed run.first.file run.first.folder run.opens.opens (grind arith) is_known (ap (λ (d : Content). d.there) run.opens.finds.content ∙ is)

        by : (limited none : Bool) → is_limited c ≡ limited → (max_before c == 0) ≡ none → (kind.noted last.folder).lists ≡ (kind.noted folder).lists + ((if limited then 1 else 0) + (if none then 0 else 1))
            → (kind.noted last.folder).lists ≤ (kind.noted run.first.folder).lists
        by true true limited none lists = let one = by_finds limited in let below = fine.below.0 in omega (arith, found, opened, later)
        by true false limited none lists = let one = by_finds limited in let two = by_opens none in let below = fine.below.0 in omega (arith, found, opened, later)
        by false true limited none lists = omega (arith, found, opened)
        by false false limited none lists = let one = by_opens none in let below = fine.below.0 in omega (arith, found, opened, later)

    still : (kind.noted last.folder).lists ≤ (kind.noted run.first.folder).lists
    still = opened_lists (kind.content folder).there refl fine.lists

    -- the opening noted nothing, or the folder was absent
    opening_quiet : (there : Bool) → (kind.content folder).there ≡ there → (kind.noted last.folder).lists ≡ (kind.noted folder).lists + (if there then 0 else (if is_limited c then 1 else 0) + (if max_before c == 0 then 0 else 1))
        → (after : NotedCounts) → after.lists ≡ (kind.noted last.folder).lists → after.removes ≡ (kind.noted last.folder).removes
        → IsQuiet (kind.noted run.opens.listed) after ⊎ (((kind.content folder).there ≡ false) × IsSound (kind.content folder))
    opening_quiet true is lists after same_lists same_removes =
        let found = finds_rise kind grounds.failures_fit grounds.noted_fit c moment folder run.opens.number run.opens.listed run.opens.finds in
        let opened = opens_rise kind grounds.failures_fit grounds.noted_fit c _ run.opens.listed run.first.file run.first.folder run.opens.opens in
        let removes = fine.removes in
        let below = fine.below in
        inl (record {
          lists = omega (arith, found.lists, opened.lists, rises.lists);
          removes = omega (arith, found.removes, opened.removes, rises.removes);
          below = (omega (arith, below.0), omega (arith, below.1));
        })
    opening_quiet false is lists after same_lists same_removes = inr (is, grounds.sound folder is_known)

    -- so each attempt noted neither
    prunes_all : (a : Attempt) → IsSeen kind does run.opens.listed past run.first last run.runs a → PrunesAll grounds.maps c a
    prunes_all a seen = elim seen [
      | inl opening ↦
          let after_lists = ap (λ (n : NotedCounts). n.lists) opening.noted_after in
          let after_removes = ap (λ (n : NotedCounts). n.removes) opening.noted_after in
          let removes = fine.removes in
          rw (opening.before, opening.noted_before, run.opens.finds.content) (inr (opening_quiet (kind.content folder).there refl fine.lists a.noted_after
          (omega (arith, after_lists, still, rises.lists)) (omega (arith, after_removes, removes, opening_rise.removes, rises.removes))))
      | inr (old, new, at, saw) ↦
          let bounds = step_rises kind c grounds does account moment number room folder steps account_begins run.first run.opens run.number_is run.room_is past last run.runs old new at in
          let before = saw.noted_before in
          let after = saw.noted_after in
          let below = fine.below in
          let removes = fine.removes in
          let before_lists = ap (λ (n : NotedCounts). n.lists) before in
          let after_lists = ap (λ (n : NotedCounts). n.lists) after in
          let before_removes = ap (λ (n : NotedCounts). n.removes) before in
          let after_removes = ap (λ (n : NotedCounts). n.removes) after in
          inr (inl (record {
            lists = omega (arith, before_lists, after_lists, bounds.0.lists, bounds.1.lists, bounds.2.lists, still);
            removes = omega (arith, before_removes, after_removes, bounds.0.removes, bounds.1.removes, bounds.2.removes, removes, opening_rise.removes);
            below = (omega (arith, after_lists, bounds.2.lists, below.0), omega (arith, after_removes, bounds.2.removes, below.1));
          }))
    ]

  -- ---- what the first file held

  abbrev first_name : List ℕ
  first_name = file_name_of c start.stamp

  held : IsTrue kind.is_known → c.continues ≡ true → IsHeld c start (kind.content folder)
  held is_known continues = by (opens.gets.opens is_known)
    where
      log : LogFiles
      log = log_files_of c (Some first_name)

      opens : OpensFile kind c first_name run.opens.listed run.first.file run.first.folder
      opens = rw (← run.number_is) run.opens.opens

      body : ℕ
      body = kind.body run.first.file

      listed : kind.content run.opens.listed ≡ kind.content folder
      listed = run.opens.finds.content

      -- no part of the opening changes the bytes of a body
      bytes : body_at (kind.content run.first.folder) body ≡ body_at (kind.content folder) body
      bytes =
          (grounds.parts.retention log (max_after c) (kind.content opens.linked) (kind.content run.first.folder) (opens.prunes_last.only_old is_known)).keeps.bytes body
          ∙ (grounds.parts.link c first_name (kind.content opens.unlinked) (kind.content opens.linked) (opens.changes_link is_known)).keeps.bytes body
          ∙ (grounds.parts.opening first_name (after_make_folder (kind.content opens.pruned)) (kind.content opens.unlinked) body (opens.gets.opens is_known)).keeps.bytes body
          ∙ (grounds.parts.folder (kind.content opens.pruned)).keeps.bytes body
          ∙ (grounds.parts.retention log (max_before c) (kind.content run.opens.listed) (kind.content opens.pruned) (opens.prunes.only_old is_known)).keeps.bytes body
          ∙ ap (λ (d : Content). body_at d body) listed

      is_held : start.held ≡ min c.max_bytes (length (body_at (kind.content folder) body))
      is_held =
          let asks = run.opens.room.continued continues in
          let left : run.first.room ≡ c.max_bytes - length (body_at (kind.content run.first.folder) body) = asks.room_is ∙ ap (λ (o : Option ℕ). option_map_or (λ (n : ℕ). c.max_bytes - n) o 0) (asks.known is_known) in
          let long : length (body_at (kind.content run.first.folder) body) ≡ length (body_at (kind.content folder) body) = ap length bytes in
          let room_is = run.room_is in
          omega (arith, left, long, room_is)

      pruned : (fin.get (kind.content opens.pruned).names first_name ≡ fin.get (kind.content folder).names first_name)
          ⊎ ((fin.get (kind.content opens.pruned).names first_name ≡ None) × (name_survives log (max_before c) (kind.content folder).names first_name ≡ false))
      pruned = subst
          (λ (d : Content). (fin.get (kind.content opens.pruned).names first_name ≡ fin.get d.names first_name)
          ⊎ ((fin.get (kind.content opens.pruned).names first_name ≡ None) × (name_survives log (max_before c) d.names first_name ≡ false))) listed
          ((opens.prunes.only_old is_known).names first_name)

      by : OpensBody first_name (after_make_folder (kind.content opens.pruned)) (kind.content opens.unlinked) body → IsHeld c start (kind.content folder)
      by (there, inl (t, own, same)) = elim pruned [
        | inl still ↦ inl (body, t, sym still ∙ own, is_held)
        | inr gone ↦ absurd (let both : ◌≡◌ {A = Option Entry} None (Some (File body t)) = sym gone.0 ∙ own in cc)
      ]
      by (there, inr (t, free, number, after)) =
          let same : (kind.content opens.pruned).bodies ≡ (kind.content folder).bodies = (opens.prunes.only_old is_known).bodies ∙ ap (λ (d : Content). d.bodies) listed in
          let none : body_at (kind.content folder) body ≡ [] = ap (λ (b : ℕ). get_or (kind.content folder).bodies b []) (number ∙ ap length same) ∙ nothing_beyond (kind.content folder).bodies in
          let zero : start.held ≡ 0 = omega (arith, is_held, ap length none) in
          elim pruned [
            | inl still ↦ inr (zero, inl (sym still ∙ free))
            | inr gone ↦ inr (zero, inr gone.1)
          ]

  -- ---- all of it

  leaves : (attempts : List WrittenAttempt) → (failures_in (map try_of attempts) ≡ 0) ⊎ (max_before c ≡ 0) → EachOf (PrunesAll grounds.maps c) attempts → EachOf (LeavesAll grounds.maps c) attempts
  leaves attempts (inr none) all = each_map (PrunesAll grounds.maps c) (LeavesAll grounds.maps c) attempts (λ a p. (inr none, p)) all
  leaves attempts (inl none) all = succeeded attempts (each_opened attempts none) all
    where
      succeeded : (part : List WrittenAttempt) → EachOf (λ a. is_some a.body ≡ true) part → EachOf (PrunesAll grounds.maps c) part → EachOf (LeavesAll grounds.maps c) part
      succeeded [] opened all = tt
      succeeded ((a, writes) ∷ earlier) opened all = ((inl opened.0, all.0), succeeded earlier opened.1 all.1)

  pub keeps : FolderFollows kind c start (account past) folder last.folder
  keeps = record {
    failed = so.counts.opens;
    faults = so.counts.failures;
    listed = run.opens.listed;
    finds = rw (← run.number_is) run.opens.finds;
    calls = (last.file, so.calls);
    anew = λ afresh. omega (arith, run.room_is, run.opens.room.anew afresh);
    content = λ is_known.
        let first : Content = kind.content folder in
        let now : Content = kind.content last.folder in
        let law = law_so_far c first (account past).newest (account past).earlier now (kind.body last.file) _ (so.files is_known) in
        let are : map try_of law.attempts ≡ tries = law.are_tries in
        let fails : (failures_in tries ≡ 0) ⊎ (max_before c ≡ 0) → (failures_in (map try_of law.attempts) ≡ 0) ⊎ (max_before c ≡ 0) = λ fine. elim fine [ inl none ↦ inl (ap failures_in are ∙ none) | inr none ↦ inr none ] in
        record {
          held = λ continues. held is_known continues;
          bytes = λ name b t at. law.bodies b
              ∙ ap (λ (xs : List ℕ). body_at first b ++ xs) (text_same c now name b t at law.attempts law.under_its_name law.names_its_body ∙ ap (written_to_name c name) are);
          others = λ name others not_link. others_stay grounds.maps c tries law.attempts first now law.leads (rw are (All-contains_itself tries)) name others not_link;
          kept = λ none. (all_kept grounds.maps c none law.attempts first now law.leads).0;
          written = λ none name some. written_lead grounds.maps c now.names name law.attempts (all_kept grounds.maps c none law.attempts first now law.leads).1 (λ nothing. some (sym (ap (written_to_name c name) are) ∙ nothing));
          open_file = λ fine s is. open_file_leads grounds.maps c law.attempts first now law.leads (fails fine) s (ap open_stamp are ∙ is);
          names = λ tried fine.
              let prunes : EachOf (PrunesAll grounds.maps c) law.attempts = each_map (IsSeen kind does run.opens.listed past run.first last run.runs) (PrunesAll grounds.maps c) law.attempts (elim fine [
                | inl unlimited ↦ λ a seen. inl unlimited
                | inr succeeded ↦ prunes_all is_known succeeded
              ]) law.are_seen in
              subst (λ (ts : List Try). NamesAfterTries c (length first.bodies) ts first.names now.names) are (names_lead grounds.maps c grounds.parts law.attempts first now law.leads (leaves law.attempts (fails tried) prunes));
        };
  }
