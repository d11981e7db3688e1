-- A run of steps over a roller keeps to the account of its files, and the folder to the laws of the files.
use Rattle.std.proofs.lemmas.Int.{ints}
use Rattle.std.proofs.Common.{◌≡◌, ◌≢◌, ◌^◌, ◌+◌, ◌<◌, ◌≤◌, Bool, ℕ, ℤ, true, false, inl, inr, List, [], ◌∷◌, ◌++◌, length, length-append, take, filter, filter_map, Option, None, Some, Result, Ok, Err, IsTrue, arith, refl, ap, sym, ◌∙◌, subst}
use Rattle.std.specs.declared.io.Error.{Error}
use Rattle.std.specs.declared.io.ErrorKind.{ErrorKind}
use Rattle.std.specs.declared.io.ErrorKind.TheVariants.{OutOfMemory}
use Rattle.appender_names.specs.Name.{NamesArePeriods, greatest_number}
use Rattle.appender_names.specs.Rotation.{is_moment, period_of, period_of_kind}
use Rattle.appender_names.specs.declared.rotation.RotationKind.{RotationKind}
use Rattle.appender_names.specs.declared.rotation.RotationKind.TheVariants.{Minutely, Hourly, Daily, Weekly, Never}
use Rattle.appender_store.specs.declared.store.Folder.{Ghosts}
use Rattle.appender_store.specs.Content.{Content, IsSound, after_append}
use Rattle.appender_store.proofs.Appends.{after_append_nothing, after_append_twice}
use Rattle.appender_store.specs.Folder.{AreNotedCounts}
use Rattle.appender_store.specs.NameLaws.{NameLaws}
use Rattle.appender_store.specs.Notes.{CountsRise}
use Rattle.appender_store.proofs.Rising.{same_rises, rises_on}
use Rattle.appender_retain.specs.Pruning.{IsQuiet}
use Rattle.appender_retain.specs.Survival.{RemovesOnlyOld, KeepsSurvivors}
use Rattle.appender_rolling.specs.Config.{Config, naming_of, log_files_of, IsStamp, MayLimit, is_limited, max_after, last_of, stamp}
use Rattle.appender_rolling.specs.declared.rolling.setup.Stamp.{Stamp}
use Rattle.appender_rolling.specs.Kept.{OpeningPartsKeepBodies}
use Rattle.appender_rolling.specs.Opening.{file_name_of, OpensFile, IsRefusalEffect, SparesOpened}
use Rattle.appender_rolling.specs.Roller.{Rolling, OpensRoller, ChecksClock, Writes, Puts, Flushes, written_count}
use Rattle.appender_rolling.specs.declared.rolling.Switch.{Switch}
use Rattle.appender_rolling.specs.declared.rolling.Switch.TheVariants.{None as Stayed, Opened as Switched, Failed as SwitchFailed}
use Rattle.appender_rolling.proofs.Rising.{looks_rise, writes_rise, flushes_rise}
use Rattle.appender_replay.specs.Start.{Start, start_of}
use Rattle.appender_replay.specs.Run.{Attempt, file_key, greatest}
use Rattle.appender_replay.specs.Replay.{RollerFollows, LeadsTo, RunsFrom, IsStepOf, IsSeen, SawAttempt, SawOpening, with_replies_onto}
use Rattle.appender_replay.specs.Headline.{Files, CallsLead, begins, by_kind, of_no_byte, bytes_taken, due_file, later_moment, faults_in, failures_in, files_at_opening, files_after_try, files_after_check, files_after_call}
use Rattle.appender_replay.proofs.Periods.{Laws, IsLaterKey}
use Rattle.appender_replay.proofs.Clocks.{nothing_of, RollerIs, Comes, Stays, Goes, comes, roller_checks, roller_writes, roller_stays, roller_begins, same_stamp, is_fresh, none_is_some}
use Rattle.appender_replay.proofs.Files.{OtherNames, FilesSoFar, Succeeds, a_failure, a_success, a_call, files_begin, law_so_far}
use Rattle.appender_replay.proofs.Counting.{Counted, counted_on, counted_as, finds_counted, opens_counted, looks_counted, writes_counted, flushes_counted}
use Rattle.appender_replay.proofs.FolderCalls.{opens_go, switches_go, failure_goes, write_goes, flush_goes}

-- What a run rests on: the laws of periods, of names and of openings, that a content that is known is sound, and that counts have 64 bits.
pub record Grounds {S F : Type 0} (kind : Ghosts S F) (config : Config) : Type 0 where
  pub laws : Laws config.rotation
  pub others : OtherNames config
  pub maps : NameLaws
  pub parts : OpeningPartsKeepBodies
  pub sound : (folder : S) → IsTrue kind.is_known → IsSound (kind.content folder)
  pub failures_fit : (folder : S) → kind.failures folder < 2 ^ 64
  pub noted_fit : (folder : S) → AreNotedCounts (kind.noted folder)

no_byte_faults : (shown : Result (Unit {0}) ErrorKind) → faults_in (of_no_byte shown) ≡ faults_in shown
no_byte_faults (Ok u) = refl
no_byte_faults (Err kind) = by kind
  where
    by : (kind : ErrorKind) → faults_in {T = ℕ} (Err kind) ≡ faults_in {T = Unit {0}} (Err kind)
    by OutOfMemory = refl
    by kind = refl

no_byte_kind : (answer : Result (Unit {0}) Error) → of_no_byte (by_kind answer) ≡ by_kind (of_no_byte answer)
no_byte_kind (Ok u) = refl
no_byte_kind (Err fault) = refl

pub count_by_kind : (answer : Result ℕ Error) (shown : Result ℕ ErrorKind) → shown ≡ by_kind answer → written_count shown ≡ written_count answer
count_by_kind (Ok n) shown e = ap written_count e
count_by_kind (Err fault) shown e = ap written_count e

module _ {S F : Type 0} (kind : Ghosts S F) (c : Config) (grounds : Grounds kind c) (folder listed : S) where
  abbrev Counts : ℕ → ℕ → S → S → Type 0
  Counts = Counted kind grounds.failures_fit grounds.noted_fit

  -- What is known of a roller after this account, over a folder that was this at first, and that after the first number was found, if so much was
  -- seen of each attempt.
  pub record Known (Seen : Attempt → Type 0) (f : Files) (now : Rolling S F) : Type 0 where
    pub roller : RollerIs c f now
    pub files : IsTrue kind.is_known → FilesSoFar c f.newest f.earlier (kind.content folder) (kind.content now.folder) (kind.body now.file) Seen
    pub counts : Counts (failures_in (f.newest ∷ f.earlier)) f.faults folder now.folder
    pub calls : CallsLead kind c listed (f.newest ∷ f.earlier) (Some now.file) now.folder

  same_roller : (Seen : Attempt → Type 0) (f : Files) (old new : Rolling S F) → new ≡ old → Known Seen f old → Known Seen f new
  same_roller Seen f old new same so = subst (λ (r : Rolling S F). Known Seen f r) (sym same) so

  -- ---- tries

  -- an attempt that opened a file
  abbrev attempted : Stamp → S → S → F → Attempt
  attempted m old new file = record {
    stamp = m;
    body = Some (kind.body file);
    before = kind.content old;
    after = kind.content new;
    noted_before = kind.noted old;
    noted_after = kind.noted new;
  }

  -- and what it did
  succeeds : (m : Stamp) (old ready new : S) (file : F) → IsTrue kind.is_known → OpensFile kind c (file_name_of c m) old file ready → kind.content new ≡ kind.content ready → (IsQuiet (kind.noted old) (kind.noted new) → IsQuiet (kind.noted old) (kind.noted ready)) → Succeeds c (attempted m old new file) (kind.body file)
  succeeds m old ready new file is_known o same quieter =
      let only_old = o.prunes.only_old is_known in
      let only_old_last : RemovesOnlyOld (log_files_of c (Some (file_name_of c m))) (max_after c) (kind.content o.linked) (kind.content new) = rw same (o.prunes_last.only_old is_known) in
      let spares : SparesOpened c (file_name_of c m) (kind.content old) (kind.content o.linked) (kind.content new) = rw same (o.spares is_known) in
      let survivors = λ (quiet : IsQuiet (kind.noted old) (kind.noted new)). o.prunes.survivors (o.quiet (quieter quiet)).0 is_known in
      let survivors_last : IsQuiet (kind.noted old) (kind.noted new) → KeepsSurvivors (log_files_of c (Some (file_name_of c m))) (max_after c) (kind.content o.linked) (kind.content new) =
      λ quiet. rw same (o.prunes_last.survivors (o.quiet (quieter quiet)).1 is_known) in
      record {
        did = record {
          pruned = kind.content o.pruned;
          unlinked = kind.content o.unlinked;
          linked = kind.content o.linked;
          only_old = only_old;
          survivors = survivors;
          opens = o.gets.opens is_known;
          links = o.changes_link is_known;
          only_old_last = only_old_last;
          survivors_last = survivors_last;
          spares = spares;
          at_most = λ quiet some. rw same (o.at_most (quieter quiet) is_known some);
        };
        sound = grounds.sound o.unlinked is_known;
        sound_before = grounds.sound old is_known;
        unlinked_there = o.gets.body_is_there is_known;
        there = rw same (o.body_is_there is_known);
      }

  module _ (Seen : Attempt → Type 0) (f : Files) (old new : Rolling S F) (so : Known Seen f old) where
    -- what is seen of a try
    seen_at : (s : Stamp) → new.last ≡ s → IsLaterKey (file_key c f.newest.stamp) (file_key c s) → (body : Option ℕ)
        → SawAttempt kind old new (record { stamp = s; body = body; before = kind.content old.folder; after = kind.content new.folder; noted_before = kind.noted old.folder; noted_after = kind.noted new.folder })
    seen_at s made later body = record {
      made = made;
      fresh = λ same. is_fresh c f.newest.stamp s later (sym so.roller.last_is ∙ same);
      before = refl;
      noted_before = refl;
      bytes = [];
      after = λ is_known. sym (after_append_nothing (kind.content new.folder) (kind.body new.file));
      noted_after = refl;
    }

    looked : (m : ℤ) (len : ℕ) (switch : Switch) (o : Option Stamp) → Comes c f m len old o → ChecksClock kind m len switch old new → ((a : Attempt) → SawAttempt kind old new a → Seen a)
        → Known Seen (files_after_try o switch (record f { latest = later_moment f.latest m })) new
    looked m len Stayed o (Stays none same) checks saw =
        let at : RollerIs c (record f { latest = later_moment f.latest m }) new = roller_checks c grounds.laws kind f m len Stayed old new None (Stays none same) so.roller checks in
        let all : Known Seen f new = same_roller Seen f old new checks.1 so in
        record { roller = at; files = all.files; counts = all.counts; calls = all.calls }
    looked m len Switched o (Stays none same) checks saw = none_is_some checks.at_stamp (sym none ∙ checks.cause)
    looked m len SwitchFailed o (Stays none same) checks saw = none_is_some checks.at_stamp (sym none ∙ checks.cause)
    looked m len Stayed o (Goes s some is_stamp period later) checks saw = none_is_some s (sym checks.0 ∙ some)
    looked m len Switched o (Goes s some is_stamp period later) checks saw =
        let it : checks.at_stamp ≡ s = same_stamp checks.at_stamp s (sym checks.cause ∙ some) in
        let opens : OpensFile kind c (file_name_of c s) old.folder new.file checks.ready = rw (← so.roller.config_is, ← it) checks.opens in
        record {
          roller = roller_checks c grounds.laws kind f m len Switched old new (Some s) (Goes s some is_stamp period later) so.roller checks;
          files = λ is_known. a_success c (kind.content folder) grounds.parts grounds.maps grounds.others f.newest f.earlier (kind.content old.folder) (kind.body old.file) Seen (so.files is_known) s is_stamp later (kind.content new.folder) (kind.noted old.folder) (kind.noted new.folder)
              (kind.body new.file) (succeeds s old.folder checks.ready new.folder new.file is_known opens checks.content checks.quiet) (saw (attempted s old.folder new.folder new.file) (seen_at s (checks.last ∙ it) later (Some (kind.body new.file))));
          counts = counted_as kind grounds.failures_fit grounds.noted_fit _ _ _ _ folder new.folder (omega arith) (omega arith) (counted_on kind grounds.failures_fit grounds.noted_fit (failures_in (f.newest ∷ f.earlier)) f.faults 0 0 folder old.folder new.folder so.counts (looks_counted kind grounds.failures_fit grounds.noted_fit m len Switched old new checks));
          calls = switches_go kind grounds.failures_fit c listed s m len old new so.roller.config_is checks it (f.newest ∷ f.earlier) (Some old.file) so.calls;
        }
    looked m len SwitchFailed o (Goes s some is_stamp period later) checks saw =
        let it : checks.at_stamp ≡ s = same_stamp checks.at_stamp s (sym checks.cause ∙ some) in
        record {
          roller = roller_checks c grounds.laws kind f m len SwitchFailed old new (Some s) (Goes s some is_stamp period later) so.roller checks;
          files = λ is_known.
              let little : IsRefusalEffect c (file_name_of c s) (kind.content old.folder) (kind.content new.folder) = rw (← it, ← so.roller.config_is) (checks.content is_known) in
              rw checks.file (a_failure c (kind.content folder) grounds.parts grounds.maps grounds.others f.newest f.earlier (kind.content old.folder) (kind.body old.file) Seen (so.files is_known) s is_stamp later (kind.content new.folder) (kind.noted old.folder) (kind.noted new.folder)
              little (saw _ (seen_at s (checks.last ∙ it) later None)));
          counts = counted_as kind grounds.failures_fit grounds.noted_fit _ _ _ _ folder new.folder (omega arith) (omega arith) (counted_on kind grounds.failures_fit grounds.noted_fit (failures_in (f.newest ∷ f.earlier)) f.faults 1 0 folder old.folder new.folder so.counts (looks_counted kind grounds.failures_fit grounds.noted_fit m len SwitchFailed old new checks));
          calls = rw checks.file (failure_goes kind grounds.failures_fit c listed s m len old new so.roller.config_is checks it (f.newest ∷ f.earlier) (Some old.file) so.calls);
        }

    -- a check of the clock
    checked : (m : ℤ) (len : ℕ) (switch : Switch) → ChecksClock kind m len switch old new → ((a : Attempt) → SawAttempt kind old new a → Seen a) → Known Seen (files_after_check c m len switch f) new
    checked m len switch checks saw = looked m len switch (due_file c f m len) (comes c grounds.laws f m len old so.roller) checks saw

    -- ---- writes and flushes

    wrote : (bytes : List ℕ) (shown : Result ℕ ErrorKind) (answer : Result ℕ Error) → shown ≡ by_kind answer → Writes kind bytes answer old new → Known Seen (files_after_call false bytes shown f) new
    wrote bytes shown answer is writes =
        let count = count_by_kind answer shown is in
        record {
          roller = roller_writes c grounds.laws kind f false bytes answer shown old new count writes so.roller;
          files = λ is_known.
              let content : kind.content new.folder ≡ after_append (kind.content old.folder) (kind.body old.file) (take (written_count shown) bytes) =
              writes.content is_known ∙ ap (λ (n : ℕ). after_append (kind.content old.folder) (kind.body old.file) (take n bytes)) (sym count) in
              rw (content, writes.stays.file) (a_call c (kind.content folder) f.newest f.earlier (kind.content old.folder) (kind.body old.file) Seen (record { latest = f.latest; flush = false; bytes = bytes; answer = shown }) (sym so.roller.period_is) (so.files is_known));
          counts = counted_as kind grounds.failures_fit grounds.noted_fit _ _ _ _ folder new.folder (omega arith) (ap (λ (r : Result ℕ ErrorKind). f.faults + faults_in r) (sym is))
              (counted_on kind grounds.failures_fit grounds.noted_fit (failures_in (f.newest ∷ f.earlier)) f.faults 0 (faults_in (by_kind answer)) folder old.folder new.folder so.counts (writes_counted kind grounds.failures_fit grounds.noted_fit bytes answer old new writes));
          calls = write_goes kind grounds.failures_fit c listed f.latest bytes shown answer old new is writes f.newest f.earlier so.calls;
        }

    flushed : (shown : Result (Unit {0}) ErrorKind) (answer : Result (Unit {0}) Error) → shown ≡ by_kind answer → Flushes kind answer old new → Known Seen (files_after_call true [] (of_no_byte shown) f) new
    flushed shown answer is flushes =
        let none : ◌≡◌ {A = List ℕ} (take (written_count (of_no_byte shown)) []) [] = nothing_of (written_count (of_no_byte shown)) in
        record {
          roller = roller_stays c grounds.laws kind f (files_after_call true [] (of_no_byte shown) f) old new flushes.stays refl refl refl
              (omega (arith, flushes.room, so.roller.room_is, length-append (bytes_taken f.newest.calls) (take (written_count (of_no_byte shown)) []), ap length none)) so.roller;
          files = λ is_known.
              let content : kind.content new.folder ≡ after_append (kind.content old.folder) (kind.body old.file) (take (written_count (of_no_byte shown)) []) =
              flushes.content ∙ sym (after_append_nothing (kind.content old.folder) (kind.body old.file)) ∙ ap (after_append (kind.content old.folder) (kind.body old.file)) (sym none) in
              rw (content, flushes.stays.file) (a_call c (kind.content folder) f.newest f.earlier (kind.content old.folder) (kind.body old.file) Seen (record { latest = f.latest; flush = true; bytes = []; answer = of_no_byte shown }) (sym so.roller.period_is) (so.files is_known));
          counts = counted_as kind grounds.failures_fit grounds.noted_fit _ _ _ _ folder new.folder (omega arith) (ap (λ (n : ℕ). f.faults + n) (ap (λ (r : Result (Unit {0}) ErrorKind). faults_in r) (sym is) ∙ sym (no_byte_faults shown)))
              (counted_on kind grounds.failures_fit grounds.noted_fit (failures_in (f.newest ∷ f.earlier)) f.faults 0 (faults_in (by_kind answer)) folder old.folder new.folder so.counts (flushes_counted kind grounds.failures_fit grounds.noted_fit answer old new flushes));
          calls = flush_goes kind grounds.failures_fit c listed f.latest (of_no_byte shown) answer old new (ap of_no_byte is ∙ no_byte_kind answer) flushes f.newest f.earlier so.calls;
        }

  -- ---- one step

  -- What a step does, of which each attempt is seen.
  pub record StepsTo (f g : Files) (old new : Rolling S F) : Type 1 where
    pub goes : (Seen : Attempt → Type 0) → Known Seen f old → ((a : Attempt) → SawAttempt kind old new a → Seen a) → Known Seen g new
    pub notes : RollerIs c f old → new.last ≡ old.last → kind.noted new.folder ≡ kind.noted old.folder
    pub rises : CountsRise kind old.folder new.folder

  check_notes : (f : Files) (m : ℤ) (len : ℕ) (switch : Switch) (old new : Rolling S F) → RollerIs c f old → ChecksClock kind m len switch old new → new.last ≡ old.last → kind.noted new.folder ≡ kind.noted old.folder
  check_notes f m len switch old new so checks same = by switch checks (due_file c f m len) (comes c grounds.laws f m len old so)
    where
      fresh : (s at : Stamp) → at ≡ s → new.last ≡ at → IsLaterKey (file_key c f.newest.stamp) (file_key c s) → ⊥
      fresh s at it last later = is_fresh c f.newest.stamp s later (sym so.last_is ∙ sym same ∙ last ∙ it)

      by : (switch : Switch) → ChecksClock kind m len switch old new → (o : Option Stamp) → Comes c f m len old o → kind.noted new.folder ≡ kind.noted old.folder
      by Stayed checks o come = ap (λ (r : Rolling S F). kind.noted r.folder) checks.1
      by Switched checks o (Stays none stays) = none_is_some checks.at_stamp (sym none ∙ checks.cause)
      by SwitchFailed checks o (Stays none stays) = none_is_some checks.at_stamp (sym none ∙ checks.cause)
      by Switched checks o (Goes s some is_stamp period later) = absurd (fresh s checks.at_stamp (same_stamp checks.at_stamp s (sym checks.cause ∙ some)) checks.last later)
      by SwitchFailed checks o (Goes s some is_stamp period later) = absurd (fresh s checks.at_stamp (same_stamp checks.at_stamp s (sym checks.cause ∙ some)) checks.last later)

  pub steps_check : (f : Files) (m : ℤ) (len : ℕ) (switch : Switch) (old new : Rolling S F) → ChecksClock kind m len switch old new → StepsTo f (files_after_check c m len switch f) old new
  steps_check f m len switch old new checks = record {
    goes = λ Seen so saw. checked Seen f old new so m len switch checks saw;
    notes = λ so same. check_notes f m len switch old new so checks same;
    rises = looks_rise kind grounds.failures_fit grounds.noted_fit m len switch old new checks;
  }

  pub steps_write : (f : Files) (bytes : List ℕ) (shown : Result ℕ ErrorKind) (answer : Result ℕ Error) (old new : Rolling S F) → shown ≡ by_kind answer → Writes kind bytes answer old new → StepsTo f (files_after_call false bytes shown f) old new
  steps_write f bytes shown answer old new is writes = record {
    goes = λ Seen so saw. wrote Seen f old new so bytes shown answer is writes;
    notes = λ so same. writes.stays.noted;
    rises = writes_rise kind grounds.failures_fit grounds.noted_fit bytes answer old new writes;
  }

  pub steps_put : (f : Files) (m : ℤ) (bytes : List ℕ) (switch : Switch) (shown : Result ℕ ErrorKind) (answer : Result ℕ Error) (old new : Rolling S F) → shown ≡ by_kind answer → Puts kind m bytes switch answer old new
      → StepsTo f (files_after_call false bytes shown (files_after_check c m (length bytes) switch f)) old new
  steps_put f m bytes switch shown answer old new is puts = record {
    goes = λ Seen so saw. wrote Seen (files_after_check c m (length bytes) switch f) puts.between new (checked Seen f old puts.between so m (length bytes) switch puts.looks (λ a s. saw a (record {
      made = puts.writes.stays.last ∙ s.made;
      fresh = s.fresh;
      before = s.before;
      noted_before = s.noted_before;
      bytes = s.bytes ++ take (written_count answer) bytes;
      after = λ is_known. puts.writes.content is_known
          ∙ ap (λ (d : Content). after_append d (kind.body puts.between.file) (take (written_count answer) bytes)) (s.after is_known)
          ∙ after_append_twice a.after (kind.body puts.between.file) s.bytes (take (written_count answer) bytes)
          ∙ ap (λ (b : ℕ). after_append a.after b (s.bytes ++ take (written_count answer) bytes)) (sym puts.writes.stays.file);
      noted_after = s.noted_after ∙ sym puts.writes.stays.noted;
    }))) bytes shown answer is puts.writes;
    notes = λ so same. puts.writes.stays.noted ∙ check_notes f m (length bytes) switch old puts.between so puts.looks (sym puts.writes.stays.last ∙ same);
    rises = rises_on kind old.folder puts.between.folder new.folder (looks_rise kind grounds.failures_fit grounds.noted_fit m (length bytes) switch old puts.between puts.looks) (writes_rise kind grounds.failures_fit grounds.noted_fit bytes answer puts.between new puts.writes);
  }

  pub steps_flush : (f : Files) (shown : Result (Unit {0}) ErrorKind) (answer : Result (Unit {0}) Error) (old new : Rolling S F) → shown ≡ by_kind answer → Flushes kind answer old new → StepsTo f (files_after_call true [] (of_no_byte shown) f) old new
  steps_flush f shown answer old new is flushes = record {
    goes = λ Seen so saw. flushed Seen f old new so shown answer is flushes;
    notes = λ so same. flushes.stays.noted;
    rises = flushes_rise kind grounds.failures_fit grounds.noted_fit answer old new flushes;
  }

  pub steps_nothing : (f : Files) (old new : Rolling S F) → new ≡ old → StepsTo f f old new
  steps_nothing f old new same = record {
    goes = λ Seen so saw. same_roller Seen f old new same so;
    notes = λ so last. ap (λ (r : Rolling S F). kind.noted r.folder) same;
    rises = same_rises kind old.folder new.folder (ap (λ (r : Rolling S F). r.folder) same);
  }

-- ---- all steps

-- Runs of steps of any kind, each of which leads from its account to the next.
module _ {S F T : Type 0} (kind : Ghosts S F) (c : Config) (grounds : Grounds kind c) (does : List T → T → Rolling S F → Rolling S F → Type 0) (account : List T → Files) (moment : ℤ) (number room : ℕ) (folder : S)
    (steps : (listed : S) (past : List T) (t : T) (old new : Rolling S F) → does past t old new → StepsTo kind c grounds folder listed (account past) (account (t ∷ past)) old new)
    (account_begins : account [] ≡ files_at_opening (start_of c moment number room)) where
  abbrev start : Start
  start = start_of c moment number room

  module _ (first : Rolling S F) (o : OpensRoller kind c moment folder first) (number_is : o.number ≡ number) (room_is : first.room ≡ room) where
    opening_known : (Seen : Attempt → Type 0) → ((a : Attempt) → SawOpening kind o.listed first a → Seen a) → Known kind c grounds folder o.listed Seen (files_at_opening start) first
    opening_known Seen saw =
        let same : stamp moment o.number ≡ start.stamp = rw number_is refl in
        let is_stamp : IsStamp c start.stamp = record { in_range = o.may_open.in_range; number_is = rw (← number_is) o.finds.number_is } in
        let opens : OpensFile kind c (file_name_of c start.stamp) o.listed first.file first.folder = rw (← number_is) o.opens in
        record {
          roller = roller_begins c grounds.laws start first o.config_is is_stamp (o.opened ∙ same) (o.last ∙ same) o.boundary (omega (arith, room_is, o.room.at_most));
          files = λ is_known. subst (λ (d : Content). FilesSoFar c (files_at_opening start).newest [] d (kind.content first.folder) (kind.body first.file) Seen) o.finds.content
              (files_begin c (kind.content o.listed) grounds.parts grounds.maps start.stamp (kind.body first.file) (kind.content first.folder) (kind.noted o.listed) (kind.noted first.folder) Seen is_stamp
              (succeeds kind c grounds folder o.listed start.stamp o.listed first.folder first.folder first.file is_known opens refl (λ quiet. quiet))
              (saw _ (record { made = o.last ∙ same; before = refl; noted_before = refl; after = refl; noted_after = refl })));
          counts = counted_as kind grounds.failures_fit grounds.noted_fit _ _ _ _ folder first.folder (omega arith) (omega arith) (counted_on kind grounds.failures_fit grounds.noted_fit 0 0 0 0 folder o.listed first.folder
              (finds_counted kind grounds.failures_fit grounds.noted_fit c moment folder o.number o.listed o.finds) (opens_counted kind grounds.failures_fit grounds.noted_fit c _ o.listed first.file first.folder o.opens));
          calls = opens_go kind grounds.failures_fit c o.listed start.stamp o.listed first.file first.folder opens [] None begins;
        }

    -- what is known after these steps, if so much is seen at the opening and at each step
    pub run_known : (Seen : Attempt → Type 0) → ((a : Attempt) → SawOpening kind o.listed first a → Seen a) → (past : List T) (last : Rolling S F) (runs : LeadsTo does past first last)
        → ((old new : Rolling S F) → IsStepOf does past first last runs old new → (a : Attempt) → SawAttempt kind old new a → Seen a) → Known kind c grounds folder o.listed Seen (account past) last
    run_known Seen opening [] last runs saw =
        subst (λ (f : Files). Known kind c grounds folder o.listed Seen f last) (sym account_begins) (same_roller kind c grounds folder o.listed Seen (files_at_opening start) first last runs (opening_known Seen opening))
    run_known Seen opening (t ∷ past) last (old, runs, is) saw =
        (steps o.listed past t old last is).goes Seen (run_known Seen opening past old runs (λ x y at a s. saw x y (inr at) a s)) (λ a s. saw old last (inl (refl, refl)) a s)

    -- of the roller alone
    pub run_roller : (past : List T) (last : Rolling S F) → LeadsTo does past first last → RollerIs c (account past) last
    run_roller past last runs = (run_known (λ a. Unit {0}) (λ a s. tt) past last runs (λ x y at a s. tt)).roller

    pub run_notes : (past : List T) (last : Rolling S F) (runs : LeadsTo does past first last) (x y : Rolling S F) → IsStepOf does past first last runs x y → y.last ≡ x.last → kind.noted y.folder ≡ kind.noted x.folder
    run_notes [] last runs x y at same = absurd at
    run_notes (t ∷ past) last (old, runs, is) x y (inr before) same = run_notes past old runs x y before same
    run_notes (t ∷ past) last (old, runs, is) x y (inl here) same =
        ap (λ (r : Rolling S F). kind.noted r.folder) here.1
        ∙ (steps o.listed past t old last is).notes (run_roller past old runs) (sym (ap (λ (r : Rolling S F). r.last) here.1) ∙ same ∙ ap (λ (r : Rolling S F). r.last) here.0)
        ∙ sym (ap (λ (r : Rolling S F). kind.noted r.folder) here.0)

    -- no count fell: over all steps, and before, at and after each of them
    pub run_rises : (past : List T) (last : Rolling S F) → LeadsTo does past first last → CountsRise kind first.folder last.folder
    run_rises [] last runs = same_rises kind first.folder last.folder (ap (λ (r : Rolling S F). r.folder) runs)
    run_rises (t ∷ past) last (old, runs, is) = rises_on kind first.folder old.folder last.folder (run_rises past old runs) (steps o.listed past t old last is).rises

    pub step_rises : (past : List T) (last : Rolling S F) (runs : LeadsTo does past first last) (x y : Rolling S F) → IsStepOf does past first last runs x y
        → CountsRise kind first.folder x.folder × CountsRise kind x.folder y.folder × CountsRise kind y.folder last.folder
    step_rises [] last runs x y at = absurd at
    step_rises (t ∷ past) last (old, runs, is) x y (inr before) =
        let so = step_rises past old runs x y before in
        (so.0, so.1, rises_on kind y.folder old.folder last.folder so.2 (steps o.listed past t old last is).rises)
    step_rises (t ∷ past) last (old, runs, is) x y (inl here) = (
      subst (λ (r : Rolling S F). CountsRise kind first.folder r.folder) (sym here.0) (run_rises past old runs),
      subst (λ (r : Rolling S F). CountsRise kind r.folder y.folder) (sym here.0) (subst (λ (r : Rolling S F). CountsRise kind old.folder r.folder) (sym here.1) (steps o.listed past t old last is).rises),
      same_rises kind y.folder last.folder (sym (ap (λ (r : Rolling S F). r.folder) here.1)),
    )

  -- what is known of a run
  pub known_of : (past : List T) (last : Rolling S F) (run : RunsFrom kind does c moment number room folder past last)
      → Known kind c grounds folder run.opens.listed (IsSeen kind does run.opens.listed past run.first last run.runs) (account past) last
  known_of past last run = run_known run.first run.opens run.number_is run.room_is (IsSeen kind does run.opens.listed past run.first last run.runs) (λ a s. inl s) past last run.runs (λ x y at a s. inr (x, y, at, s))

  -- what a run says of its roller
  pub follows : (read : T → Option ℤ) (past : List T) (last : Rolling S F) → (account past).latest ≡ greatest moment (filter is_moment (filter_map read past)) → RunsFrom kind does c moment number room folder past last
      → RollerFollows kind does read c moment number room folder past last (account past)
  follows read past last latest run =
      let at = (known_of past last run).roller in
      record {
        config_is = at.config_is;
        latest_is = latest;
        newest_is = at.last_is;
        in_its_period = at.period_is;
        boundary_is = at.boundary_is;
        opened_is = at.opened_is;
        files = λ is_known run. law_so_far c (kind.content folder) (account past).newest (account past).earlier (kind.content last.folder) (kind.body last.file) _ ((known_of past last run).files is_known);
        notices = λ run. run_notes run.first run.opens run.number_is run.room_is past last run.runs;
      }

-- one more step
pub one_reply_more : {S R : Type 0} (past : List (S × R)) (steps : List S) (replies : List R) (s : S) (r : R) → length steps ≡ length replies → with_replies_onto past (steps ++ s ∷ []) (replies ++ r ∷ []) ≡ (s, r) ∷ with_replies_onto past steps replies
one_reply_more past [] [] s r e = refl
one_reply_more past [] (q ∷ replies) s r e = absurd (omega arith)
one_reply_more past (p ∷ steps) [] s r e = absurd (omega arith)
one_reply_more past (p ∷ steps) (q ∷ replies) s r e = one_reply_more ((p, q) ∷ past) steps replies s r (omega arith)

-- names of later periods are others, and in one period those of greater numbers, by the law on names
never_is : (k : RotationKind) (m : ℤ) → period_of_kind k m ≡ None → k ≡ Never
never_is Minutely m e = absurd (let both : ◌≡◌ {A = Option ℤ} (Some _) None = e in cc)
never_is Hourly m e = absurd (let both : ◌≡◌ {A = Option ℤ} (Some _) None = e in cc)
never_is Daily m e = absurd (let both : ◌≡◌ {A = Option ℤ} (Some _) None = e in cc)
never_is Weekly m e = absurd (let both : ◌≡◌ {A = Option ℤ} (Some _) None = e in cc)
never_is Never m e = refl

-- where periods have no start there is no limit, and so no number but 0
no_greater : (config : Config) (s t : Stamp) → MayLimit config → t.number ≤ last_of config → s.number < t.number → period_of config.rotation s.moment ≡ None → ⊥
no_greater config s t may le lt none = by (is_limited config) refl le
  where
    by : (b : Bool) → is_limited config ≡ b → t.number ≤ greatest_number b → ⊥
    by false is low = absurd (omega (arith, low, lt))
    by true is low = may is (never_is config.rotation.kind s.moment none)

pub other_names : (config : Config) → MayLimit config → NamesArePeriods (naming_of config) → OtherNames config
other_names config may law s t g h later = by (period_of config.rotation s.moment) (period_of config.rotation t.moment) refl refl later
  where
    by : (p q : Option ℤ) → period_of config.rotation s.moment ≡ p → period_of config.rotation t.moment ≡ q → IsLaterKey (p, s.number) (q, t.number) → file_name_of config t ≢ file_name_of config s
    by None q e f (inl k) same = absurd k
    by (Some p) None e f (inl k) same = absurd k
    by (Some p) (Some q) e f (inl k) same = let one : q ≡ p = ((law t.moment s.moment q p t.number s.number h.in_range g.in_range f e h.number_is g.number_is).0 same).0 in absurd (omega (arith, ints))
    by (Some p) None e f (inr (is, lt)) same = absurd (let both : ◌≡◌ {A = Option ℤ} (Some p) None = is in cc)
    by None (Some q) e f (inr (is, lt)) same = absurd (let both : ◌≡◌ {A = Option ℤ} None (Some q) = is in cc)
    by None None e f (inr (is, lt)) same = no_greater config s t may h.number_is lt e
    by (Some p) (Some q) e f (inr (is, lt)) same = let one : t.number ≡ s.number = ((law t.moment s.moment q p t.number s.number h.in_range g.in_range f e h.number_is g.number_is).0 same).1 in absurd (omega (arith, one))
