-- What a folder counts over a run: failed attempts as notices, and errors of writes and flushes as failures.
use Rattle.std.proofs.Common.{◌≡◌, ◌∙◌, ℕ, zero, suc, ℤ, ◌+◌, ◌-◌, ◌^◌, ◌<◌, ◌≤◌, min, Option, None, Some, sym, Bool, true, false, List, [], ◌∷◌, map, Result, Ok, Err, MatchResult, Vec, inl, inr, refl, ap, arith}
use Rattle.std.specs.IoError.{error_kind}
use Rattle.std.specs.declared.alloc.Global.{Global}
use Rattle.std.specs.declared.io.Error.{Error}
use Rattle.std.specs.declared.io.ErrorKind.{ErrorKind}
use Rattle.std.specs.declared.io.ErrorKind.TheVariants.{OutOfMemory}
use Rattle.appender_names.specs.declared.error.InitError.{InitError}
use Rattle.appender_names.specs.declared.error.InitError.TheVariants.{Directory, File, Symlink, Moment, Name, Memory, Limit}
use Rattle.appender_store.specs.Folder.{AreNotedCounts, NotedCounts, HasCause, NotedFlush, NotedList, listed_row}
use Rattle.appender_store.specs.Notes.{CountsRise, Notes}
use Rattle.appender_store.specs.declared.store.Folder.{Ghosts}
use Rattle.appender_store.specs.declared.store.Listed.{Listed}
use Rattle.appender_store.proofs.Rising.{same_rises, rises_on}
use Rattle.appender_rolling.specs.Config.{Config, is_limited}
use Rattle.appender_rolling.specs.Opening.{FindsNumber, ListsNumbers, IsFirstNumber, IsListed, FailsToLink, RemovesEmpty, RemovesNewFile, OpensFile, RefusesFile}
use Rattle.appender_rolling.specs.Roller.{Rolling, ChecksClock, Writes, Flushes, ClosesLast}
use Rattle.appender_rolling.specs.declared.rolling.Switch.{Switch}
use Rattle.appender_rolling.specs.declared.rolling.Switch.TheVariants.{None as Stayed, Opened as Switched, Failed as SwitchFailed}
use Rattle.appender_rolling.proofs.Rising.{finds_rise, opens_rise, looks_rise, writes_rise, flushes_rise}
use Rattle.appender_replay.specs.Headline.{by_kind, faults_in}

-- how many tries failed
abbrev pub failed_by : Switch → ℕ
failed_by SwitchFailed = 1
failed_by switch = 0

-- no notice of a failed attempt
abbrev SameOpens : NotedCounts → NotedCounts → Type 0
SameOpens old new = new.opens ≡ old.opens

module _ {S F : Type 0} (kind : Ghosts S F) (failures_fit : (s : S) → kind.failures s < 2 ^ 64) (noted_fit : (s : S) → AreNotedCounts (kind.noted s)) where
  -- So many attempts failed, each with a notice, and so many writes and flushes, each with a failure. No count fell.
  pub record Counted (failed faults : ℕ) (old new : S) : Type 0 where
    pub opens : (kind.noted new).opens ≡ min ((kind.noted old).opens + failed) (2 ^ 64 - 1)
    pub failures : min (kind.failures old + faults) (2 ^ 64 - 1) ≤ kind.failures new
    pub rise : CountsRise kind old new

  abbrev within : (s : S) → (kind.noted s).opens < 2 ^ 64
  within s = (noted_fit s).opens

  pub counted_none : (old new : S) → SameOpens (kind.noted old) (kind.noted new) → CountsRise kind old new → Counted 0 0 old new
  counted_none old new same rise = record { opens = omega (arith, same, within old); failures = omega (arith, rise.failures); rise = rise }

  pub counted_same : (old new : S) → new ≡ old → Counted 0 0 old new
  counted_same old new same = counted_none old new (ap (λ (s : S). (kind.noted s).opens) same) (same_rises kind old new same)

  pub counted_on : (a b x y : ℕ) (old between new : S) → Counted a b old between → Counted x y between new → Counted (a + x) (b + y) old new
  counted_on a b x y old between new first second = record {
    opens = omega (arith, first.opens, second.opens);
    failures = omega (arith, first.failures, second.failures);
    rise = rises_on kind old between new first.rise second.rise;
  }

  pub counted_as : (a b x y : ℕ) (old new : S) → a ≡ x → b ≡ y → Counted a b old new → Counted x y old new
  counted_as a b x y old new failed faults so = record { opens = omega (arith, so.opens, failed); failures = omega (arith, so.failures, faults); rise = so.rise }

  -- ---- the first file

  numbers_note : (config : Config) (m : ℤ) (old : S) (number : ℕ) (new : S) → ListsNumbers kind config m old number new → SameOpens (kind.noted old) (kind.noted new)
  numbers_note config m old number new l = by l.answer l.number_is
    where
      by : (answer : Result (Vec Listed Global) Error) → MatchResult answer (λ all. IsFirstNumber config m (IsListed (map listed_row all.items)) number × (new ≡ l.listed)) (λ fault. (number ≡ 0) × Notes kind l.listed (NotedList fault) new) → SameOpens (kind.noted old) (kind.noted new)
      by (Ok all) is = ap (λ (s : S). (kind.noted s).opens) is.1 ∙ ap (λ (n : NotedCounts). n.opens) l.noted
      by (Err fault) is = ap (λ (n : NotedCounts). n.opens) is.1.noted ∙ ap (λ (n : NotedCounts). n.opens) l.noted

  pub finds_counted : (config : Config) (m : ℤ) (old : S) (number : ℕ) (new : S) → FindsNumber kind config m old number new → Counted 0 0 old new
  finds_counted config m old number new finds = counted_none old new (by (is_limited config) refl) (finds_rise kind failures_fit noted_fit config m old number new finds)
    where
      by : (limited : Bool) → is_limited config ≡ limited → SameOpens (kind.noted old) (kind.noted new)
      by false e = ap (λ (s : S). (kind.noted s).opens) (finds.none e).1
      by true e = numbers_note config m old number new (finds.calls e)

  opening_notes : (config : Config) (name : List ℕ) (old : S) (file : F) (new : S) → OpensFile kind config name old file new → SameOpens (kind.noted old) (kind.noted new)
  opening_notes config name old file new opens = opens.prunes_last.nothing_else.opens ∙ ap (λ (n : NotedCounts). n.opens) opens.noted ∙ opens.prunes.nothing_else.opens

  pub opens_counted : (config : Config) (name : List ℕ) (old : S) (file : F) (new : S) → OpensFile kind config name old file new → Counted 0 0 old new
  opens_counted config name old file new opens = counted_none old new (opening_notes config name old file new opens) (opens_rise kind failures_fit noted_fit config name old file new opens)

  -- ---- a check of the clock

  empty_notes : (name : List ℕ) (file : F) (old new : S) → RemovesEmpty kind name file old new → SameOpens (kind.noted old) (kind.noted new)
  empty_notes name file old new asks = by asks.answer refl
    where
      by : (answer : Option ℕ) → asks.answer ≡ answer → SameOpens (kind.noted old) (kind.noted new)
      by None is = ap (λ (s : S). (kind.noted s).opens) (asks.other (λ same. absurd (let both : ◌≡◌ {A = Option ℕ} None (Some 0) = sym is ∙ same in cc)))
      by (Some zero) is = ap (λ (n : NotedCounts). n.opens) (asks.empty is).noted
      by (Some (suc n)) is = ap (λ (s : S). (kind.noted s).opens) (asks.other (λ same. absurd (let both : ◌≡◌ {A = Option ℕ} (Some (suc n)) (Some 0) = sym is ∙ same in cc)))

  new_file_notes : (config : Config) (name : List ℕ) (made : Bool) (file : F) (old new : S) → RemovesNewFile kind config name made file old new → SameOpens (kind.noted old) (kind.noted new)
  new_file_notes config name made file old new removes = by config.by_name made refl refl
    where
      by : (by_name m : Bool) → config.by_name ≡ by_name → made ≡ m → SameOpens (kind.noted old) (kind.noted new)
      by false m is_by is_made = ap (λ (s : S). (kind.noted s).opens) (removes.other (inl is_by))
      by true false is_by is_made = ap (λ (s : S). (kind.noted s).opens) (removes.other (inr is_made))
      by true true is_by is_made = empty_notes name file old new (removes.new_file is_by is_made)

  refusal_notes : (config : Config) (name : List ℕ) (old : S) (error : InitError) (new : S) → RefusesFile kind config name old error new → SameOpens (kind.noted old) (kind.noted new)
  refusal_notes config name old (Directory fault) new (pruned, prunes, none) = ap (λ (n : NotedCounts). n.opens) none.noted ∙ prunes.nothing_else.opens
  refusal_notes config name old (File fault) new (pruned, prunes, none) = ap (λ (n : NotedCounts). n.opens) none.noted ∙ prunes.nothing_else.opens
  refusal_notes config name old (Symlink fault) new (required, pruned, unlinked, file, left, prunes, gets, not, removes) =
      new_file_notes config name (kind.made_file unlinked) file left new removes ∙ links config.link not ∙ ap (λ (n : NotedCounts). n.opens) gets.noted ∙ prunes.nothing_else.opens
    where
      links : (link : List ℕ) → FailsToLink kind link name unlinked fault left → SameOpens (kind.noted unlinked) (kind.noted left)
      links [] never = absurd never
      links (b ∷ bs) not = ap (λ (n : NotedCounts). n.opens) not.noted
  refusal_notes config name old Memory new same = ap (λ (s : S). (kind.noted s).opens) same
  refusal_notes config name old Moment new (pruned, prunes, never) = absurd never
  refusal_notes config name old (Name fault) new (pruned, prunes, never) = absurd never
  refusal_notes config name old Limit new (pruned, prunes, never) = absurd never

  closing_notes : (old : S) (file : F) (new : S) → ClosesLast kind old file new → SameOpens (kind.noted old) (kind.noted new)
  closing_notes old file new closes = by closes.answer closes.notes ∙ ap (λ (n : NotedCounts). n.opens) closes.noted
    where
      by : (answer : Result (Unit {0}) Error) → MatchResult answer (λ _. new ≡ closes.flushed) (λ fault. Notes kind closes.flushed (NotedFlush fault) new) → SameOpens (kind.noted closes.flushed) (kind.noted new)
      by (Ok u) same = ap (λ (s : S). (kind.noted s).opens) same
      by (Err fault) notes = ap (λ (n : NotedCounts). n.opens) notes.noted

  looks_note : (m : ℤ) (len : ℕ) (switch : Switch) (old new : Rolling S F) → ChecksClock kind m len switch old new → (kind.noted new.folder).opens ≡ min ((kind.noted old.folder).opens + failed_by switch) (2 ^ 64 - 1)
  looks_note m len Stayed old new stays = let same = ap (λ (r : Rolling S F). (kind.noted r.folder).opens) stays.1 in let fit = within old.folder in omega arith
  looks_note m len Switched old new switches =
      let opened = opening_notes old.config _ old.folder new.file switches.ready switches.opens in
      let closed = closing_notes switches.ready old.file new.folder switches.closes in
      let fit = within old.folder in
      omega arith
  looks_note m len SwitchFailed old new keeps =
      let refused = refusal_notes old.config _ old.folder keeps.reason keeps.refused keeps.refuses in
      let noted = ap (λ (n : NotedCounts). n.opens) keeps.notes.noted in
      omega arith

  pub looks_counted : (m : ℤ) (len : ℕ) (switch : Switch) (old new : Rolling S F) → ChecksClock kind m len switch old new → Counted (failed_by switch) 0 old.folder new.folder
  looks_counted m len switch old new looks =
      let rise = looks_rise kind failures_fit noted_fit m len switch old new looks in
      record { opens = looks_note m len switch old new looks; failures = omega (arith, rise.failures); rise = rise }

  -- ---- writes and flushes

  one_at_most : (T : Type 0) (k : ErrorKind) → faults_in {T = T} (Err k) ≤ 1
  one_at_most T OutOfMemory = omega arith
  one_at_most T k = omega arith

  -- an error is counted, but for want of memory
  fault_counted : {T : Type 0} (old new : ℕ) (answer : Result T Error) → old < 2 ^ 64 → HasCause kind.is_known ⊥ old new answer → min (old + faults_in (by_kind answer)) (2 ^ 64 - 1) ≤ new
  fault_counted old new (Ok x) fit same = omega arith
  fault_counted {T} old new (Err fault) fit (inl risen) = let most = one_at_most T (error_kind fault) in omega arith
  fault_counted old new (Err fault) fit (inr (same, inl memory)) = rw memory (omega arith)
  fault_counted old new (Err fault) fit (inr (same, inr (known, never))) = absurd never

  pub writes_counted : (bytes : List ℕ) (answer : Result ℕ Error) (old new : Rolling S F) → Writes kind bytes answer old new → Counted 0 (faults_in (by_kind answer)) old.folder new.folder
  writes_counted bytes answer old new writes = record {
    opens = omega (arith, ap (λ (n : NotedCounts). n.opens) writes.stays.noted, within old.folder);
    failures = fault_counted (kind.failures old.folder) (kind.failures new.folder) answer (failures_fit old.folder) writes.cause;
    rise = writes_rise kind failures_fit noted_fit bytes answer old new writes;
  }

  pub flushes_counted : (answer : Result (Unit {0}) Error) (old new : Rolling S F) → Flushes kind answer old new → Counted 0 (faults_in (by_kind answer)) old.folder new.folder
  flushes_counted answer old new flushes = record {
    opens = omega (arith, ap (λ (n : NotedCounts). n.opens) flushes.stays.noted, within old.folder);
    failures = fault_counted (kind.failures old.folder) (kind.failures new.folder) answer (failures_fit old.folder) flushes.cause;
    rise = flushes_rise kind failures_fit noted_fit answer old new flushes;
  }
