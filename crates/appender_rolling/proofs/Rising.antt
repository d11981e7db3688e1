-- No part of a run lowers a count, and an absent folder is noted.
use Rattle.std.proofs.Common.{Option, None, Some, zero, suc, if◌then◌else◌, ◌≡◌, ◌∙◌, ◌⊎◌, ℕ, ◌^◌, ◌<◌, ℤ, Bool, true, false, List, [], ◌∷◌, length, map, Result, Ok, Err, MatchResult, Vec, IsTrue, arith, ap, inl, inr, refl, sym}
use Rattle.std.specs.Prelude.{OnOk}
use Rattle.std.specs.declared.alloc.Global.{Global}
use Rattle.std.specs.declared.io.Error.{Error}
use Rattle.appender_names.specs.declared.error.InitError.{InitError}
use Rattle.appender_names.specs.declared.error.InitError.TheVariants.{Directory, File, Symlink, Moment, Name, Memory, Limit}
use Rattle.appender_store.specs.Content.{ForbidsList, ForbidsOpen, ForbidsRemove, ForbidsRemoveLink}
use Rattle.appender_store.specs.Folder.{AreNotedCounts, NotedCounts, NotedList, NotedFlush, NotedOpen, listed_row, next_count}
use Rattle.appender_store.specs.Notes.{CountsRise, Notes}
use Rattle.appender_store.specs.declared.store.Folder.{Ghosts}
use Rattle.appender_store.specs.declared.store.Listed.{Listed}
use Rattle.appender_store.proofs.Rising.{cause_rises, equal_notes_rise, same_rises, rises_on, call_rises, note_rises, fault_rises}
use Rattle.appender_retain.proofs.Rising.{prunes_rise}
use Rattle.appender_rolling.specs.Config.{Config, log_files_of, is_limited, max_before, max_after}
use Rattle.appender_rolling.specs.Opening.{IsFirstNumber, IsListed, ListsNumbers, FindsNumber, OpensDirectly, RefusesDirectly, MakesFolder, OpensInNewFolder, OpensNamedFile, FailsToOpen, TriesRemoveLink, BlocksLink, LinksTo, FailsToLink, TriesLink, TriesRemove, RemovesEmpty, RemovesNewFile, OpensFile, RefusesFile}
use Rattle.appender_rolling.specs.Roller.{Rolling, ClosesLast, ChecksClock, Writes, Puts, Flushes}
use Rattle.appender_rolling.specs.declared.rolling.Switch.{Switch}
use Rattle.appender_rolling.specs.declared.rolling.Switch.TheVariants.{None as Stayed, Opened as Switched, Failed as SwitchFailed}

module _ {S F : Type 0} (kind : Ghosts S F) (failures_fit : (s : S) → kind.failures s < 2 ^ 64) (noted_fit : (s : S) → AreNotedCounts (kind.noted s)) where
  -- ---- the number of the first file

  numbers_rise : (c : Config) (m : ℤ) (old : S) (number : ℕ) (new : S) → ListsNumbers kind c m old number new → CountsRise kind old new
  numbers_rise c m old number new l =
      rises_on kind old l.listed new (call_rises kind (ForbidsList (kind.content old)) l.answer old l.listed (failures_fit old) l.cause l.noted) (by l.answer l.number_is)
    where
      by : (answer : Result (Vec Listed Global) Error) → MatchResult answer (λ all. IsFirstNumber c m (IsListed (map listed_row all.items)) number × (new ≡ l.listed)) (λ fault. (number ≡ 0) × Notes kind l.listed (NotedList fault) new) → CountsRise kind l.listed new
      by (Ok all) is = same_rises kind l.listed new is.1
      by (Err fault) is = note_rises kind noted_fit l.listed (NotedList fault) new is.1

  pub finds_rise : (config : Config) (m : ℤ) (old : S) (number : ℕ) (new : S) → FindsNumber kind config m old number new → CountsRise kind old new
  finds_rise config m old number new finds = by (is_limited config) refl
    where
      by : (limited : Bool) → is_limited config ≡ limited → CountsRise kind old new
      by false e = same_rises kind old new (finds.none e).1
      by true e = numbers_rise config m old number new (finds.calls e)

  -- ---- the file

  at_once_rises : (name : List ℕ) (old : S) (file : F) (new : S) → OpensDirectly kind name old file new → CountsRise kind old new
  at_once_rises name old file new opens = equal_notes_rise kind old new (omega (arith, opens.failures)) opens.noted

  made_rises : (old new : S) → MakesFolder kind old new → CountsRise kind old new
  made_rises old new makes = equal_notes_rise kind old new (omega (arith, makes.failures)) makes.noted

  refused_rises : (name : List ℕ) (old : S) (fault : Error) (new : S) → RefusesDirectly kind name old fault new → CountsRise kind old new
  refused_rises name old fault new refuses = call_rises kind {T = F} (ForbidsOpen name (kind.content old)) (Err fault) old new (failures_fit old) refuses.cause refuses.noted

  gets_rise : (name : List ℕ) (old : S) (file : F) (new : S) → OpensNamedFile kind name old file new → CountsRise kind old new
  gets_rise name old file new gets = by gets.calls
    where
      by : OpensDirectly kind name old file new ⊎ OpensInNewFolder kind name old file new → CountsRise kind old new
      by (inl opens) = at_once_rises name old file new opens
      by (inr made) =
          rises_on kind old made.refused new (refused_rises name old made.fault made.refused made.first)
          (rises_on kind made.refused made.ready new (made_rises made.refused made.ready made.makes) (at_once_rises name made.ready file new made.second))

  gets_no_rise : (name : List ℕ) (old : S) (error : InitError) (new : S) → FailsToOpen kind name old error new → CountsRise kind old new
  gets_no_rise name old (Directory fault) new none =
      let first = refused_rises name old none.first_fault none.refused none.first in
      let second = cause_rises {T = Unit {0}} kind.is_known ⊥ (kind.failures none.refused) (kind.failures new) (Err fault) (failures_fit none.refused) none.cause in
      equal_notes_rise kind old new (omega (arith, first.failures, second)) none.noted
  gets_no_rise name old (File fault) new none =
      rises_on kind old none.refused new (refused_rises name old none.first_fault none.refused none.first)
      (rises_on kind none.refused none.ready new (made_rises none.refused none.ready none.makes) (refused_rises name none.ready fault new none.second))
  gets_no_rise name old (Symlink fault) new never = absurd never
  gets_no_rise name old Moment new never = absurd never
  gets_no_rise name old (Name fault) new never = absurd never
  gets_no_rise name old Memory new never = absurd never
  gets_no_rise name old Limit new never = absurd never

  -- ---- the link

  removal_rises : (link : List ℕ) (old new : S) → TriesRemoveLink kind link old new → CountsRise kind old new
  removal_rises link old new removes = call_rises kind (ForbidsRemoveLink link (kind.content old)) removes.answer old new (failures_fit old) removes.cause removes.noted

  links_rise : (link name : List ℕ) (old new : S) → LinksTo kind link name old new → CountsRise kind old new
  links_rise [] name old new same = same_rises kind old new same
  links_rise (b ∷ bs) name old new relinks =
      let removal = removal_rises (b ∷ bs) old relinks.freed relinks.removes in
      equal_notes_rise kind old new (omega (arith, removal.failures, relinks.failures)) relinks.noted

  links_not_rise : (link name : List ℕ) (old : S) (fault : Error) (new : S) → FailsToLink kind link name old fault new → CountsRise kind old new
  links_not_rise [] name old fault new never = absurd never
  links_not_rise (b ∷ bs) name old fault new relinks_not =
      let removal = removal_rises (b ∷ bs) old relinks_not.freed relinks_not.removes in
      let making = cause_rises {T = Unit {0}} kind.is_known (BlocksLink kind (b ∷ bs) old relinks_not.freed) (kind.failures relinks_not.freed) (kind.failures new) (Err fault) (failures_fit relinks_not.freed) relinks_not.cause in
      equal_notes_rise kind old new (omega (arith, removal.failures, making)) relinks_not.noted

  tries_rise : (config : Config) (name : List ℕ) (old new : S) → TriesLink kind config name old new → CountsRise kind old new
  tries_rise config name old new (inl links) = links_rise config.link name old new links
  tries_rise config name old new (inr (optional, fault, links_not)) = links_not_rise config.link name old fault new links_not

  -- ---- a new file whose link was refused

  removes_rise : (name : List ℕ) (old new : S) → TriesRemove kind name old new → CountsRise kind old new
  removes_rise name old new removes = call_rises kind (ForbidsRemove name (kind.content old)) removes.answer old new (failures_fit old) removes.cause removes.noted

  empty_rises : (name : List ℕ) (file : F) (old new : S) → RemovesEmpty kind name file old new → CountsRise kind old new
  empty_rises name file old new asks = by asks.answer refl
    where
      by : (answer : Option ℕ) → asks.answer ≡ answer → CountsRise kind old new
      by None is = same_rises kind old new (asks.other (λ same. absurd (let both : ◌≡◌ {A = Option ℕ} None (Some 0) = sym is ∙ same in cc)))
      by (Some zero) is = removes_rise name old new (asks.empty is)
      by (Some (suc n)) is = same_rises kind old new (asks.other (λ same. absurd (let both : ◌≡◌ {A = Option ℕ} (Some (suc n)) (Some 0) = sym is ∙ same in cc)))

  new_file_rises : (config : Config) (name : List ℕ) (made : Bool) (file : F) (old new : S) → RemovesNewFile kind config name made file old new → CountsRise kind old new
  new_file_rises config name made file old new removes = by config.by_name made refl refl
    where
      by : (by_name m : Bool) → config.by_name ≡ by_name → made ≡ m → CountsRise kind old new
      by false m is_by is_made = same_rises kind old new (removes.other (inl is_by))
      by true false is_by is_made = same_rises kind old new (removes.other (inr is_made))
      by true true is_by is_made = empty_rises name file old new (removes.new_file is_by is_made)

  -- ---- an opening, and a refused one

  pub opens_rise : (config : Config) (name : List ℕ) (old : S) (file : F) (new : S) → OpensFile kind config name old file new → CountsRise kind old new
  opens_rise config name old file new opens =
      rises_on kind old opens.pruned new (prunes_rise kind failures_fit noted_fit (log_files_of config (Some name)) (max_before config) old opens.pruned opens.prunes)
      (rises_on kind opens.pruned opens.unlinked new (gets_rise name opens.pruned file opens.unlinked opens.gets)
      (rises_on kind opens.unlinked opens.linked new (tries_rise config name opens.unlinked opens.linked opens.links)
      (prunes_rise kind failures_fit noted_fit (log_files_of config (Some name)) (max_after config) opens.linked new opens.prunes_last)))

  pub refuses_rise : (config : Config) (name : List ℕ) (old : S) (error : InitError) (new : S) → RefusesFile kind config name old error new → CountsRise kind old new
  refuses_rise config name old (Directory fault) new (pruned, prunes, none) =
      rises_on kind old pruned new (prunes_rise kind failures_fit noted_fit (log_files_of config (Some name)) (max_before config) old pruned prunes) (gets_no_rise name pruned (Directory fault) new none)
  refuses_rise config name old (File fault) new (pruned, prunes, none) =
      rises_on kind old pruned new (prunes_rise kind failures_fit noted_fit (log_files_of config (Some name)) (max_before config) old pruned prunes) (gets_no_rise name pruned (File fault) new none)
  refuses_rise config name old (Symlink fault) new (required, pruned, unlinked, file, left, prunes, gets, links_not, removes) =
      rises_on kind old pruned new (prunes_rise kind failures_fit noted_fit (log_files_of config (Some name)) (max_before config) old pruned prunes)
      (rises_on kind pruned unlinked new (gets_rise name pruned file unlinked gets)
      (rises_on kind unlinked left new (links_not_rise config.link name unlinked fault left links_not) (new_file_rises config name (kind.made_file unlinked) file left new removes)))
  refuses_rise config name old Memory new same = same_rises kind old new same
  refuses_rise config name old Moment new (pruned, prunes, never) = absurd never
  refuses_rise config name old (Name fault) new (pruned, prunes, never) = absurd never
  refuses_rise config name old Limit new (pruned, prunes, never) = absurd never

  -- ---- a check of the clock

  pub closes_rise : (old : S) (file : F) (new : S) → ClosesLast kind old file new → CountsRise kind old new
  closes_rise old file new closes =
      rises_on kind old closes.flushed new (call_rises kind ⊥ closes.answer old closes.flushed (failures_fit old) closes.cause closes.noted)
      (fault_rises kind noted_fit NotedFlush closes.answer closes.flushed new closes.notes)

  pub looks_rise : (m : ℤ) (len : ℕ) (switch : Switch) (old new : Rolling S F) → ChecksClock kind m len switch old new → CountsRise kind old.folder new.folder
  looks_rise m len Stayed old new stays = same_rises kind old.folder new.folder (ap (λ (r : Rolling S F). r.folder) stays.1)
  looks_rise m len Switched old new switches =
      rises_on kind old.folder switches.ready new.folder (opens_rise old.config _ old.folder new.file switches.ready switches.opens) (closes_rise switches.ready old.file new.folder switches.closes)
  looks_rise m len SwitchFailed old new keeps =
      rises_on kind old.folder keeps.refused new.folder (refuses_rise old.config _ old.folder keeps.reason keeps.refused keeps.refuses) (note_rises kind noted_fit keeps.refused (NotedOpen keeps.reason) new.folder keeps.notes)

  -- ---- writing

  pub writes_rise : (bytes : List ℕ) (answer : Result ℕ Error) (old new : Rolling S F) → Writes kind bytes answer old new → CountsRise kind old.folder new.folder
  writes_rise bytes answer old new writes = call_rises kind ⊥ answer old.folder new.folder (failures_fit old.folder) writes.cause writes.stays.noted

  pub puts_rise : (m : ℤ) (bytes : List ℕ) (switch : Switch) (answer : Result ℕ Error) (old new : Rolling S F) → Puts kind m bytes switch answer old new → CountsRise kind old.folder new.folder
  puts_rise m bytes switch answer old new puts =
      rises_on kind old.folder puts.between.folder new.folder (looks_rise m (length bytes) switch old puts.between puts.looks) (writes_rise bytes answer puts.between new puts.writes)

  pub flushes_rise : (answer : Result (Unit {0}) Error) (old new : Rolling S F) → Flushes kind answer old new → CountsRise kind old.folder new.folder
  flushes_rise answer old new flushes = call_rises kind ⊥ answer old.folder new.folder (failures_fit old.folder) flushes.cause flushes.stays.noted

-- files are removed before an opening or after it
none_after : (c : Config) → 0 < max_before c → max_after c ≡ 0
none_after c some = by c.by_name some
  where
    by : (by_name : Bool) → 0 < (if by_name then 0 else c.max_files) → (if by_name then c.max_files else 0) ≡ 0
    by true some = absurd (omega (arith, some))
    by false some = refl

module _ {S F : Type 0} (kind : Ghosts S F) where
  -- the listing of an absent folder is noted
  pub absent_finds : (config : Config) (m : ℤ) (old : S) (number : ℕ) (new : S) → FindsNumber kind config m old number new → is_limited config ≡ true → IsTrue kind.is_known → (kind.content old).there ≡ false → (kind.noted new).lists ≡ next_count (kind.noted old).lists
  absent_finds config m old number new finds limited is_known absent = by l.answer l.there l.number_is
    where
      l : ListsNumbers kind config m old number new
      l = finds.calls limited

      by : (answer : Result (Vec Listed Global) Error) → OnOk answer (IsTrue kind.is_known → (kind.content old).there ≡ true) → MatchResult answer (λ all. IsFirstNumber config m (IsListed (map listed_row all.items)) number × (new ≡ l.listed)) (λ fault. (number ≡ 0) × Notes kind l.listed (NotedList fault) new) → (kind.noted new).lists ≡ next_count (kind.noted old).lists
      by (Ok all) there is = absurd (let both : true ≡ false = sym (there is_known) ∙ absent in cc)
      by (Err fault) there is = ap (λ (n : NotedCounts). n.lists) is.1.noted ∙ ap (λ (n : NotedCounts). next_count n.lists) l.noted

  -- so is that of retention before the opening, if a maximum is set
  pub absent_opens : (config : Config) (name : List ℕ) (old : S) (file : F) (new : S) → OpensFile kind config name old file new → 0 < max_before config → IsTrue kind.is_known → (kind.content old).there ≡ false → (kind.noted new).lists ≡ next_count (kind.noted old).lists
  absent_opens config name old file new opens some is_known absent =
      let last : new ≡ opens.linked = opens.prunes_last.none (none_after config some) in
      ap (λ (s : S). (kind.noted s).lists) last ∙ ap (λ (n : NotedCounts). n.lists) opens.noted ∙ opens.prunes.absent some is_known absent
