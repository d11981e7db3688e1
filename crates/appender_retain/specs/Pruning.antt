-- What retention does to a folder. `kind` has the ghost members of a kind of folder.
use Rattle.std.specs.Prelude.{◌≡◌, ◌≢◌, ◌⊎◌, ℕ, ◌-◌, ◌^◌, ◌<◌, true, false, List, [], ◌∷◌, map, filter_map, Option, Result, Vec, MatchResult, IfOk, OnOk, OnErr, IsTrue, slice_get, option_and_then}
use Rattle.std.specs.IoError.{error_kind}
use Rattle.std.specs.declared.alloc.Global.{Global}
use Rattle.std.specs.declared.io.Error.{Error}
use Rattle.std.specs.declared.io.ErrorKind.TheVariants.{OutOfMemory}
use Rattle.appender_store.specs.Content.{Removes, ForbidsList}
use Rattle.appender_store.specs.Folder.{NotedCounts, HasCause, Lists, Row, NotedList, NotedRemove, listed_row, next_count}
use Rattle.appender_store.specs.Notes.{Notes}
use Rattle.appender_store.specs.declared.store.Folder.{Ghosts}
use Rattle.appender_store.specs.declared.store.Listed.{Listed}
use Rattle.appender_retain.specs.Rank.{IsPlan, LogFiles}
use Rattle.appender_retain.specs.Survival.{RemovesOnlyOld, KeepsSurvivors, candidates_in}

-- the name listed at a place, if it can be read
abbrev pub listed_name_at : List Row → ℕ → Option (List ℕ)
listed_name_at rows place = option_and_then (λ row. row.0) (slice_get rows place)

-- The folder removed the file of this name, or noted the fault: it failed by itself, or had no memory for it.
pub record RemovesFile {S F : Type 0} (kind : Ghosts S F) (name : List ℕ) (old new : S) : Type 0 where
  pub answer : Result (Unit {0}) Error
  pub after : S
  pub call : kind.remove_gives old name answer after
  pub cause : HasCause kind.is_known ⊥ (kind.failures old) (kind.failures after) answer
  pub ok : OnOk answer (IsTrue kind.is_known → Removes name (kind.content old) (kind.content after))
  pub err : OnErr answer (kind.content after ≡ kind.content old)
  pub noted : kind.noted after ≡ kind.noted old
  pub notes : MatchResult answer (λ _. new ≡ after) (λ fault. Notes kind after (NotedRemove name fault) new)

-- the same for each of these, one after another
abbrev pub RemovesEach : {S F : Type 0} → Ghosts S F → List (List ℕ) → S → S → Type 0
RemovesEach kind [] old new = new ≡ old
RemovesEach kind (name ∷ names) old new = (between : _) × RemovesFile kind name old between × RemovesEach kind names between new

-- it removes what doesn't survive of these rows; without memory for the plan it notes that instead
abbrev pub RemovesPlanned : {S F : Type 0} → Ghosts S F → LogFiles → ℕ → List Row → S → S → Type 0
RemovesPlanned kind log max rows old new =
    ((gone : List ℕ) × IsPlan log max rows gone × RemovesEach kind (filter_map (listed_name_at rows) gone) old new)
    ⊎ ((fault : Error) × (error_kind fault ≡ OutOfMemory) × Notes kind old (NotedList fault) new)

-- The folder was listed, and what doesn't survive removed; of a listing that was refused it noted that, and nothing was removed.
pub record PrunesListed {S F : Type 0} (kind : Ghosts S F) (log : LogFiles) (max : ℕ) (old new : S) : Type 0 where
  pub answer : Result (Vec Listed Global) Error
  pub listed : S
  pub call : kind.list_gives old answer listed
  pub cause : HasCause kind.is_known (ForbidsList (kind.content old)) (kind.failures old) (kind.failures listed) answer
  pub lists : IfOk answer (λ all. IsTrue kind.is_known → Lists (kind.content old) all.items)
  pub there : OnOk answer (IsTrue kind.is_known → (kind.content old).there ≡ true)
  pub content : kind.content listed ≡ kind.content old
  pub noted : kind.noted listed ≡ kind.noted old
  pub goes_on : MatchResult answer (λ all. RemovesPlanned kind log max (map listed_row all.items) listed new)
      (λ fault. Notes kind listed (NotedList fault) new)

-- Neither List nor Remove was noted. At the greatest count one notice more changes nothing, so equal counts show this only
-- below it.
pub record IsQuiet (old new : NotedCounts) : Type 0 where
  pub lists : new.lists ≡ old.lists
  pub removes : new.removes ≡ old.removes
  pub below : (new.lists < 2 ^ 64 - 1) × (new.removes < 2 ^ 64 - 1)

-- nor anything else
pub record NotesNothingElse (old new : NotedCounts) : Type 0 where
  pub flushes : new.flushes ≡ old.flushes
  pub opens : new.opens ≡ old.opens

-- What retention with a maximum does to a folder, which is nothing where the maximum is 0: its calls, that it removes
-- only names that don't survive, and, where it noted no fault, all of them, so that fewer candidates than the maximum are left.
-- Of an absent folder List is noted.
pub record Prunes {S F : Type 0} (kind : Ghosts S F) (log : LogFiles) (max : ℕ) (old new : S) : Type 0 where
  pub none : max ≡ 0 → new ≡ old
  pub calls : max ≢ 0 → PrunesListed kind log max old new
  pub only_old : IsTrue kind.is_known → RemovesOnlyOld log max (kind.content old) (kind.content new)
  pub survivors : IsQuiet (kind.noted old) (kind.noted new) → IsTrue kind.is_known → KeepsSurvivors log max (kind.content old) (kind.content new)
  pub fewer : IsQuiet (kind.noted old) (kind.noted new) → IsTrue kind.is_known → 0 < max → candidates_in log (kind.content new) < max
  pub absent : 0 < max → IsTrue kind.is_known → (kind.content old).there ≡ false → (kind.noted new).lists ≡ next_count (kind.noted old).lists
  pub nothing_else : NotesNothingElse (kind.noted old) (kind.noted new)
