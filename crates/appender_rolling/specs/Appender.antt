-- An appender: a roller that a clock is read for. `kind` has the ghost members of a kind of folder, and `time` those of a kind of clock.
use Rattle.std.specs.Prelude.{◌≡◌, ◌⊎◌, ℕ, ℤ, Bool, true, false, List, length, Result, is_some}
use Rattle.std.specs.declared.io.Error.{Error}
use Rattle.appender_names.specs.declared.error.InitError.{InitError}
use Rattle.appender_names.specs.declared.error.InitError.TheVariants.{Memory}
use Rattle.appender_names.specs.declared.rotation.Rotation.{Rotation}
use Rattle.appender_store.specs.declared.store.Folder.{Ghosts}
use Rattle.appender_runtime.specs.declared.clock.Clock.{Ghosts as Readings}
use Rattle.appender_rolling.specs.declared.rolling.Switch.{Switch}
use Rattle.appender_rolling.specs.Config.{Config, defaults, is_limited}
use Rattle.appender_rolling.specs.Roller.{Rolling, Scheduled, OpenFile, rolling_of, OpensRoller, OpensNoRoller, ChecksClock, Writes, WritesAll, Puts, Flushes, is_due, next_stamp}

-- only these are set
abbrev pub plain_config : Rotation → List ℕ → Config
plain_config rotation prefix = record defaults { rotation = rotation; prefix = prefix }

-- ---- for one thread

pub record Appending (S F C : Type 0) : Type 0 where
  pub roller : Rolling S F
  pub clock : C

-- the clock was read, and the bytes were put at the moment that it returned
pub record PutsNow {S F C : Type 0} (kind : Ghosts S F) (time : Readings C) (bytes : List ℕ) (switch : Switch) (answer : Result ℕ Error) (old new : Appending S F C) : Type 0 where
  pub moment : ℤ
  pub reading : time.now_gives old.clock moment
  pub puts : Puts kind moment bytes switch answer old.roller new.roller
  pub clock : new.clock ≡ old.clock

-- the same by a write, which doesn't return the switch
abbrev pub WritesNow : {S F C : Type 0} → Ghosts S F → Readings C → List ℕ → Result ℕ Error → Appending S F C → Appending S F C → Type 0
WritesNow kind time bytes answer old new = (switch : Switch) × PutsNow kind time bytes switch answer old new

-- The clock was read, and checked for all of the bytes at the moment that it returned. Then they were written to the open file.
pub record WritesAllNow {S F C : Type 0} (kind : Ghosts S F) (time : Readings C) (bytes : List ℕ) (answer : Result (Unit {0}) Error) (old new : Appending S F C) : Type 0 where
  pub moment : ℤ
  pub reading : time.now_gives old.clock moment
  pub switch : Switch
  pub between : Rolling S F
  pub looks : ChecksClock kind moment (length bytes) switch old.roller between
  pub writes : WritesAll kind bytes answer between new.roller
  pub clock : new.clock ≡ old.clock

-- the bytes were added to the open file by one append, and the clock not read
pub record AppendsNow {S F C : Type 0} (kind : Ghosts S F) (bytes : List ℕ) (answer : Result ℕ Error) (old new : Appending S F C) : Type 0 where
  pub writes : Writes kind bytes answer old.roller new.roller
  pub clock : new.clock ≡ old.clock

-- the open file was flushed, and the clock not read
pub record FlushesNow {S F C : Type 0} (kind : Ghosts S F) (answer : Result (Unit {0}) Error) (old new : Appending S F C) : Type 0 where
  pub flushes : Flushes kind answer old.roller new.roller
  pub clock : new.clock ≡ old.clock

-- the clock was read, and a roller was opened at the moment that it returned
pub record OpensNow {S F C : Type 0} (kind : Ghosts S F) (time : Readings C) (config : Config) (folder : S) (clock : C) (new : Appending S F C) : Type 0 where
  pub moment : ℤ
  pub reading : time.now_gives clock moment
  pub opens : OpensRoller kind config moment folder new.roller
  pub clock_is : new.clock ≡ clock

-- the same in some folder, by some clock
abbrev pub OpensInSomeFolder : {S F C : Type 0} → Ghosts S F → Readings C → Config → Appending S F C → Type 0
OpensInSomeFolder {S} {F} {C} kind time config new = (folder : S) × (clock : C) × OpensNow kind time config folder clock new

-- it was read, and none was opened, for this reason
pub record OpensNone {S F C : Type 0} (kind : Ghosts S F) (time : Readings C) (config : Config) (folder : S) (clock : C) (error : InitError) (left : S) (same : C) : Type 0 where
  pub moment : ℤ
  pub reading : time.now_gives clock moment
  pub refuses : OpensNoRoller kind config moment folder error left
  pub clock_is : same ≡ clock

-- the same in some folder, by some clock, or memory was refused before
abbrev pub OpensNoneInSomeFolder : {S F C : Type 0} → Ghosts S F → Readings C → Config → InitError → Type 0
OpensNoneInSomeFolder {S} {F} {C} kind time config error =
    (error ≡ Memory) ⊎ ((folder : S) × (clock : C) × (left : S) × (same : C) × OpensNone kind time config folder clock error left same)

-- ---- for many threads

-- What is seen of an appender that threads share: its clock. The roller has a lock, so of each call it is known what
-- it did to the roller that it found there, and not which one that was.
pub record SharedLog (C : Type 0) : Type 0 where
  pub clock : C

-- a log was opened with this in a folder, at the moment that the clock returned, and is shared
pub record SharesNow {S F C : Type 0} (kind : Ghosts S F) (time : Readings C) (config : Config) (folder : S) (clock : C) (new : SharedLog C) : Type 0 where
  pub file : Appending S F C
  pub opens : OpensNow kind time config folder clock file
  pub clock_is : new.clock ≡ clock

-- the same in some folder, by some clock
abbrev pub SharesInSomeFolder : {S F C : Type 0} → Ghosts S F → Readings C → Config → SharedLog C → Type 0
SharesInSomeFolder {S} {F} {C} kind time config new = (folder : S) × (clock : C) × SharesNow kind time config folder clock new

-- What is seen of a writer: when the next file begins. None does before the writer is dropped.
abbrev pub WriterSchedule : Type 0
WriterSchedule = Scheduled

-- Whether a check of the clock would begin the next file was asked. With a limit of bytes, the answer is for the room that the open
-- file was found with.
pub record SomeRollerIsDue {S F : Type 0} (kind : Ghosts S F) (s : Scheduled) (m : ℤ) (answer : Bool) : Type 0 where
  pub plain : is_limited s.config ≡ false → answer ≡ is_due s.boundary m
  pub limited : is_limited s.config ≡ true → (found : OpenFile S F) × (answer ≡ is_some (next_stamp (rolling_of s found) m 0))

-- This relation leads from a roller with this schedule to one with that: so its lock was found, and so it was left.
pub record OfSomeRoller {S F : Type 0} (leads : Rolling S F → Rolling S F → Type 0) (old new : Scheduled) : Type 0 where
  pub found : OpenFile S F
  pub left : OpenFile S F
  pub holds : leads (rolling_of old found) (rolling_of new left)

-- The clock was read, and at the moment that it returned no boundary was reached.
pub record NoFileIsDueNow {S F C : Type 0} (kind : Ghosts S F) (time : Readings C) (clock : C) (s : WriterSchedule) : Type 0 where
  pub moment : ℤ
  pub reading : time.now_gives clock moment
  pub in_its_period : is_due s.boundary moment ≡ false

-- the clock was read, and the bytes were put into a roller at the moment that it returned
pub record PutsAtClock {S F C : Type 0} (kind : Ghosts S F) (time : Readings C) (clock : C) (bytes : List ℕ) (answer : Result ℕ Error) : Type 0 where
  pub moment : ℤ
  pub reading : time.now_gives clock moment
  pub old : Scheduled
  pub new : Scheduled
  pub switch : Switch
  pub puts : OfSomeRoller (Puts kind moment bytes switch answer) old new
