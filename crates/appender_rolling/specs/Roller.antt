-- An open log file, and what each call of a roller does to it and to the folder. `kind` has the ghost members of a kind of folder.
use Rattle.std.specs.Prelude.{◌≡◌, ◌⊎◌, ℕ, ◌+◌, ◌-◌, ◌≤◌, nat_lt, ◌==◌, if◌then◌else◌, ℤ, ◌<ℤ◌, int_lt, Bool, false, not, ◌&&◌, List, [], length, take, drop, Option, None, Some, Result, Ok, Err, MatchResult, OnOk, IfErr, IsTrue, ◌++◌, ◌∷◌, ◌≢◌}
use Rattle.std.specs.IoError.{error_kind}
use Rattle.std.specs.declared.io.Error.{Error}
use Rattle.std.specs.declared.io.ErrorKind.TheVariants.{Interrupted, WriteZero}
use Rattle.appender_names.specs.declared.error.InitError.{InitError}
use Rattle.appender_names.specs.declared.error.InitError.TheVariants.{Directory, File, Symlink}
use Rattle.appender_store.specs.declared.store.Folder.{Ghosts}
use Rattle.appender_names.specs.declared.rotation.Rotation.{Rotation}
use Rattle.appender_names.specs.Rotation.{is_moment, IsNever, IsBoundary, next_of}
use Rattle.appender_store.specs.Content.{after_append}
use Rattle.appender_store.specs.Folder.{HasCause, NotedFlush, NotedOpen}
use Rattle.appender_store.specs.Notes.{Notes}
use Rattle.appender_retain.specs.Pruning.{IsQuiet}
use Rattle.appender_rolling.specs.Config.{Config, IsStamp, IsLaterStamp, stamp}
use Rattle.appender_rolling.specs.declared.rolling.setup.Stamp.{Stamp}
use Rattle.appender_rolling.specs.Opening.{file_name_of, MayOpen, IsNotReady, FindsNumber, IsFirstRoom, KeepsMaximum, OpensFile, RefusesFile, IsRefusalEffect}
use Rattle.appender_rolling.specs.declared.rolling.Switch.{Switch}
use Rattle.appender_rolling.specs.declared.rolling.Switch.TheVariants.{None as Stayed, Opened as Switched, Failed as SwitchFailed}

-- When the next file begins, which changes only when one does: what the roller was opened with, the stamp of the open file, that of
-- the last attempt, which may have failed, and the second at which the next period begins.
pub record Scheduled : Type 0 where
  pub config : Config
  pub opened : Stamp
  pub last : Stamp
  pub boundary : Option ℤ

-- The open file in its folder, which every write changes, and how many bytes of the limit are left since the last attempt.
pub record OpenFile (S F : Type 0) : Type 0 where
  pub folder : S
  pub file : F
  pub room : ℕ

-- a roller over a folder: both of them
pub record Rolling (S F : Type 0) : Type 0 where
  pub config : Config
  pub folder : S
  pub file : F
  pub opened : Stamp
  pub last : Stamp
  pub boundary : Option ℤ
  pub room : ℕ

abbrev pub rolling_of : {S F : Type 0} → Scheduled → OpenFile S F → Rolling S F
rolling_of s h = record { config = s.config; folder = h.folder; file = h.file; opened = s.opened; last = s.last; boundary = s.boundary; room = h.room }

abbrev pub schedule_of : {S F : Type 0} → Rolling S F → Scheduled
schedule_of r = record { config = r.config; opened = r.opened; last = r.last; boundary = r.boundary }

-- the next boundary is one of the rotation and is after the moment of the open file; there is none exactly under NEVER
pub record IsLaterBoundary (r : Rotation) (opened : ℤ) (boundary : Option ℤ) : Type 0 where
  pub none : boundary ≡ None → IsNever r
  pub never : IsNever r → boundary ≡ None
  pub is_boundary : (b : ℤ) → boundary ≡ Some b → IsBoundary r b
  pub ahead : (b : ℤ) → boundary ≡ Some b → opened <ℤ b

-- What is kept over all calls, of a roller under a lock too, whichever threads take it: the open file has the name of the
-- moment of the last opening that succeeded, and the next boundary is after that moment.
pub record IsOpened (config : Config) (name : List ℕ) (opened : Stamp) (boundary : Option ℤ) : Type 0 where
  pub is_stamp : IsStamp config opened
  pub name_is : name ≡ file_name_of config opened
  pub later_boundary : IsLaterBoundary config.rotation opened.moment boundary

-- The last attempt was for a stamp not before that of the open file, and the next boundary is that of its period.
pub record IsLastAttempt (config : Config) (opened last : Stamp) (boundary : Option ℤ) : Type 0 where
  pub is_stamp : IsStamp config last
  pub not_before : (opened ≡ last) ⊎ IsLaterStamp opened last
  pub boundary_is : boundary ≡ next_of config.rotation last.moment

-- the invariant of every schedule
pub record IsSchedule (config : Config) (name : List ℕ) (opened last : Stamp) (boundary : Option ℤ) : Type 0 where
  pub is_opened : IsOpened config name opened boundary
  pub is_last_attempt : IsLastAttempt config opened last boundary

-- ---- opening

-- a roller was opened
pub record OpensRoller {S F : Type 0} (kind : Ghosts S F) (config : Config) (m : ℤ) (old : S) (new : Rolling S F) : Type 0 where
  pub may_open : MayOpen config m
  pub config_is : new.config ≡ config
  pub number : ℕ
  pub listed : S
  pub finds : FindsNumber kind config m old number listed
  pub opened : new.opened ≡ stamp m number
  pub last : new.last ≡ stamp m number
  pub boundary : new.boundary ≡ next_of config.rotation m
  pub room : IsFirstRoom kind config new.folder new.file new.room
  pub opens : OpensFile kind config (file_name_of config (stamp m number)) listed new.file new.folder

-- The first file was not opened, for this reason.
abbrev pub FailsToOpenFirst : {S F : Type 0} → Ghosts S F → Config → ℤ → S → InitError → S → Type 0
FailsToOpenFirst kind config m old error new = MayOpen config m
    × ((number : ℕ) × (listed : _) × FindsNumber kind config m old number listed × RefusesFile kind config (file_name_of config (stamp m number)) listed error new)

-- No roller was opened, for this reason, and the folder is returned. The checks before the first call of the folder leave it
-- as it was.
abbrev pub OpensNoRoller : {S F : Type 0} → Ghosts S F → Config → ℤ → S → InitError → S → Type 0
OpensNoRoller kind config m old (Directory e) new = FailsToOpenFirst kind config m old (Directory e) new
OpensNoRoller kind config m old (File e) new = FailsToOpenFirst kind config m old (File e) new
OpensNoRoller kind config m old (Symlink e) new = FailsToOpenFirst kind config m old (Symlink e) new
OpensNoRoller kind config m old error new = IsNotReady config m error × (new ≡ old)

-- ---- a check of the clock

-- a boundary is stored that this moment of the range has reached
abbrev pub is_due : Option ℤ → ℤ → Bool
is_due None m = false
is_due (Some b) m = is_moment m && not (int_lt m b)

-- a write asks for one byte at least
abbrev pub room_needed : ℕ → ℕ
room_needed len = if len == 0 then 1 else len

-- Something was written since the last attempt, `len` bytes more (at least one) do not fit in the room, and there is a greater number. Without a
-- limit no room is ever missing.
abbrev pub is_full : Scheduled → ℕ → ℕ → Bool
is_full s room len = nat_lt s.last.number 999999 && nat_lt room s.config.max_bytes && nat_lt room (room_needed len)

-- The stamp for which a check of the clock with `len` bytes to write makes an attempt, if it makes one: if a boundary was reached, the moment
-- and the number 0; else, if the file is full, the last attempt's moment and the number after its own.
abbrev pub next_with : Scheduled → ℕ → ℤ → ℕ → Option Stamp
next_with s room m len =
    if is_due s.boundary m then Some (stamp m 0)
    else if is_full s room len then Some (stamp s.last.moment (s.last.number + 1))
    else None

-- the same of a roller
abbrev pub next_stamp : {S F : Type 0} → Rolling S F → ℤ → ℕ → Option Stamp
next_stamp r m len = next_with (schedule_of r) r.room m len

-- the folder flushed a file that is replaced by the next, and noted a fault
pub record ClosesLast {S F : Type 0} (kind : Ghosts S F) (old : S) (file : F) (new : S) : Type 0 where
  pub answer : Result (Unit {0}) Error
  pub flushed : S
  pub closed : F
  pub call : kind.flush_gives old file answer flushed closed
  pub cause : HasCause kind.is_known ⊥ (kind.failures old) (kind.failures flushed) answer
  pub content : kind.content new ≡ kind.content old
  pub noted : kind.noted flushed ≡ kind.noted old
  pub notes : MatchResult answer (λ _. new ≡ flushed) (λ fault. Notes kind flushed (NotedFlush fault) new)

-- A new file was opened for a stamp that is later than that of the last opening, and replaces the last one.
pub record SwitchesFile {S F : Type 0} (kind : Ghosts S F) (m : ℤ) (len : ℕ) (old new : Rolling S F) : Type 0 where
  pub at_stamp : Stamp
  pub cause : next_stamp old m len ≡ Some at_stamp
  pub later : IsLaterStamp old.opened at_stamp
  pub config_is : new.config ≡ old.config
  pub opened : new.opened ≡ at_stamp
  pub last : new.last ≡ at_stamp
  pub boundary : new.boundary ≡ next_of old.config.rotation at_stamp.moment
  pub room : new.room ≡ old.config.max_bytes
  pub ready : S
  pub opens : OpensFile kind old.config (file_name_of old.config at_stamp) old.folder new.file ready
  pub closes : ClosesLast kind ready old.file new.folder
  pub content : kind.content new.folder ≡ kind.content ready
  -- if the switch noted neither List nor Remove, its opening noted neither
  pub quiet : IsQuiet (kind.noted old.folder) (kind.noted new.folder) → IsQuiet (kind.noted old.folder) (kind.noted ready)
  pub at_most : KeepsMaximum kind old.config (file_name_of old.config at_stamp) old.folder new.folder

-- None was, for a reason which the folder noted: the last file stays open, the next boundary is set, and the folder
-- is left as little changed as the refused opening left it.
pub record KeepsFile {S F : Type 0} (kind : Ghosts S F) (m : ℤ) (len : ℕ) (old new : Rolling S F) : Type 0 where
  pub at_stamp : Stamp
  pub cause : next_stamp old m len ≡ Some at_stamp
  pub later : IsLaterStamp old.opened at_stamp
  pub config_is : new.config ≡ old.config
  pub opened : new.opened ≡ old.opened
  pub last : new.last ≡ at_stamp
  pub boundary : new.boundary ≡ next_of old.config.rotation at_stamp.moment
  pub room : new.room ≡ old.config.max_bytes
  pub file : new.file ≡ old.file
  pub reason : InitError
  pub refused : S
  pub refuses : RefusesFile kind old.config (file_name_of old.config at_stamp) old.folder reason refused
  pub notes : Notes kind refused (NotedOpen reason) new.folder
  pub content : IsTrue kind.is_known → IsRefusalEffect old.config (file_name_of old.config at_stamp) (kind.content old.folder) (kind.content new.folder)

-- What a check of the clock at m does, with `len` bytes to write: nothing at all unless a boundary was reached or the file is full. So
-- without a limit of bytes a moment that isn't later than the last opening switches nothing.
abbrev pub ChecksClock : {S F : Type 0} → Ghosts S F → ℤ → ℕ → Switch → Rolling S F → Rolling S F → Type 0
ChecksClock kind m len Stayed old new = (next_stamp old m len ≡ None) × (new ≡ old)
ChecksClock kind m len Switched old new = SwitchesFile kind m len old new
ChecksClock kind m len SwitchFailed old new = KeepsFile kind m len old new

-- with none to write
abbrev pub ChecksClockOnly : {S F : Type 0} → Ghosts S F → ℤ → Switch → Rolling S F → Rolling S F → Type 0
ChecksClockOnly kind m switch old new = ChecksClock kind m 0 switch old new

-- ---- writing

-- how many bytes an answer counts
abbrev pub written_count : {E : Type 0} → Result ℕ E → ℕ
written_count (Ok n) = n
written_count (Err e) = 0

-- what a write leaves as it was
pub record KeepsOpenFile {S F : Type 0} (kind : Ghosts S F) (old new : Rolling S F) : Type 0 where
  pub config_is : new.config ≡ old.config
  pub opened : new.opened ≡ old.opened
  pub last : new.last ≡ old.last
  pub boundary : new.boundary ≡ old.boundary
  pub file : kind.body new.file ≡ kind.body old.file
  pub noted : kind.noted new.folder ≡ kind.noted old.folder

-- A write of these bytes: an `Ok(n)` added the first n of them to the open file, an `Err` added none.
pub record Writes {S F : Type 0} (kind : Ghosts S F) (bytes : List ℕ) (answer : Result ℕ Error) (old new : Rolling S F) : Type 0 where
  pub call : kind.append_gives old.folder old.file bytes answer new.folder new.file
  pub bound : written_count answer ≤ length bytes
  pub content : IsTrue kind.is_known → kind.content new.folder ≡ after_append (kind.content old.folder) (kind.body old.file) (take (written_count answer) bytes)
  pub cause : HasCause kind.is_known ⊥ (kind.failures old.folder) (kind.failures new.folder) answer
  pub stays : KeepsOpenFile kind old new
  pub room : new.room ≡ old.room - written_count answer

-- more is written after a write that took some of its bytes, and after one that was interrupted
abbrev pub IsContinued : Result ℕ Error → Type 0
IsContinued (Ok n) = n ≢ 0
IsContinued (Err e) = error_kind e ≡ Interrupted

-- so do all of them
abbrev pub AreContinued : List (Result ℕ Error) → Type 0
AreContinued [] = Unit {0}
AreContinued (answer ∷ answers) = IsContinued answer × AreContinued answers

-- Writes with these answers, the newest first, each of what those before it left of the bytes. All but the newest go on, and this
-- rest is left.
abbrev pub WritesPieces : {S F : Type 0} → Ghosts S F → List (Result ℕ Error) → List ℕ → Rolling S F → List ℕ → Rolling S F → Type 0
WritesPieces kind [] bytes start rest now = (rest ≡ bytes) × (now ≡ start)
WritesPieces {S} {F} kind (answer ∷ before) bytes start rest now =
    (left : List ℕ) × (last : Rolling S F) × WritesPieces kind before bytes start left last × (left ≢ []) × AreContinued before
    × Writes kind left answer last now × (rest ≡ drop (written_count answer) left)

-- Why none follows the writes with these answers: the newest has this very fault and wasn't interrupted, or it took nothing, or they
-- are 2^64 - 1, after which a loop ends.
abbrev pub EndsWrites : List (Result ℕ Error) → Error → Type 0
EndsWrites [] fault = ⊥
EndsWrites (Ok n ∷ before) fault = ((n ≡ 0) × (error_kind fault ≡ WriteZero)) ⊎ (length before ≡ 18446744073709551614)
EndsWrites (Err e ∷ before) fault = ((e ≡ fault) × (error_kind e ≢ Interrupted)) ⊎ (length before ≡ 18446744073709551614)

-- They leave this rest of the bytes; what they took is after what the open file held, and nothing else has changed.
pub record WritesSoFar {S F : Type 0} (kind : Ghosts S F) (answers : List (Result ℕ Error)) (bytes rest : List ℕ) (old new : Rolling S F) : Type 0 where
  pub pieces : WritesPieces kind answers bytes old rest new
  pub taken : List ℕ
  pub split : bytes ≡ taken ++ rest
  pub content : IsTrue kind.is_known → kind.content new.folder ≡ after_append (kind.content old.folder) (kind.body old.file) taken
  pub stays : KeepsOpenFile kind old new
  pub room : new.room ≡ old.room - length taken

-- Bytes were written so. After an `Ok` nothing of them is left, and an error has its reason.
pub record WritesAll {S F : Type 0} (kind : Ghosts S F) (bytes : List ℕ) (answer : Result (Unit {0}) Error) (old new : Rolling S F) : Type 0 where
  pub answers : List (Result ℕ Error)
  pub rest : List ℕ
  pub so_far : WritesSoFar kind answers bytes rest old new
  pub whole : OnOk answer (rest ≡ [])
  pub stops : IfErr answer (λ fault. EndsWrites answers fault)

-- A check of the clock with these bytes to write, and then the write.
pub record Puts {S F : Type 0} (kind : Ghosts S F) (m : ℤ) (bytes : List ℕ) (switch : Switch) (answer : Result ℕ Error) (old new : Rolling S F) : Type 0 where
  pub between : Rolling S F
  pub looks : ChecksClock kind m (length bytes) switch old between
  pub writes : Writes kind bytes answer between new

-- A flush of the open file changes no content.
pub record Flushes {S F : Type 0} (kind : Ghosts S F) (answer : Result (Unit {0}) Error) (old new : Rolling S F) : Type 0 where
  pub call : kind.flush_gives old.folder old.file answer new.folder new.file
  pub content : kind.content new.folder ≡ kind.content old.folder
  pub cause : HasCause kind.is_known ⊥ (kind.failures old.folder) (kind.failures new.folder) answer
  pub stays : KeepsOpenFile kind old new
  pub room : new.room ≡ old.room

-- ---- the open file by itself

-- this relation leads from a roller with this open file to one with that, whenever the next file begins
abbrev pub OfAnySchedule : {S F : Type 0} → (Rolling S F → Rolling S F → Type 0) → OpenFile S F → OpenFile S F → Type 0
OfAnySchedule leads old new = (s : Scheduled) → leads (rolling_of s old) (rolling_of s new)
