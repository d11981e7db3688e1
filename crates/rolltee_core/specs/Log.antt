-- The log of a run. `kind` has the ghost members of a kind of folder, and `time` those of a kind of clock.
use Rattle.std.specs.Prelude.{◌≡◌, ◌≢◌, ◌⊎◌, ℕ, ℤ, ◌+◌, ◌-◌, ◌^◌, min, IsErr, List, [], ◌∷◌, length, take, Ok, Err, Result, Bool, true, false, ◌&&◌, ◌||◌, ◌==◌, if◌then◌else◌, not, nat_lt, IsTrue}
use Rattle.std.specs.Io.BufRead.{ends_with_byte}
use Rattle.std.specs.IoError.{error_kind}
use Rattle.std.specs.declared.io.Error.{Error}
use Rattle.std.specs.declared.io.ErrorKind.TheVariants.{OutOfMemory, Interrupted}
use Rattle.appender_names.specs.declared.error.InitError.TheVariants.{File as FileRefused}
use Rattle.appender_names.specs.declared.rotation.Rotation.{Rotation}
use Rattle.appender_store.specs.Content.{body_at}
use Rattle.appender_store.specs.declared.store.Folder.{Ghosts}
use Rattle.appender_rolling.specs.declared.rolling.Switch.{Switch}
use Rattle.appender_rolling.specs.declared.rolling.Switch.TheVariants.{Opened as Switched, None as Stayed}
use Rattle.appender_runtime.specs.declared.clock.Clock.{Ghosts as Readings}
use Rattle.appender_rolling.specs.Appender.{Appending, AppendsNow, FlushesNow, OpensNow, OpensNone}
use Rattle.appender_rolling.specs.Config.{Config}
use Rattle.appender_rolling.specs.Opening.{file_name_of}
use Rattle.appender_rolling.specs.Roller.{ChecksClock, written_count}
use Rattle.program_io.specs.Options.{number_of, text_of}
use Rattle.program_io.specs.declared.options.Options.{Options}
use Rattle.program_io.specs.declared.options.OptionName.TheVariants.{Keep, MaxBytes, Suffix, Link}

-- a suffix without a dot at its beginning
abbrev pub undotted : List ℕ → List ℕ
undotted [] = []
undotted (byte ∷ bytes) = if byte == 46 then bytes else byte ∷ bytes

-- The configuration that is asked for. Files are kept by their names, an opening continues the last one, and a link may be missing.
abbrev pub config_of : Rotation → List ℕ → Options → Config
config_of rotation prefix o = record {
  rotation = rotation;
  prefix = prefix;
  suffix = undotted (text_of Suffix o);
  link = text_of Link o;
  link_optional = true;
  max_files = number_of Keep o;
  by_name = true;
  max_bytes = number_of MaxBytes o;
  continues = true;
}

-- ---- the end of a file of lines

-- there is nothing, or a newline at the end
abbrev pub EndsLine : List ℕ → Type 0
EndsLine bytes = (bytes ≡ []) ⊎ (ends_with_byte 10 bytes ≡ true)

-- the open file is empty or ends with a newline, if the content of the folder is known
abbrev pub EndsWhole : {S F C : Type 0} → Ghosts S F → Appending S F C → Type 0
EndsWhole kind log = IsTrue kind.is_known → EndsLine (body_at (kind.content log.roller.folder) (kind.body log.roller.file))

-- how many bytes a newline adds, if there is one
abbrev pub newline_length : Bool → ℕ
newline_length true = 1
newline_length false = 0

-- ---- openings

-- The file that the configuration leads to was refused, for more than want of memory or an interruption, and the log was opened with the next one.
pub record OpensNext {S F C : Type 0} (kind : Ghosts S F) (time : Readings C) (config : Config) (folder : S) (new : Appending S F C) : Type 0 where
  pub clock : C
  pub fault : Error
  pub lasts : (error_kind fault ≢ OutOfMemory) × (error_kind fault ≢ Interrupted)
  pub left : S
  pub same : C
  pub refused : OpensNone kind time config folder clock (FileRefused fault) left same
  pub opens : OpensNow kind time (record config { continues = false }) left same new

-- a log was opened in a folder, with its last file if it continues that and may open it
abbrev pub OpensLog : {S F C : Type 0} → Ghosts S F → Readings C → Config → S → Appending S F C → Type 0
OpensLog {C = C} kind time config folder new = ((clock : C) × OpensNow kind time config folder clock new) ⊎ OpensNext kind time config folder new

-- ---- the state of a log

-- the name of the open file
abbrev pub open_name : {S F C : Type 0} → Appending S F C → List ℕ
open_name log = file_name_of log.roller.config log.roller.opened

-- What a look at a file of a folder that has a name showed. Where a contract is proved for any check of files, only a look shows that.
pub record Looks (S F : Type 0) : Type 1 where
  -- whether the file ends with a line, as far as that can be seen
  pub ends : S → F → List ℕ → Bool → Type 0
  -- its length in bytes
  pub length : F → ℕ → Type 0
  -- whether its name leads to it, and it has at least this many bytes, as far as that can be seen
  pub finds : S → F → List ℕ → ℕ → Bool → Type 0

-- A log, and what is known of it.
pub record LogState (S F C : Type 0) : Type 0 where
  pub log : Appending S F C
  -- the configuration by which it is opened again
  pub config : Config
  -- whether a part of a line is ended by a newline before the next line
  pub whole_lines : Bool
  -- whether the open file may end with a part of a line
  pub cut : Bool
  -- whether the last write took a part of a line, whose rest belongs to the same file
  pub short : Bool
  -- whether a newline is to be written first
  pub owed : Bool
  -- the open file's least length in bytes
  pub length : ℕ
  -- whether the last look did not find the open file
  pub is_gone : Bool
  -- whether it was ever opened again
  pub anew : Bool
  -- whether its last call was a flush that succeeded
  pub flushed : Bool
  -- how many flushes failed, those at a switch aside
  pub failed : ℕ

-- the sum of two counts, or the greatest 64-bit number
abbrev pub capped_sum : ℕ → ℕ → ℕ
capped_sum n added = min (n + added) (2 ^ 64 - 1)

-- the number of flushes that failed, after one with this answer
abbrev pub failed_after : Result (Unit {0}) Error → ℕ → ℕ
failed_after (Ok done) n = n
failed_after (Err error) n = capped_sum n 1

-- The open file was looked at. It is owed a newline if that is wanted and it was not seen to end with a line.
pub record IsLookedAt {S F C : Type 0} (kind : Ghosts S F) (looks : Looks S F) (l : LogState S F C) : Type 0 where
  pub seen : Bool
  pub ends : looks.ends l.log.roller.folder l.log.roller.file (open_name l.log) seen
  pub cut : l.cut ≡ not seen
  pub owed : l.owed ≡ (l.whole_lines && not seen)
  pub whole : l.cut ≡ false → EndsWhole kind l.log
  pub length : looks.length l.log.roller.file l.length

-- a log was opened in such a folder, and nothing was done with it yet
pub record IsNewLog {S F C : Type 0} (kind : Ghosts S F) (time : Readings C) (looks : Looks S F) (is_at : S → Type 0) (asked : Config) (whole_lines : Bool) (new : LogState S F C) : Type 0 where
  pub folder : S
  pub at : is_at folder
  pub opens : OpensLog kind time asked folder new.log
  pub looked : IsLookedAt kind looks new
  pub same : new ≡ record new { config = asked; whole_lines = whole_lines; short = false; is_gone = false; anew = false; flushed = false; failed = 0 }

-- The log was never opened again, its last call was a flush that succeeded, and no flush failed, at a switch neither.
pub record IsKept {S F C : Type 0} (kind : Ghosts S F) (l : LogState S F C) : Type 0 where
  pub never_anew : l.anew ≡ false
  pub flushed : l.flushed ≡ true
  pub none_failed : l.failed ≡ 0
  pub noted : (kind.noted l.log.roller.folder).flushes ≡ 0

-- ---- its file

-- The open file was looked for, unless the last look did not find it.
abbrev pub LooksFor : {S F C : Type 0} → Looks S F → LogState S F C → LogState S F C → Type 0
LooksFor looks old new =
    ((old.is_gone ≡ true) × (new ≡ old))
    ⊎ ((old.is_gone ≡ false) × (found : Bool) × looks.finds old.log.roller.folder old.log.roller.file (open_name old.log) old.length found × (new ≡ record old { is_gone = not found }))

-- The open file was flushed, and a log was opened in place of it.
pub record OpensAnew {S F C : Type 0} (kind : Ghosts S F) (time : Readings C) (looks : Looks S F) (old new : LogState S F C) : Type 0 where
  pub folder : S
  pub opens : OpensLog kind time old.config folder new.log
  pub looked : IsLookedAt kind looks new
  pub closed : Appending S F C
  pub answer : Result (Unit {0}) Error
  pub flushes : FlushesNow kind answer old.log closed
  pub failed : new.failed ≡ capped_sum (failed_after answer old.failed) (kind.noted closed.roller.folder).flushes
  pub same : new ≡ record old { log = new.log; cut = new.cut; short = false; owed = new.owed; length = new.length; is_gone = false; anew = true; failed = new.failed }

-- The open file was found, or the log was opened again in place of it. It was not opened again for the rest of a line.
abbrev pub FindsFile : {S F C : Type 0} → Ghosts S F → Readings C → Looks S F → LogState S F C → LogState S F C → Type 0
FindsFile {S} {F} {C} kind time looks old found =
    (looked : LogState S F C) × LooksFor looks old looked
    × (((looked.is_gone ≡ false) × (found ≡ looked)) ⊎ ((looked.is_gone ≡ true) × (looked.short ≡ false) × OpensAnew kind time looks looked found))

-- The open file was not found, and the log not opened again, or opened again in place of writing the rest of a line.
abbrev pub MissesFile : {S F C : Type 0} → Ghosts S F → Readings C → Looks S F → LogState S F C → LogState S F C → Type 0
MissesFile {S} {F} {C} kind time looks old new =
    (looked : LogState S F C) × LooksFor looks old looked × (looked.is_gone ≡ true)
    × ((new ≡ looked) ⊎ ((looked.short ≡ true) × OpensAnew kind time looks looked new))

-- The clock was checked for this number of bytes, and a newline before them if one is owed. A file that began is looked at, and so is the
-- open one if none could begin.
pub record ChecksOnce {S F C : Type 0} (kind : Ghosts S F) (time : Readings C) (looks : Looks S F) (len : ℕ) (old new : LogState S F C) : Type 0 where
  pub moment : ℤ
  pub reading : time.now_gives old.log.clock moment
  pub switch : Switch
  pub checks : ChecksClock kind moment (len + newline_length old.owed) switch old.log.roller new.log.roller
  pub clock : new.log.clock ≡ old.log.clock
  pub begun : switch ≡ Switched → IsLookedAt kind looks new
  pub tried : switch ≢ Stayed → (seen : Bool) × looks.ends new.log.roller.folder new.log.roller.file (open_name new.log) seen × (new.cut ≡ not seen)
  pub waits : switch ≡ Stayed → new.cut ≡ old.cut
  pub stays : switch ≢ Switched → (new.owed ≡ old.owed) × (new.length ≡ old.length)
  pub same : new ≡ record old { log = new.log; cut = new.cut; owed = new.owed; length = new.length }

-- The same, unless the bytes are the rest of a line.
abbrev pub MayCheckOnce : {S F C : Type 0} → Ghosts S F → Readings C → Looks S F → ℕ → LogState S F C → LogState S F C → Type 0
MayCheckOnce kind time looks len old new = ((old.short ≡ false) × ChecksOnce kind time looks len old new) ⊎ ((old.short ≡ true) × (new ≡ old))

-- the file was found, and then the same
abbrev pub FindsPlace : {S F C : Type 0} → Ghosts S F → Readings C → Looks S F → ℕ → LogState S F C → LogState S F C → Type 0
FindsPlace {S} {F} {C} kind time looks len old new =
    (found : LogState S F C) × FindsFile kind time looks old found × MayCheckOnce kind time looks len found new

-- ---- writes

-- the bytes that a write took, by its answer
abbrev pub taken_of : Result ℕ Error → List ℕ → List ℕ
taken_of (Ok n) bytes = take n bytes
taken_of (Err error) bytes = []

-- whether a file may end with a part of a line, after these bytes were added
abbrev pub cut_after : Bool → List ℕ → Bool
cut_after cut [] = cut
cut_after cut (byte ∷ bytes) = not (ends_with_byte 10 (byte ∷ bytes))

-- Whether the rest of a line is due, after an append with this answer: it took some bytes and not all, of which the last is no newline.
abbrev pub short_after : Bool → List ℕ → Result ℕ Error → Bool
short_after short bytes (Ok n) = nat_lt 0 n && (nat_lt n (length bytes) && not (ends_with_byte 10 (take n bytes)))
short_after short bytes (Err error) = short

-- The bytes were added by one append with this answer.
abbrev pub AppendsTo : {S F C : Type 0} → Ghosts S F → List ℕ → Result ℕ Error → LogState S F C → LogState S F C → Type 0
AppendsTo kind bytes answer old new =
    AppendsNow kind bytes answer old.log new.log
    × (new ≡ record old { log = new.log; cut = cut_after old.cut (take (written_count answer) bytes); short = short_after old.short bytes answer; length = capped_sum old.length (written_count answer) })

-- a newline was added if one was owed, and then none is
abbrev pub EndsOwed : {S F C : Type 0} → Ghosts S F → LogState S F C → LogState S F C → Type 0
EndsOwed {S} {F} {C} kind old new =
    ((old.owed ≡ false) × (new ≡ old))
    ⊎ ((old.owed ≡ true) × (ended : LogState S F C) × AppendsTo kind (10 ∷ []) (Ok 1) old ended × (new ≡ record ended { owed = false }))

-- The bytes were added with this answer by one append, after that, and after a newline if one was owed.
pub record PutsBytes {S F C : Type 0} (kind : Ghosts S F) (time : Readings C) (looks : Looks S F) (bytes : List ℕ) (answer : Result ℕ Error) (old new : LogState S F C) : Type 0 where
  pub placed : LogState S F C
  pub finds : FindsPlace kind time looks (length bytes) old placed
  pub ended : LogState S F C
  pub ends : EndsOwed kind placed ended
  pub appends : AppendsTo kind bytes answer ended new

-- One write of these bytes, with this answer. It is an error if the file was lost, or a newline was owed and not added.
abbrev pub WritesLog : {S F C : Type 0} → Ghosts S F → Readings C → Looks S F → List ℕ → Result ℕ Error → LogState S F C → LogState S F C → Type 0
WritesLog {S} {F} {C} kind time looks bytes answer old new =
    PutsBytes kind time looks bytes answer old new
    ⊎ (IsErr answer × MissesFile kind time looks old new)
    ⊎ (IsErr answer × (placed : LogState S F C) × FindsPlace kind time looks (length bytes) old placed × (placed.owed ≡ true)
    × (ended : Result ℕ Error) × (ended ≢ Ok 1) × AppendsTo kind (10 ∷ []) ended placed new)

-- the open file was flushed, and looked for
abbrev pub FlushesLog : {S F C : Type 0} → Ghosts S F → Looks S F → Result (Unit {0}) Error → LogState S F C → LogState S F C → Type 0
FlushesLog {S} {F} {C} kind looks answer old new =
    (log : Appending S F C) × FlushesNow kind answer old.log log × LooksFor looks (record old { log = log; failed = failed_after answer old.failed }) new

-- One call took exactly these bytes: a write, or a flush, or the rest of a line was given up, which is then ended if that is wanted.
abbrev pub TakesPiece : {S F C : Type 0} → Ghosts S F → Readings C → Looks S F → LogState S F C → List ℕ → LogState S F C → Type 0
TakesPiece {S} {F} {C} kind time looks old taken new =
    ((bytes : List ℕ) × (answer : Result ℕ Error) × (taken ≡ taken_of answer bytes)
    × (put : LogState S F C) × WritesLog kind time looks bytes answer old put × (new ≡ record put { flushed = false }))
    ⊎ ((taken ≡ []) × (answer : Result (Unit {0}) Error) × (flushed : LogState S F C) × FlushesLog kind looks answer old flushed
    × (new ≡ record flushed { flushed = new.flushed }) × (new.flushed ≡ true → answer ≡ Ok tt))
    ⊎ ((taken ≡ []) × (new ≡ record old { short = false; owed = old.owed || (old.whole_lines && old.cut); flushed = false }))
