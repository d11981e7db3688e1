-- The headline of a run. An account follows from only the steps and replies: which reply each step gets, which files are begun, and what is
-- written to each. The folder then contains what it contained before, and exactly that. Read it from `Headline` upwards.
-- Of other files: `is_moment`, a moment of the years 1 to 9998; `written_count`, the bytes that an answer took; `NotedCounts`, the notices by kind;
-- `name_rank`, the rank of a log file's name; `name_survives`, whether retention leaves a name.
use Rattle.std.specs.Prelude.{◌≡◌, ◌≢◌, ◌⊎◌, ◌↔◌, IsTrue, ℕ, ◌+◌, ◌-◌, ◌^◌, ◌<◌, ◌≤◌, nat_lt, min, ◌==◌, ℤ, Bool, true, false, not, ◌&&◌, if◌then◌else◌, List, [], ◌∷◌, ◌++◌, length, take, drop, get_or, All, Any, Option, None, Some, is_some, unwrap_or, Result, Ok, Err, Vec}
use Rattle.std.specs.Int.{int_max}
use Rattle.std.specs.Bool.{MatchBool}
use Rattle.std.specs.Option.{option_map_or}
use Rattle.std.specs.Str.{bytes_eq}
use Rattle.std.specs.FinMap as fin
use Rattle.std.specs.IoError.{error_kind}
use Rattle.std.specs.declared.alloc.Global.{Global}
use Rattle.std.specs.declared.io.Error.{Error}
use Rattle.std.specs.declared.io.ErrorKind.{ErrorKind}
use Rattle.std.specs.declared.io.ErrorKind.TheVariants.{OutOfMemory}
use Rattle.appender_names.specs.declared.error.InitError.{InitError}
use Rattle.appender_names.specs.declared.error.InitError.TheVariants.{Directory, File as NoFile, Symlink, Memory}
use Rattle.appender_names.specs.Rotation.{is_moment, period_of, is_same_start}
use Rattle.appender_store.specs.Content.{Content, NameMap, Entry, File, Link, IsFile, IsLink, ForbidsList, ForbidsOpen, body_at}
use Rattle.appender_store.specs.declared.store.Folder.{Ghosts}
use Rattle.appender_store.specs.Folder.{HasCause, NotedCounts, NoticeMessage, NotedList, NotedRemove, NotedFlush, NotedOpen}
use Rattle.appender_store.specs.Notes.{Notes}
use Rattle.appender_store.specs.declared.store.Listed.{Listed}
use Rattle.appender_retain.specs.Survival.{name_survives}
use Rattle.appender_rolling.specs.Config.{Config, is_limited, max_before, log_files_of}
use Rattle.appender_rolling.specs.Opening.{file_name_of, FindsNumber}
use Rattle.appender_rolling.specs.Roller.{written_count}
use Rattle.appender_rolling.specs.declared.rolling.setup.Stamp.{Stamp}
use Rattle.appender_worker.specs.CoreReplies.{is_interruption}
use Rattle.appender_queue.specs.Queue.{saturating_next, one_less}
use Rattle.appender_queue.specs.declared.queue.Shut.TheVariants.{Sent, Already, Full as ShutFull, Closed as ShutClosed}
use Rattle.appender_rolling.specs.declared.rolling.Switch.{Switch}
use Rattle.appender_rolling.specs.declared.rolling.Switch.TheVariants.{None as Stayed, Opened as Switched}
use Rattle.appender_replay.specs.Start.{Start, start_of}
use Rattle.appender_replay.specs.declared.replay.whole.Step.{Step}
use Rattle.appender_replay.specs.declared.replay.whole.Step.TheVariants.{Offer, Shut, AddSender, DropSender, Work}
use Rattle.appender_replay.specs.declared.replay.whole.Reply.{Reply}
use Rattle.appender_replay.specs.declared.replay.whole.Reply.TheVariants.{Accepted, Full, Closed, NoMemory, Shut as DidShut, Senders, Took, TookShutdown, TookGone, TookEmpty, Wrote, Flushed, Ended}

-- One write of the open file, or a flush, which has no bytes: the latest moment then, the bytes, and the answer.
pub record FileCall : Type 0 where
  pub latest : ℤ
  pub flush : Bool
  pub bytes : List ℕ
  pub answer : Result ℕ ErrorKind

-- A try to open a file: its stamp, and whether it succeeded; and the writes and flushes from then until the next one, the newest first.
pub record Try : Type 0 where
  pub stamp : Stamp
  pub opened : Bool
  pub calls : List FileCall

-- The files: the latest moment that was read; the newest try, and those before it, the newest first, of which the last is the opening; how many bytes
-- that the first file held count, until the next try; how many writes and flushes failed, but for want of memory.
pub record Files : Type 0 where
  pub latest : ℤ
  pub newest : Try
  pub earlier : List Try
  pub held : ℕ
  pub faults : ℕ

-- The queue: all lines that were accepted, in order, and how many of them were handed to the worker; how many had been accepted when the
-- shutdown was sent, if it was; whether the worker found the end; the senders; whether the last take was one that waits, and found nothing.
-- The worker: the rest of the line in hand, and how often a write of it was interrupted; whether that line was written whole, with no flush
-- since; how many flushes it makes next.
pub record RunAccount : Type 0 where
  pub accepted : List (List ℕ)
  pub handed : ℕ
  pub shutdown : Option ℕ
  pub closed : Bool
  pub senders : ℕ
  pub idle : Bool
  pub rest : List ℕ
  pub interrupted : ℕ
  pub whole : Bool
  pub flushes : ℕ
  pub files : Files

-- after the opening of the first file
abbrev pub files_at_opening : Start → Files
files_at_opening s = record { latest = s.stamp.moment; newest = record { stamp = s.stamp; opened = true; calls = [] }; earlier = []; held = s.held; faults = 0 }

-- what writes took, the oldest first
abbrev pub bytes_taken : List FileCall → List ℕ
bytes_taken [] = []
bytes_taken (e ∷ earlier) = bytes_taken earlier ++ take (written_count e.answer) e.bytes

-- the bytes that count since the newest try
abbrev pub counted : Files → ℕ
counted f = f.held + length (bytes_taken f.newest.calls)

-- ---- the reply to a step

-- the shutdown takes a place too
abbrev pub account_places : RunAccount → ℕ
account_places a = length a.accepted - a.handed + (if is_some a.shutdown then 1 else 0)

-- with the limit 0 there is room for one line, while the worker waits
abbrev pub account_has_room : ℕ → RunAccount → Bool
account_has_room limit a = if limit == 0 then ((account_places a == 0) && a.idle) else nat_lt (account_places a) limit

-- tickets have 64 bits
abbrev pub account_offer_reply : ℕ → RunAccount → Reply
account_offer_reply limit a = if not a.closed && nat_lt (length a.accepted) (2 ^ 64 - 1) then (if account_has_room limit a then Accepted (length a.accepted + 1) else Full) else Closed

-- the first line that was not handed, if it was accepted before the shutdown
abbrev pub account_take_reply : RunAccount → Reply
account_take_reply a =
    if a.closed then Ended
    else if nat_lt a.handed (length a.accepted) && nat_lt a.handed (unwrap_or a.shutdown (length a.accepted)) then Took (a.handed + 1)
    else if is_some a.shutdown then TookShutdown
    else if a.senders == 0 then TookGone else TookEmpty

-- moments outside the years 1 to 9998 count as not read
abbrev pub later_moment : ℤ → ℤ → ℤ
later_moment latest m = if is_moment m then int_max m latest else latest

-- The file that is due at m, if one is: the first of another period, if the latest moment is in one with m; under a limit of bytes the next of the
-- same period, if what counts since the newest try and the bytes to write, at least one, are more than the limit.
abbrev pub due_file : Config → Files → ℤ → ℕ → Option Stamp
due_file c f m len =
    if not (is_same_start (period_of c.rotation (later_moment f.latest m)) (period_of c.rotation f.latest)) then Some (record { moment = later_moment f.latest m; number = 0 })
    else if is_limited c && nat_lt f.newest.stamp.number 999999 && nat_lt 0 (counted f) && nat_lt c.max_bytes (counted f + (if len == 0 then 1 else len))
    then Some (record { moment = f.newest.stamp.moment; number = f.newest.stamp.number + 1 }) else None

-- A line is accepted exactly if the queue is open and has room, and memory was there for its copy; an empty one needs none. The worker writes
-- on if a line is in hand, makes the flushes that are due, or else takes the first line that was not handed.
abbrev pub Replies : ℕ → Config → RunAccount → Step × Reply → Type 0
Replies limit c a (Offer label line, reply) = ((reply ≡ NoMemory) × (line.items ≢ [])) ⊎ (reply ≡ account_offer_reply limit a)
Replies limit c a (Shut, reply) = reply ≡ DidShut (if a.closed then ShutClosed else if is_some a.shutdown then Already else if account_has_room limit a then Sent else ShutFull)
Replies limit c a (AddSender, reply) = reply ≡ Senders (saturating_next a.senders)
Replies limit c a (DropSender, reply) = reply ≡ Senders (one_less a.senders)
Replies limit c a (Work m, Wrote switch answer) = (a.rest ≢ []) × (written_count answer ≤ length a.rest) × ((switch ≡ Stayed) ↔ (due_file c a.files m (length a.rest) ≡ None))
Replies limit c a (Work m, Flushed answer) = (a.rest ≡ []) × (0 < a.flushes)
Replies limit c a (Work m, reply) = (a.rest ≡ []) × (a.flushes ≡ 0) × (reply ≡ account_take_reply a)

-- ---- what follows from a step and its reply

-- after a try for this stamp, if there was one
abbrev pub files_after_try : Option Stamp → Switch → Files → Files
files_after_try None switch f = f
files_after_try (Some s) Switched f = record f { newest = record { stamp = s; opened = true; calls = [] }; earlier = f.newest ∷ f.earlier; held = 0 }
files_after_try (Some s) switch f = record f { newest = record { stamp = s; opened = false; calls = [] }; earlier = f.newest ∷ f.earlier; held = 0 }

-- a check of the clock at m, with this number of bytes to write
abbrev pub files_after_check : Config → ℤ → ℕ → Switch → Files → Files
files_after_check c m len switch f = files_after_try (due_file c f m len) switch (record f { latest = later_moment f.latest m })

abbrev pub faults_in : {T : Type 0} → Result T ErrorKind → ℕ
faults_in (Ok x) = 0
faults_in (Err OutOfMemory) = 0
faults_in (Err kind) = 1

-- a flush's answer as that of a write of no byte
abbrev pub of_no_byte : {E : Type 0} → Result (Unit {0}) E → Result ℕ E
of_no_byte (Ok u) = Ok 0
of_no_byte (Err e) = Err e

-- a write of these bytes to the open file, or a flush
abbrev pub files_after_call : Bool → List ℕ → Result ℕ ErrorKind → Files → Files
files_after_call flush bytes answer f =
    record f { newest = record f.newest { calls = record { latest = f.latest; flush = flush; bytes = bytes; answer = answer } ∷ f.newest.calls }; faults = f.faults + faults_in answer }

-- a line is given up at a write of no byte, at the 101st interruption and at any other error
abbrev pub account_after_write : Result ℕ ErrorKind → RunAccount → RunAccount
account_after_write (Ok n) a = record a { rest = if n == 0 then [] else drop n a.rest; whole = not (n == 0) }
account_after_write (Err kind) a = if is_interruption kind && nat_lt a.interrupted 100 then record a { interrupted = a.interrupted + 1 } else record a { rest = []; whole = false }

abbrev pub account_after : Config → RunAccount → Step × Reply → RunAccount
account_after c a (Offer label line, Accepted ticket) = record a { accepted = a.accepted ++ line.items ∷ [] }
account_after c a (Shut, DidShut Sent) = record a { shutdown = Some (length a.accepted) }
account_after c a (AddSender, reply) = record a { senders = saturating_next a.senders }
account_after c a (DropSender, reply) = record a { senders = one_less a.senders }
account_after c a (Work m, Took ticket) = record a { handed = a.handed + 1; rest = get_or a.accepted a.handed []; interrupted = 0; whole = true; idle = false }
account_after c a (Work m, TookShutdown) = record a { closed = true; idle = false; flushes = 2 }
account_after c a (Work m, TookGone) = record a { closed = true; idle = false; flushes = 2 }
account_after c a (Work m, TookEmpty) = record a { idle = not a.whole; flushes = if a.whole then 1 else 0 }
account_after c a (Work m, Flushed answer) = record a { whole = false; flushes = a.flushes - 1; files = files_after_call true [] (of_no_byte answer) a.files }
account_after c a (Work m, Wrote switch answer) = record (account_after_write answer a) { files = files_after_call false a.rest answer (files_after_check c m (length a.rest) switch a.files) }
account_after c a t = a

-- a run: its steps with their replies, the newest first
abbrev pub account : Config → Start → List (Step × Reply) → RunAccount
account c start [] = record { accepted = []; handed = 0; shutdown = None; closed = false; senders = 1; idle = false; rest = []; interrupted = 0; whole = false; flushes = 0; files = files_at_opening start }
account c start (t ∷ past) = account_after c (account c start past) t

abbrev pub Follows : ℕ → Config → Start → List (Step × Reply) → Type 0
Follows limit c start [] = Unit {0}
Follows limit c start (t ∷ past) = Follows limit c start past × Replies limit c (account c start past) t

-- ---- the folder

-- how many failed
abbrev pub failures_in : List Try → ℕ
failures_in [] = 0
failures_in (t ∷ earlier) = failures_in earlier + (if t.opened then 0 else 1)

-- the stamp of the open file, which is that of the last try that succeeded
abbrev pub open_stamp : List Try → Option Stamp
open_stamp [] = None
open_stamp (t ∷ earlier) = if t.opened then Some t.stamp else open_stamp earlier

-- what was written to the file of this name
abbrev pub written_to_name : Config → List ℕ → List Try → List ℕ
written_to_name c name [] = []
written_to_name c name (t ∷ earlier) = written_to_name c name earlier
    ++ (if option_map_or (λ (s : Stamp). bytes_eq (file_name_of c s) name) (open_stamp (t ∷ earlier)) false then bytes_taken t.calls else [])

-- What retention leaves under a name when this file is opened. By name, the file that is opened is none of those that it counts, and so stays.
abbrev pub kept_entry : Config → Stamp → NameMap → List ℕ → Option Entry
kept_entry c s names name = if name_survives (log_files_of c (Some (file_name_of c s))) c.max_files names name then fin.get names name else None

-- The names after the opening of a file: what retention leaves of those before, the file's own, and the link. The file is the one that had
-- the name, or a new one, whose body is none of those that the folder had at first. If an optional link can't be made, its name leads to
-- what retention leaves, but an old link may be gone.
pub record NamesAfterOpening (c : Config) (bodies : ℕ) (s : Stamp) (old new : NameMap) : Type 0 where
  pub own : (b : ℕ) × (t : Option ℤ) × (fin.get new (file_name_of c s) ≡ Some (File b t))
      × ((kept_entry c s old (file_name_of c s) ≡ Some (File b t)) ⊎ ((kept_entry c s old (file_name_of c s) ≡ None) × (bodies ≤ b)))
  pub link : c.link ≢ [] → (fin.get new c.link ≡ Some (Link (file_name_of c s)))
      ⊎ ((c.link_optional ≡ true) × (c.link ≢ file_name_of c s → (fin.get new c.link ≡ kept_entry c s old c.link) ⊎ (IsLink (fin.get old c.link) × (fin.get new c.link ≡ None))))
  pub others : (name : List ℕ) → name ≢ file_name_of c s → name ≢ c.link → fin.get new name ≡ kept_entry c s old name

-- The names after a try that failed, if retention doesn't come before it. A name that was free may lead to a new file, and the link may be gone.
pub record NamesAfterFailure (c : Config) (bodies : ℕ) (s : Stamp) (old new : NameMap) : Type 0 where
  pub own : (fin.get new (file_name_of c s) ≡ fin.get old (file_name_of c s)) ⊎ ((fin.get old (file_name_of c s) ≡ None)
      × ((b : ℕ) × (t : Option ℤ) × (fin.get new (file_name_of c s) ≡ Some (File b t)) × (bodies ≤ b)))
  pub link : c.link ≢ file_name_of c s → (fin.get new c.link ≡ fin.get old c.link) ⊎ (IsLink (fin.get old c.link) × (fin.get new c.link ≡ None))
  pub others : (name : List ℕ) → name ≢ file_name_of c s → name ≢ c.link → fin.get new name ≡ fin.get old name

-- the same of one try after another, the newest first. The creation moment of a new file follows from no map before it.
abbrev pub NamesAfterTries : Config → ℕ → List Try → NameMap → NameMap → Type 0
NamesAfterTries c bodies [] first last = last ≡ first
NamesAfterTries c bodies (t ∷ earlier) first last =
    (between : NameMap) × NamesAfterTries c bodies earlier first between
    × MatchBool t.opened (NamesAfterOpening c bodies t.stamp between last) (NamesAfterFailure c bodies t.stamp between last)

-- Every listing and every removal succeeded, except the listings of an absent folder before the opening. Counts at their greatest don't show it.
pub record RetentionSucceeded (c : Config) (there : Bool) (old new : NotedCounts) : Type 0 where
  pub lists : new.lists ≡ old.lists + (if there then 0 else (if is_limited c then 1 else 0) + (if max_before c == 0 then 0 else 1))
  pub removes : new.removes ≡ old.removes
  pub below : (new.lists < 2 ^ 64 - 1) × (new.removes < 2 ^ 64 - 1)

-- How many bytes the first file held, up to the limit. It held none if its name led to nothing, or if retention removed it first.
abbrev pub IsHeld : Config → Start → Content → Type 0
IsHeld c start first =
    ((b : ℕ) × (t : Option ℤ) × (fin.get first.names (file_name_of c start.stamp) ≡ Some (File b t)) × (start.held ≡ min c.max_bytes (length (body_at first b))))
    ⊎ ((start.held ≡ 0)
    × ((fin.get first.names (file_name_of c start.stamp) ≡ None)
    ⊎ (name_survives (log_files_of c (Some (file_name_of c start.stamp))) (max_before c) first.names (file_name_of c start.stamp) ≡ false)))

-- The name was that of a log file that does not survive where the file of this try was opened, among names that the folder had at first, and those
-- of the run.
pub record IsOld (c : Config) (tries : List Try) (first : NameMap) (name : List ℕ) (t : Try) : Type 0 where
  pub names : NameMap
  pub had : (n : List ℕ) → (fin.get names n ≡ fin.get first n) ⊎ (fin.get names n ≡ None) ⊎ Any (λ e. n ≡ file_name_of c e.stamp) tries ⊎ (n ≡ c.link)
  pub falls : name_survives (log_files_of c (Some (file_name_of c t.stamp))) c.max_files names name ≡ false

-- What a folder with known content contains after a run with these tries, the newest first.
pub record Contains (c : Config) (start : Start) (tries : List Try) (first last : Content) (noted_first noted_last : NotedCounts) : Type 0 where
  -- A file holds what it held at first, which is nothing if it is new, and then exactly what was written while it was the open one.
  pub bytes : (name : List ℕ) (b : ℕ) (t : Option ℤ) → fin.get last.names name ≡ Some (File b t) → body_at last b ≡ body_at first b ++ written_to_name c name tries
  -- Whatever fails, no other name changes, except that log files may be removed that do not survive: if there is a maximum of them, and so many
  -- rank above. By name each of these has a period and number before those of some try's file (`is_before_opened`).
  pub others : (name : List ℕ) → All (λ t. name ≢ file_name_of c t.stamp) tries → name ≢ c.link
      → (fin.get last.names name ≡ fin.get first.names name) ⊎ ((fin.get last.names name ≡ None) × Any (IsOld c tries first.names name) tries)
  -- Without a maximum each file that was there at first has its name, whatever fails, and so has each to which bytes were written.
  pub kept : c.max_files ≡ 0 → (name : List ℕ) (b : ℕ) (t : Option ℤ) → fin.get first.names name ≡ Some (File b t) → fin.get last.names name ≡ Some (File b t)
  pub written : c.max_files ≡ 0 → (name : List ℕ) → written_to_name c name tries ≢ [] → IsFile (fin.get last.names name)
  -- The open file has its name if no try failed. Else it has it by name or without a maximum, where retention doesn't come before the opening.
  pub open_file : (failures_in tries ≡ 0) ⊎ (max_before c ≡ 0) → (s : Stamp) → open_stamp tries ≡ Some s → IsFile (fin.get last.names (file_name_of c s))
  -- If each listing and removal succeeded, the names are exactly these; by name or without a maximum whichever tries fail, else if none does.
  -- Without a maximum nothing is listed for retention.
  pub names : (failures_in tries ≡ 0) ⊎ (max_before c ≡ 0) → ((c.max_files ≡ 0) ⊎ RetentionSucceeded c first.there noted_first noted_last)
      → NamesAfterTries c (length first.bodies) tries first.names last.names
  -- If the log continues its last file, what the first file held counts.
  pub held : c.continues ≡ true → IsHeld c start first

-- ---- the calls of the folder

-- an answer, of an error only its kind
abbrev pub by_kind : {T : Type 0} → Result T Error → Result T ErrorKind
by_kind (Ok x) = Ok x
by_kind (Err fault) = Err (error_kind fault)

module _ {S F : Type 0} (kind : Ghosts S F) where
  -- one call that is neither an append nor a notice, whatever it returned
  pub data Calls (old new : S) : Type 0 where
    Lists : (answer : Result (Vec Listed Global) Error) → kind.list_gives old answer new → Calls old new
    Removes : (name : List ℕ) (answer : Result (Unit {0}) Error) → kind.remove_gives old name answer new → Calls old new
    Opens : (name : List ℕ) (answer : Result F Error) → kind.open_gives old name answer new → Calls old new
    MakesFolder : (answer : Result (Unit {0}) Error) → kind.make_folder_gives old answer new → Calls old new
    RemovesLink : (link : List ℕ) (answer : Result (Unit {0}) Error) → kind.remove_link_gives old link answer new → Calls old new
    MakesLink : (link target : List ℕ) (answer : Result (Unit {0}) Error) → kind.make_link_gives old link target answer new → Calls old new
    Flushes : (file after : F) (answer : Result (Unit {0}) Error) → kind.flush_gives old file answer new after → Calls old new

  -- it is not noted
  abbrev pub NotesNothing : S → S → Type 0
  NotesNothing old new = (kind.noted new ≡ kind.noted old) × (kind.failures old ≤ kind.failures new)

  -- a write of the file, or a flush, which changes its handle
  abbrev pub CallsFile : FileCall → F → S → F → S → Type 0
  CallsFile e file old after new = MatchBool e.flush
      ((answer : Result (Unit {0}) Error) × (e.answer ≡ by_kind (of_no_byte answer)) × kind.flush_gives old file answer new after)
      ((answer : Result ℕ Error) × (e.answer ≡ by_kind answer) × kind.append_gives old file e.bytes answer new after)

  -- The call from one folder to the other failed with the fault of this notice. List is also noted if there was no memory to choose what is removed.
  abbrev pub HasFault : S → S → NoticeMessage → Type 0
  HasFault old new (NotedList fault) = (error_kind fault ≡ OutOfMemory) ⊎ (kind.list_gives old (Err fault) new
      × HasCause {T = Unit {0}} kind.is_known (ForbidsList (kind.content old)) (kind.failures old) (kind.failures new) (Err fault))
  HasFault old new (NotedRemove name fault) =
      kind.remove_gives old name (Err fault) new × HasCause {T = Unit {0}} kind.is_known ⊥ (kind.failures old) (kind.failures new) (Err fault)
  HasFault old new (NotedFlush fault) = (file : F) × (after : F) × kind.flush_gives old file (Err fault) new after
  HasFault old new (NotedOpen error) = ⊥

  abbrev pub NotesFault : S → S → S → Type 0
  NotesFault old failed new = (notice : NoticeMessage) × HasFault old failed notice × Notes kind failed notice new

  -- The call from one folder to the other by which a try for this stamp failed, or there was no memory before one. A link that is not made also
  -- fails with known content where something has its name.
  abbrev pub FailsByCall : Config → Stamp → S → S → InitError → Type 0
  FailsByCall c m old new (Directory fault) =
      kind.make_folder_gives old (Err fault) new × HasCause {T = Unit {0}} kind.is_known ⊥ (kind.failures old) (kind.failures new) (Err fault)
  FailsByCall c m old new (NoFile fault) =
      kind.open_gives old (file_name_of c m) (Err fault) new × HasCause {T = F} kind.is_known (ForbidsOpen (file_name_of c m) (kind.content old)) (kind.failures old) (kind.failures new) (Err fault)
  FailsByCall c m old new (Symlink fault) =
      (c.link_optional ≡ false) × kind.make_link_gives old c.link (file_name_of c m) (Err fault) new × HasCause {T = Unit {0}} kind.is_known (Unit {0}) (kind.failures old) (kind.failures new) (Err fault)
  FailsByCall c m old new Memory = new ≡ old
  FailsByCall c m old new error = ⊥

  -- the last calls of a try that failed: this one, and then at most the removal of a file that it made
  pub record FailsTry (c : Config) (m : Stamp) (error : InitError) (old new : S) : Type 0 where
    pub failed : S
    pub reason : FailsByCall c m old failed error
    pub quiet : NotesNothing old failed
    pub after : (new ≡ failed) ⊎ ((answer : Result (Unit {0}) Error) × kind.remove_gives failed (file_name_of c m) answer new × NotesNothing failed new)

  -- All calls since the first folder, one after another, which lead by these tries to this handle of the open file and to this folder. A try that
  -- succeeded opened the file of its name, and writes and flushes are of the newest that was opened. A notice is of a call or of a try.
  pub data CallsLead (c : Config) (first : S) : List Try → Option F → S → Type 0 where
    begins : CallsLead c first [] None first
    calls : (ts : List Try) (h : Option F) (s t : S) → CallsLead c first ts h s → Calls s t → NotesNothing s t → CallsLead c first ts h t
    notes : (ts : List Try) (h : Option F) (s t u : S) → CallsLead c first ts h s → Calls s t → NotesNothing s t → NotesFault s t u → CallsLead c first ts h u
    opens : (ts : List Try) (h : Option F) (s t : S) (m : Stamp) (file : F) → CallsLead c first ts h s → kind.open_gives s (file_name_of c m) (Ok file) t → NotesNothing s t
        → CallsLead c first (record { stamp = m; opened = true; calls = [] } ∷ ts) (Some file) t
    fails : (ts : List Try) (h : Option F) (s t u : S) (m : Stamp) (error : InitError) → CallsLead c first ts h s → FailsTry c m error s t → Notes kind t (NotedOpen error) u
        → CallsLead c first (record { stamp = m; opened = false; calls = [] } ∷ ts) h u
    uses : (t : Try) (ts : List Try) (file after : F) (s u : S) (e : FileCall) → CallsLead c first (t ∷ ts) (Some file) s → CallsFile e file s after u → NotesNothing s u
        → CallsLead c first (record t { calls = e ∷ t.calls } ∷ ts) (Some after) u

-- The folder after a run: it noted each try that failed, and counted each write and each flush that failed.
pub record FolderFollows {S F : Type 0} (kind : Ghosts S F) (c : Config) (start : Start) (f : Files) (first last : S) : Type 0 where
  pub failed : (kind.noted last).opens ≡ min ((kind.noted first).opens + failures_in (f.newest ∷ f.earlier)) (2 ^ 64 - 1)
  pub faults : min (kind.failures first + f.faults) (2 ^ 64 - 1) ≤ kind.failures last
  -- With a limit of bytes the folder is listed, and the first number is the next after those that it had in that period, or that of the file that is
  -- continued. If the listing failed, that was noted, and it is 0. Without a limit no call is made, and it is 0.
  pub listed : S
  pub finds : FindsNumber kind c start.stamp.moment first start.stamp.number listed
  -- Nothing else was called. So its relation of appends says why a write took nothing, and each List or Remove that was noted has a cause.
  pub calls : (file : F) × CallsLead kind c listed (f.newest ∷ f.earlier) (Some file) last
  pub anew : c.continues ≡ false → start.held ≡ 0
  pub content : IsTrue kind.is_known → Contains c start (f.newest ∷ f.earlier) (kind.content first) (kind.content last) (kind.noted first) (kind.noted last)

pub record Headline {S F : Type 0} (kind : Ghosts S F) (limit : ℕ) (c : Config) (moment : ℤ) (number room : ℕ) (past : List (Step × Reply)) (first last : S) : Type 0 where
  pub replies : Follows limit c (start_of c moment number room) past
  pub folder : FolderFollows kind c (start_of c moment number room) (account c (start_of c moment number room) past).files first last
