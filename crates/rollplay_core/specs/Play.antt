-- A play of a script: its run over a folder in memory, and the page that is printed.
-- `kind` has the ghost members of such a folder.
use Rattle.std.specs.Prelude.{◌≡◌, ◌<◌, ◌⊎◌, ℕ, ℤ, Bool, List, [], ◌++◌, length, Option, IfSome, IsUtf8, codes}
use Rattle.std.specs.Fmt.{decimal}
use Rattle.std.specs.Io.KnownBytes.{Appends, Keeps}
use Rattle.appender_names.specs.declared.error.InitError.{InitError}
use Rattle.appender_store.specs.declared.store.Folder.{Ghosts}
use Rattle.appender_store.specs.declared.store.memory.MemoryFolder.{MemoryFolder}
use Rattle.appender_store.specs.MemoryView.{state_of}
use Rattle.appender_rolling.specs.Config.{Config}
use Rattle.appender_rolling.specs.Config.{stamp}
use Rattle.appender_rolling.specs.Opening.{file_name_of}
use Rattle.appender_rolling.specs.Roller.{Rolling, OpensNoRoller}
use Rattle.appender_queue.specs.Queue.{Queue}
use Rattle.appender_queue.specs.QueueReplies.{queue_counts}
use Rattle.tracing_appender.specs.Core.{Core}
use Rattle.appender_replay.specs.Start.{start_of}
use Rattle.appender_replay.specs.Record.{WorkerDoes}
use Rattle.appender_replay.specs.Replay.{RollDoes, RunsFrom, with_replies}
use Rattle.appender_replay.specs.Whole.{LinesFollow}
use Rattle.appender_replay.specs.declared.replay.RollStep.{RollStep}
use Rattle.appender_replay.specs.declared.replay.RollReply.{RollReply}
use Rattle.appender_replay.specs.declared.replay.ReplayError.{ReplayError}
use Rattle.appender_replay.specs.declared.replay.ReplayError.TheVariants.{Memory as NoMemory, Init}
use Rattle.appender_replay.specs.declared.replay.whole.Step.{Step}
use Rattle.appender_replay.specs.declared.replay.whole.Reply.{Reply}
use Rattle.rollplay_core.specs.declared.play.Opening.{Opening}
use Rattle.rollplay_core.specs.declared.play.Opening.TheVariants.{Opened, Refused}
use Rattle.rollplay_core.specs.declared.play.Failure.{Failure}
use Rattle.rollplay_core.specs.declared.play.Failure.TheVariants.{Line, Script, Read, Write, Memory}
use Rattle.program_io.specs.Report.{AppendsBeginning}
use Rattle.rollplay_core.specs.declared.script.ScriptError.{ScriptError}
use Rattle.rollplay_core.specs.declared.script.ScriptError.TheVariants.{Fault, Memory as OutOfMemory}
use Rattle.rollplay_core.specs.Page.{with_newline, run_page, queued_page, refusal_page}
use Rattle.rollplay_core.specs.Script.{Plan, rolling, queued, IsScript, HasFirstFault}

-- the log was opened and all steps were run, and the page has the replies and the folder at the end
pub record IsRunPage {F : Type 0} (kind : Ghosts MemoryFolder F) (config : Config) (folder : MemoryFolder) (start : ℤ) (steps : List RollStep) (page : List ℕ) : Type 0 where
  pub replies : List RollReply
  pub one_each : length replies ≡ length steps
  pub last : Rolling MemoryFolder F
  pub number : ℕ
  pub room : ℕ
  pub runs : RunsFrom kind (RollDoes kind) config start number room folder (with_replies steps replies) last
  pub page_is : page ≡ run_page (file_name_of config (stamp start number)) replies (state_of last.folder).content

-- The log was opened with a queue of this number of lines, and all steps were run with these replies.
-- The laws of lines hold. The page has the replies, the folder at the end and the counts of the queue.
pub record IsQueuedRunPage {F : Type 0} (kind : Ghosts MemoryFolder F) (config : Config) (folder : MemoryFolder) (start : ℤ) (limit : ℕ) (lossy : Bool) (steps : List Step) (page : List ℕ) : Type 0 where
  pub replies : List Reply
  pub one_each : length replies ≡ length steps
  pub queue : Queue
  pub worker : Core
  pub last : Rolling MemoryFolder F
  pub number : ℕ
  pub room : ℕ
  pub lines : LinesFollow config (start_of config start number room) (with_replies steps replies) limit lossy queue worker
  pub runs : RunsFrom kind (WorkerDoes kind config (start_of config start number room)) config start number room folder (with_replies steps replies) last
  pub page_is : page ≡ queued_page (file_name_of config (stamp start number)) replies (state_of last.folder).content (queue_counts queue)

-- the log was not opened, and the page has the reason
pub record IsRefusedPage {F : Type 0} (kind : Ghosts MemoryFolder F) (config : Config) (folder : MemoryFolder) (start : ℤ) (page : List ℕ) : Type 0 where
  pub error : InitError
  pub back : MemoryFolder
  pub refused : OpensNoRoller kind config start folder error back
  pub page_is : page ≡ refusal_page error (state_of back).content

-- if no step was run, the page has the reason; there is no page if memory was refused
abbrev pub IsRefusalPage : ReplayError MemoryFolder → List ℕ → Type 0
IsRefusalPage (NoMemory back) page = ⊥
IsRefusalPage (Init error back) page = page ≡ refusal_page error (state_of back).content

abbrev pub IsPlayPage : {F : Type 0} → Ghosts MemoryFolder F → Config → MemoryFolder → ℤ → Plan → Opening → List ℕ → Type 0
IsPlayPage kind config folder start (rolling steps) Opened page = IsRunPage kind config folder start steps page
IsPlayPage kind config folder start (queued limit lossy steps) Opened page = IsQueuedRunPage kind config folder start limit lossy steps page
IsPlayPage kind config folder start plan Refused page = IsRefusedPage kind config folder start page

-- the text is a script, and the page is that of its run
pub record Plays {F : Type 0} (kind : Ghosts MemoryFolder F) (opening : Opening) (text page : List ℕ) : Type 0 where
  pub config : Config
  pub folder : MemoryFolder
  pub start : ℤ
  pub plan : Plan
  pub script : IsScript text config (state_of folder) start plan
  pub page_of : IsPlayPage kind config folder start plan opening page

-- the whole input, if it is known
abbrev pub IsGiven : Option (List ℕ) → List ℕ → Type 0
IsGiven given text = IfSome given (λ bytes. bytes ≡ text)

-- the whole page of the given script was written, and nothing else
pub record Prints {F : Type 0} (kind : Ghosts MemoryFolder F) (opening : Opening) (given old new : Option (List ℕ)) : Type 0 where
  pub text : List ℕ
  pub page : List ℕ
  pub given_is : IsGiven given text
  pub plays : Plays kind opening text page
  pub appends : Appends old new page

-- the given script was played, and its page was not written
pub record IsUnwritten {F : Type 0} (kind : Ghosts MemoryFolder F) (given : Option (List ℕ)) : Type 0 where
  pub text : List ℕ
  pub opening : Opening
  pub page : List ℕ
  pub given_is : IsGiven given text
  pub plays : Plays kind opening text page

-- ---- failures

-- the report for each failure
abbrev pub failure_words : Failure → List ℕ
failure_words (Line number) = with_newline (codes "line " ++ (decimal number ++ codes ": fault"))
failure_words Script = with_newline (codes "bad script")
failure_words Read = with_newline (codes "read failed")
failure_words Write = []
failure_words Memory = with_newline (codes "no memory")

abbrev pub failure_status : Failure → ℕ
failure_status (Line number) = 2
failure_status Script = 2
failure_status Read = 2
failure_status Write = 2
failure_status Memory = 3

-- a fault of a script is one of its lines
abbrev pub failure_of : ScriptError → Failure
failure_of (Fault number) = Line number
failure_of OutOfMemory = Memory

-- the input is not UTF-8, or is longer than the limit of a script, 1 MiB
abbrev pub IsNoText : Option (List ℕ) → Type 0
IsNoText given = (text : List ℕ) × IsGiven given text × ((1048576 < length text) ⊎ ¬ (IsUtf8 text))

-- the results of reading the script
abbrev pub IsOfReading : Option (List ℕ) → Failure → Type 0
IsOfReading given (Line number) = ⊥
IsOfReading given Write = ⊥
IsOfReading given Script = IsNoText given
IsOfReading given failure = Unit {0}

-- the effect of each failure on the input and the output; only a fault of writing changes something
abbrev pub Fails : {F : Type 0} → Ghosts MemoryFolder F → Failure → Option (List ℕ) → Type 0 → Type 0
Fails kind (Line number) given Same = ((text : List ℕ) × IsGiven given text × HasFirstFault text number) × Same
Fails kind Script given Same = IsNoText given × Same
Fails kind Write given Same = IsUnwritten kind given
Fails kind failure given Same = Same

-- One failure has this status. It is the failure of the input and the output, and a prefix of its words was added to
-- the errors.
pub record Reports {F : Type 0} (kind : Ghosts MemoryFolder F) (status : ℕ) (given old new errors_old errors_new : Option (List ℕ)) : Type 0 where
  pub failure : Failure
  pub status_is : status ≡ failure_status failure
  pub fails : Fails kind failure given (Keeps old new)
  pub words : AppendsBeginning errors_old errors_new (failure_words failure)
