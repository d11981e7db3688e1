-- Whole scripts: the allowed place of each line, and what the line sets.
use Rattle.std.specs.Prelude.{◌≡◌, ◌≢◌, ◌⊎◌, ℕ, zero, suc, ℤ, Bool, true, false, not, List, [], ◌∷◌, ◌++◌, All, Option, None, Some, is_some, string_bytes, if◌then◌else◌}
use Rattle.std.specs.FinMap as fin
use Rattle.std.specs.FinSet as set
use Rattle.appender_store.specs.Content.{Link as ToLink, Folder as ToFolder}
use Rattle.appender_store.specs.declared.store.put.PutError.{PutError}
use Rattle.appender_store.specs.declared.store.put.PutError.TheVariants.{Name, Used, Memory as OutOfMemory}
use Rattle.appender_store.specs.MemoryPut.{put_refusal}
use Rattle.appender_store.specs.MemoryState.{MemoryState, empty_state, lesser_limit, with_file, with_entry}
use Rattle.appender_rolling.specs.Config.{Config, defaults}
use Rattle.appender_replay.specs.declared.replay.RollStep.{RollStep}
use Rattle.appender_replay.specs.declared.replay.whole.Step.{Step as StepOfQueue}
use Rattle.rollplay_core.specs.declared.line.Queueing.{Queueing}
use Rattle.rollplay_core.specs.declared.line.ScriptLine.{ScriptLine}
use Rattle.rollplay_core.specs.declared.line.ScriptLine.TheVariants.{Setting as Sets, Start, Step, QueueStep}
use Rattle.rollplay_core.specs.declared.line.Setting.{Setting}
use Rattle.rollplay_core.specs.declared.line.Setting.TheVariants.{Rotation, Prefix, Suffix, Link, Max, ByName, Continue, Bytes, Created, File, Folder, LinkAt, Absent, Fail, Short, Queue}
use Rattle.rollplay_core.specs.Line.{IsScriptLine, IsNoScriptLine}
use Rattle.rollplay_core.specs.declared.words.LineError.{LineError}
use Rattle.rollplay_core.specs.declared.words.LineError.TheVariants.{Fault, Memory}

-- A script as far as it was read: whether anything was set up, the configuration of the log, and the folder before it.
-- Then the queue if there is one, the moment of the opening once it is known, and the steps so far.
-- The steps are those of a log without a queue and those of a queue.
pub record Progress : Type 0 where
  pub begun : Bool
  pub config : Config
  pub folder : MemoryState
  pub queueing : Option Queueing
  pub start : Option ℤ
  pub steps : List RollStep
  pub queue_steps : List StepOfQueue

-- before the first line
abbrev pub nothing_read : Progress
nothing_read = record {
  begun = false;
  config = defaults;
  folder = empty_state true;
  queueing = None;
  start = None;
  steps = [];
  queue_steps = [];
}

-- nothing can be put under the name
abbrev pub is_no_name : MemoryState → List ℕ → Bool
is_no_name folder name = is_some (put_refusal folder.content.names name)

-- the fault of a line whose put was refused
abbrev pub error_of_put : PutError → LineError
error_of_put Name = Fault
error_of_put Used = Fault
error_of_put OutOfMemory = Memory

-- a line that puts something under an invalid name
abbrev pub is_refused_put : Setting → MemoryState → Bool
is_refused_put (File name text) folder = is_no_name folder name.now
is_refused_put (Folder name) folder = is_no_name folder name.now
is_refused_put (LinkAt name target) folder = is_no_name folder name.now
is_refused_put setting folder = false

-- a setup that is not allowed now: such a put, or an absent folder in a line that is not the first
abbrev pub is_refused : Setting → Progress → Bool
is_refused Absent p = p.begun
is_refused setting p = is_refused_put setting p.folder

-- A line that is not allowed here. Settings are before the start, which is there once, and steps are after it.
-- The steps are those of a queue if there is one, else those of a log without a queue.
abbrev pub is_misplaced : ScriptLine → Progress → Bool
is_misplaced (Sets setting) p = if is_some p.start then true else is_refused setting p
is_misplaced (Start m) p = is_some p.start
is_misplaced (Step step) p = if is_some p.start then is_some p.queueing else true
is_misplaced (QueueStep step) p = if is_some p.start then not (is_some p.queueing) else true

abbrev pub config_after : Setting → Config → Config
config_after (Rotation r) c = record c { rotation = r }
config_after (Prefix text) c = record c { prefix = string_bytes text }
config_after (Suffix text) c = record c { suffix = string_bytes text }
config_after (Link text) c = record c { link = string_bytes text }
config_after (Max n) c = record c { max_files = n }
config_after ByName c = record c { by_name = true }
config_after Continue c = record c { continues = true }
config_after (Bytes n) c = record c { max_bytes = n }
config_after setting c = c

abbrev pub folder_after : Setting → MemoryState → MemoryState
folder_after (Created moment) s = record s { created = moment }
folder_after (File name text) s = with_file s name.now (string_bytes text)
folder_after (Folder name) s = with_entry s name.now ToFolder
folder_after (LinkAt name target) s = with_entry s name.now (ToLink target.now)
folder_after Absent s = empty_state false
folder_after (Fail call) s = record s { failing = set.insert s.failing call }
folder_after (Short call limit) s =
    record s { shortened = fin.insert s.shortened call (lesser_limit (fin.get s.shortened call) limit) }
folder_after setting s = s

abbrev pub queueing_after : Setting → Option Queueing → Option Queueing
queueing_after (Queue given) queueing = Some given
queueing_after setting queueing = queueing

abbrev pub progress_after_setting : Setting → Progress → Progress
progress_after_setting setting p = record p {
  begun = true;
  config = config_after setting p.config;
  folder = folder_after setting p.folder;
  queueing = queueing_after setting p.queueing;
}

-- what a line adds
abbrev pub progress_after_line : ScriptLine → Progress → Progress
progress_after_line (Sets setting) p = progress_after_setting setting p
progress_after_line (Start m) p = record p { start = Some m }
progress_after_line (Step step) p = record p { steps = p.steps ++ step ∷ [] }
progress_after_line (QueueStep step) p = record p { queue_steps = p.queue_steps ++ step ∷ [] }

-- the text is a line that is allowed here, and was added
pub record AddsLine (text : List ℕ) (old new : Progress) : Type 0 where
  pub line : ScriptLine
  pub reads : IsScriptLine text line
  pub fits : is_misplaced line old ≡ false
  pub after : new ≡ progress_after_line line old

-- the text is no line, or one that is not allowed here
abbrev pub IsFaultyLine : List ℕ → Progress → Type 0
IsFaultyLine text p = IsNoScriptLine text ⊎ ((line : ScriptLine) × IsScriptLine text line × (is_misplaced line p ≡ true))

-- ---- line by line

-- the first line of a text, and the text after its newline; the last line may have no newline
pub record BeginsWithLine (text line rest : List ℕ) : Type 0 where
  pub one : All (λ b. b ≢ 10) line
  pub join : (text ≡ line ++ (10 ∷ rest)) ⊎ ((text ≡ line) × (rest ≡ []))
  pub some : text ≢ []

-- After this number of lines of the text, each allowed in its place, this rest is left. The script was read this far.
abbrev pub ReadsLines : List ℕ → ℕ → List ℕ → Progress → Type 0
ReadsLines text zero rest p = (rest ≡ text) × (p ≡ nothing_read)
ReadsLines text (suc k) rest p = (before : List ℕ) × (line : List ℕ) × (q : Progress)
    × ReadsLines text k before q × BeginsWithLine before line rest × AddsLine line q p

-- The steps of an open log: those of just the log, or those of a worker and a queue of this number of lines.
-- The queue is lossy or not.
pub data Plan : Type 0 where
  rolling : List RollStep → Plan
  queued : ℕ → Bool → List StepOfQueue → Plan

-- the choice depends on whether there is a queue
abbrev pub plan_with : Option Queueing → List RollStep → List StepOfQueue → Plan
plan_with None steps queue_steps = rolling steps
plan_with (Some queueing) steps queue_steps = queued queueing.limit queueing.lossy queue_steps

-- The parts of a script that was read: the configuration of the log, the folder before, the moment, and the steps.
pub record HasParts (p : Progress) (config : Config) (folder : MemoryState) (start : ℤ) (plan : Plan) : Type 0 where
  pub config_is : p.config ≡ config
  pub folder_is : p.folder ≡ folder
  pub start_is : p.start ≡ Some start
  pub plan_is : plan_with p.queueing p.steps p.queue_steps ≡ plan

-- all lines of the text were taken, and they give this
pub record IsScript (text : List ℕ) (config : Config) (folder : MemoryState) (start : ℤ) (plan : Plan) : Type 0 where
  pub lines : ℕ
  pub progress : Progress
  pub reached : ReadsLines text lines [] progress
  pub gives : HasParts progress config folder start plan

-- the next line is faulty; if nothing is left, the start is missing
abbrev pub HasFaultNext : List ℕ → Progress → Type 0
HasFaultNext [] p = p.start ≡ None
HasFaultNext (b ∷ bs) p = (line : List ℕ) × (rest : List ℕ) × BeginsWithLine (b ∷ bs) line rest × IsFaultyLine line p

-- the first fault is in the line of this number, counted from 1
pub record HasFirstFault (text : List ℕ) (number : ℕ) : Type 0 where
  pub taken : ℕ
  pub counted : number ≡ suc taken
  pub rest : List ℕ
  pub progress : Progress
  pub reached : ReadsLines text taken rest progress
  pub stops : HasFaultNext rest progress
