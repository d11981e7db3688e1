-- The lines of a script, each by itself.
use Rattle.std.specs.Prelude.{◌≡◌, ℕ, ℤ, Bool, true, false, List, [], ◌∷◌, Option, None, Some, String, string_bytes, unwrap_or, codes}
use Rattle.std.specs.declared.alloc.Global.{Global}
use Rattle.appender_names.specs.declared.rotation.Rotation.{Rotation}
use Rattle.appender_names.specs.RotationText.{rotation_word}
use Rattle.appender_replay.specs.declared.replay.RollStep.TheVariants.{See, Put, Write, Flush}
use Rattle.appender_replay.specs.declared.replay.whole.Step.TheVariants.{Offer, Shut, AddSender, DropSender, Work}
use Rattle.rollplay_core.specs.declared.line.ScriptLine.{ScriptLine}
use Rattle.rollplay_core.specs.declared.line.ScriptLine.TheVariants.{Setting, Start, Step, QueueStep}
use Rattle.rollplay_core.specs.declared.line.Setting.TheVariants.{Rotation as SetRotation, Prefix, Suffix, Link, Max, ByName, Continue, Bytes, Created, File, Folder, LinkAt, Absent, Fail, Short, Queue}
use Rattle.rollplay_core.specs.Words.{TakesWord, TakesWordOf}
use Rattle.rollplay_core.specs.Text.{IsEscaped, IsSeconds, IsCreationMoment, IsCount, IsCallNumber}

-- what a full queue does with a line: it drops and counts it, or its sender tries again
abbrev pub mode_word : Bool → List ℕ
mode_word true = codes "lossy"
mode_word false = codes "waiting"

-- the kinds of lines
pub data LineKind : Type 0 where
  rotation : LineKind
  prefix : LineKind
  suffix : LineKind
  link : LineKind
  maximum : LineKind
  byte_limit : LineKind
  by_name : LineKind
  continues : LineKind
  created : LineKind
  file : LineKind
  folder : LineKind
  link_at : LineKind
  absent : LineKind
  failing : LineKind
  shortened : LineKind
  start : LineKind
  see : LineKind
  put : LineKind
  write : LineKind
  flush : LineKind
  queue : LineKind
  offer : LineKind
  shut : LineKind
  add : LineKind
  drop : LineKind
  work : LineKind

-- the word that a line of each kind begins with
abbrev pub first_word : LineKind → List ℕ
first_word rotation = codes "rotation"
first_word prefix = codes "prefix"
first_word suffix = codes "suffix"
first_word link = codes "link"
first_word maximum = codes "max"
first_word byte_limit = codes "bytes"
first_word by_name = codes "by-name"
first_word continues = codes "continue"
first_word created = codes "created"
first_word file = codes "file"
first_word folder = codes "folder"
first_word link_at = codes "link-at"
first_word absent = codes "absent"
first_word failing = codes "fail"
first_word shortened = codes "short"
first_word start = codes "start"
first_word see = codes "see"
first_word put = codes "put"
first_word write = codes "write"
first_word flush = codes "flush"
first_word queue = codes "queue"
first_word offer = codes "offer"
first_word shut = codes "shut"
first_word add = codes "add"
first_word drop = codes "drop"
first_word work = codes "work"

-- the kinds of lines in the order in which they are looked for: how the log is kept
abbrev pub log_kinds : List LineKind
log_kinds = rotation ∷ prefix ∷ suffix ∷ link ∷ maximum ∷ byte_limit ∷ by_name ∷ continues ∷ []

-- the entries of the folder, and which of its calls fail
abbrev pub folder_kinds : List LineKind
folder_kinds = created ∷ file ∷ folder ∷ link_at ∷ absent ∷ failing ∷ shortened ∷ []

-- the start, and the steps of a run without a queue
abbrev pub run_kinds : List LineKind
run_kinds = start ∷ see ∷ put ∷ write ∷ flush ∷ []

-- the queue, and the steps of a run with one
abbrev pub queue_kinds : List LineKind
queue_kinds = queue ∷ offer ∷ shut ∷ add ∷ drop ∷ work ∷ []

-- the rest of a line is a text, which may be missing if it is empty
pub record TakesText (old : Option (List ℕ)) (plain : List ℕ) (new : Option (List ℕ)) : Type 0 where
  pub text : IsEscaped plain (unwrap_or old [])
  pub all : new ≡ None

-- The text after the first word of a line of each kind, the line that it gives, and the rest.
abbrev pub HasArguments : LineKind → Option (List ℕ) → ScriptLine → Option (List ℕ) → Type 0
HasArguments rotation rest line left =
    (r : Rotation) × (line ≡ Setting (SetRotation r)) × TakesWordOf (λ word. word ≡ rotation_word r) rest left
HasArguments prefix rest line left =
    (text : String Global) × (line ≡ Setting (Prefix text)) × TakesText rest (string_bytes text) left
HasArguments suffix rest line left =
    (text : String Global) × (line ≡ Setting (Suffix text)) × TakesText rest (string_bytes text) left
HasArguments link rest line left =
    (text : String Global) × (line ≡ Setting (Link text)) × TakesText rest (string_bytes text) left
HasArguments maximum rest line left =
    (n : ℕ) × (line ≡ Setting (Max n)) × TakesWordOf (λ word. IsCount word n) rest left
HasArguments byte_limit rest line left =
    (n : ℕ) × (line ≡ Setting (Bytes n)) × TakesWordOf (λ word. IsCount word n) rest left
HasArguments by_name rest line left = (line ≡ Setting ByName) × (left ≡ rest)
HasArguments continues rest line left = (line ≡ Setting Continue) × (left ≡ rest)
HasArguments created rest line left =
    (moment : Option ℤ) × (line ≡ Setting (Created moment)) × TakesWordOf (λ word. IsCreationMoment word moment) rest left
HasArguments file rest line left =
    (name : _) × (text : String Global) × (line ≡ Setting (File name text))
    × ((behind : Option (List ℕ)) × TakesWord rest name.now behind × TakesText behind (string_bytes text) left)
HasArguments folder rest line left =
    (name : _) × (line ≡ Setting (Folder name)) × TakesWord rest name.now left
HasArguments link_at rest line left =
    (name : _) × (target : _) × (line ≡ Setting (LinkAt name target))
    × ((behind : Option (List ℕ)) × TakesWord rest name.now behind × TakesWord behind target.now left)
HasArguments absent rest line left = (line ≡ Setting Absent) × (left ≡ rest)
HasArguments failing rest line left =
    (call : ℕ) × (line ≡ Setting (Fail call)) × TakesWordOf (λ word. IsCallNumber word call) rest left
HasArguments shortened rest line left =
    (call : ℕ) × (limit : ℕ) × (line ≡ Setting (Short call limit))
    × ((behind : Option (List ℕ)) × TakesWordOf (λ word. IsCallNumber word call) rest behind × TakesWordOf (λ word. IsCount word limit) behind left)
HasArguments start rest line left =
    (m : ℤ) × (line ≡ Start m) × TakesWordOf (λ word. IsSeconds word m) rest left
HasArguments see rest line left =
    (m : ℤ) × (line ≡ Step (See m)) × TakesWordOf (λ word. IsSeconds word m) rest left
HasArguments put rest line left =
    (m : ℤ) × (bytes : _) × (line ≡ Step (Put m bytes))
    × ((behind : Option (List ℕ)) × TakesWordOf (λ word. IsSeconds word m) rest behind × TakesText behind bytes.items left)
HasArguments write rest line left =
    (bytes : _) × (line ≡ Step (Write bytes)) × TakesText rest bytes.items left
HasArguments flush rest line left = (line ≡ Step Flush) × (left ≡ rest)
HasArguments queue rest line left =
    (limit : ℕ) × (lossy : Bool) × (line ≡ Setting (Queue (record { limit = limit; lossy = lossy })))
    × ((behind : Option (List ℕ)) × TakesWordOf (λ word. IsCount word limit) rest behind × TakesWordOf (λ word. word ≡ mode_word lossy) behind left)
HasArguments offer rest line left =
    (label : ℕ) × (bytes : _) × (line ≡ QueueStep (Offer label bytes))
    × ((behind : Option (List ℕ)) × TakesWordOf (λ word. IsCount word label) rest behind × TakesText behind bytes.items left)
HasArguments shut rest line left = (line ≡ QueueStep Shut) × (left ≡ rest)
HasArguments add rest line left = (line ≡ QueueStep AddSender) × (left ≡ rest)
HasArguments drop rest line left = (line ≡ QueueStep DropSender) × (left ≡ rest)
HasArguments work rest line left =
    (m : ℤ) × (line ≡ QueueStep (Work m)) × TakesWordOf (λ word. IsSeconds word m) rest left

-- after this first word, a line continues like this
pub record ContinuesWith (word : List ℕ) (rest : Option (List ℕ)) (line : ScriptLine) (left : Option (List ℕ)) : Type 0 where
  pub kind : LineKind
  pub is : word ≡ first_word kind
  pub arguments : HasArguments kind rest line left

-- after this first word, it is no line of this kind
abbrev pub IsNotOf : List ℕ → Option (List ℕ) → LineKind → Type 0
IsNotOf word rest kind =
    word ≡ first_word kind → (line : ScriptLine) → (left : Option (List ℕ)) → ¬ HasArguments kind rest line left

-- a line begins with the word of its kind, and its arguments follow
pub record BeginsWith (old : Option (List ℕ)) (line : ScriptLine) (new : Option (List ℕ)) : Type 0 where
  pub kind : LineKind
  pub rest : Option (List ℕ)
  pub word : TakesWord old (first_word kind) rest
  pub arguments : HasArguments kind rest line new

-- the whole text is this line
abbrev pub IsScriptLine : List ℕ → ScriptLine → Type 0
IsScriptLine text line = BeginsWith (Some text) line None

-- it is no line
abbrev pub IsNoScriptLine : List ℕ → Type 0
IsNoScriptLine text = (line : ScriptLine) → ¬ IsScriptLine text line
