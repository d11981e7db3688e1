-- Faults as they are reported, and the status of a process.
use Rattle.std.specs.Prelude.{◌≡◌, ℕ, Bool, true, false, if◌then◌else◌, List, [], ◌∷◌, ◌++◌, Option, None, Some, IfSome, String, string_bytes, codes}
use Rattle.std.specs.declared.alloc.Global.{Global}
use Rattle.appender_names.specs.RotationText.{IsNoRotation}
use Rattle.program_io.specs.Report.{AppendsBeginning}
use Rattle.std.specs.declared.io.ErrorKind.{ErrorKind}
use Rattle.std.specs.declared.io.ErrorKind.TheVariants.{OutOfMemory}
use Rattle.std.specs.IoError.{error_kind}
use Rattle.program_io.specs.declared.ArgumentFault.{ArgumentFault}
use Rattle.program_io.specs.declared.ArgumentFault.TheVariants.{NotText, Memory as NoArguments}
use Rattle.program_io.specs.declared.CopyFault.{CopyFault}
use Rattle.program_io.specs.declared.CopyFault.TheVariants.{Read as Failed, Write as Refused, Cut}
use Rattle.program_io.specs.declared.options.OptionFault.{OptionFault}
use Rattle.program_io.specs.declared.options.OptionFault.TheVariants.{Unknown as UnknownWord, Wrong, Memory as NoMemory}
use Rattle.rolltee_core.specs.Losses.{nothing_lost}
use Rattle.rolltee_core.specs.declared.tee.Fault.{Fault}
use Rattle.rolltee_core.specs.declared.tee.Fault.TheVariants.{Usage, Unknown, Option as OfOption, Argument, Open, Locked, Thread, Input, Read, Write, Lost, Pending, Memory}

-- the first argument is the word for no rotation
abbrev pub NamesNoRotation : List (String Global) → Type 0
NamesNoRotation arguments =
    (rotation : String Global) × (others : List (String Global)) × (arguments ≡ rotation ∷ others) × IsNoRotation (string_bytes rotation)

-- the second argument, which names the folder of the log, is empty
abbrev pub HasNoFolder : List (String Global) → Type 0
HasNoFolder arguments =
    (rotation folder : String Global) × (others : List (String Global)) × (arguments ≡ rotation ∷ folder ∷ others) × (string_bytes folder ≡ [])

-- the fault, or that memory was refused if its cause is of that kind
abbrev pub tee_fault_unless_memory : ErrorKind → Fault → Fault
tee_fault_unless_memory OutOfMemory fault = Memory
tee_fault_unless_memory kind fault = fault

-- the fault of lines that were not copied
abbrev pub copying_fault : CopyFault → Fault
copying_fault (Failed error) = tee_fault_unless_memory (error_kind error) (Read error)
copying_fault (Refused error) = tee_fault_unless_memory (error_kind error) (Write nothing_lost)
copying_fault Cut = Write nothing_lost

-- the fault of a command line that was not read
abbrev pub tee_options_fault : OptionFault → Fault
tee_options_fault (UnknownWord word) = Unknown word
tee_options_fault (Wrong option error) = OfOption option error
tee_options_fault NoMemory = Memory

-- the fault of arguments that were not read
abbrev pub tee_arguments_fault : ArgumentFault → Fault
tee_arguments_fault (NotText word) = Argument word
tee_arguments_fault NoArguments = Memory

-- the status of a process that a fault ended
abbrev pub tee_status : Fault → ℕ
tee_status Usage = 2
tee_status (Unknown word) = 2
tee_status (OfOption option error) = 2
tee_status (Argument word) = 2
tee_status (Open error) = 1
tee_status Locked = 1
tee_status Thread = 1
tee_status Input = 1
tee_status (Read error) = 1
tee_status (Write losses) = 1
tee_status (Lost losses) = 1
tee_status Pending = 1
tee_status Memory = 3

-- the report of a fault, on a line; a fault with an error, a word or a number has further words
abbrev pub tee_fault_words : Fault → Option (List ℕ)
tee_fault_words Usage = Some (codes "usage: rolltee ROTATION DIR PREFIX" ++ (10 ∷ []))
tee_fault_words (Unknown word) = None
tee_fault_words (OfOption option error) = None
tee_fault_words (Argument word) = None
tee_fault_words (Open error) = None
tee_fault_words Locked = Some (codes "another rolltee --keep writes this log" ++ (10 ∷ []))
tee_fault_words Thread = Some (codes "no thread" ++ (10 ∷ []))
tee_fault_words Input = Some (codes "input is the log" ++ (10 ∷ []))
tee_fault_words (Read error) = Some (codes "read failed" ++ (10 ∷ []))
tee_fault_words (Write losses) = Some (codes "write failed" ++ (10 ∷ []))
tee_fault_words (Lost losses) = None
tee_fault_words Pending = Some (codes "shutdown pending" ++ (10 ∷ []))
tee_fault_words Memory = Some (codes "no memory" ++ (10 ∷ []))

-- whether the report of a fault begins with the title of the log
abbrev pub is_titled_fault : Fault → Bool
is_titled_fault (Unknown word) = true
is_titled_fault (OfOption option error) = true
is_titled_fault (Argument word) = true
is_titled_fault Locked = true
is_titled_fault Input = true
is_titled_fault (Lost losses) = true
is_titled_fault fault = false

-- the status is that of the fault, and a beginning of its words, if those are known, was added to the errors
pub record ReportsLine (fault : Fault) (status : ℕ) (errors_old errors_new : Option (List ℕ)) : Type 0 where
  pub status_is : status ≡ tee_status fault
  pub words : IfSome (tee_fault_words fault) (AppendsBeginning errors_old errors_new)

-- The same, after a beginning of the title if the report begins with that.
pub record ReportsTeeFault (title : List ℕ) (fault : Fault) (status : ℕ) (errors_old errors_new : Option (List ℕ)) : Type 0 where
  pub titled : Option (List ℕ)
  pub title_is : AppendsBeginning errors_old titled (if is_titled_fault fault then title else [])
  pub line : ReportsLine fault status titled errors_new

-- The fault was reported, and then only more was added.
pub record ExplainsTeeFault (fault : Fault) (status : ℕ) (errors_old errors_new : Option (List ℕ)) : Type 0 where
  pub title : List ℕ
  pub reported : Option (List ℕ)
  pub reports : ReportsTeeFault title fault status errors_old reported
  pub reason : List ℕ
  pub explains : AppendsBeginning reported errors_new reason
