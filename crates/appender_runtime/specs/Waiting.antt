-- Faults of a write that may pass by themselves, and what is written before one that does not.
use Rattle.std.specs.Prelude.{◌≡◌, ◌≢◌, ◌⊎◌, ℕ, pos, List, Option, Some, take, Bool, true, false}
use Rattle.std.specs.Io.KnownBytes.{Appends}
use Rattle.std.specs.IoError.{error_kind, raw_os_error}
use Rattle.std.specs.declared.io.Error.{Error}
use Rattle.std.specs.declared.io.ErrorKind.{ErrorKind}
use Rattle.std.specs.declared.io.ErrorKind.TheVariants.{StorageFull, QuotaExceeded, WouldBlock, Interrupted, OutOfMemory, WriteZero}
use Rattle.appender_runtime.specs.declared.waiting.Faults.{Faults}
use Rattle.appender_runtime.specs.declared.waiting.Faults.TheVariants.{Temporary, Any}

-- a full disk or quota, or a device that is not ready
abbrev pub is_temporary_kind : ErrorKind → Bool
is_temporary_kind StorageFull = true
is_temporary_kind QuotaExceeded = true
is_temporary_kind WouldBlock = true
is_temporary_kind kind = false

-- an error of these kinds, or an input/output error, which POSIX calls EIO and Linux gives the number 5
abbrev pub IsTemporary : Error → Type 0
IsTemporary error = (is_temporary_kind (error_kind error) ≡ true) ⊎ (raw_os_error error ≡ Some (pos 5))

-- neither an interruption, nor refused memory, nor a write that took nothing
abbrev pub is_any_kind : ErrorKind → Bool
is_any_kind Interrupted = false
is_any_kind OutOfMemory = false
is_any_kind WriteZero = false
is_any_kind kind = true

-- an error that is waited for
abbrev pub IsAwaited : Faults → Error → Type 0
IsAwaited Temporary error = IsTemporary error
IsAwaited Any error = is_any_kind (error_kind error) ≡ true

-- neither is it waited for, nor was the write interrupted
abbrev pub IsPermanent : Faults → Error → Type 0
IsPermanent faults error = ¬ (IsAwaited faults error) × (error_kind error ≢ Interrupted)

-- known bytes grow by the first few of these, or by all of them
abbrev pub AppendsFirst : Option (List ℕ) → Option (List ℕ) → List ℕ → Type 0
AppendsFirst old new bytes = (n : ℕ) × Appends old new (take n bytes)
