-- What each cause of a refused opening is as a number, and as an error of input and output.
use Rattle.std.specs.Prelude.{ℕ, Option, None, Some}
use Rattle.std.specs.declared.io.Error.{Error}
use Rattle.std.specs.declared.io.ErrorKind.{ErrorKind}
use Rattle.std.specs.declared.io.ErrorKind.TheVariants.{InvalidInput, OutOfMemory}
use Rattle.std.specs.IoError.{error_kind}
use Rattle.appender_names.specs.declared.error.InitError.{InitError}
use Rattle.appender_names.specs.declared.error.InitError.TheVariants.{Directory, File, Symlink, Moment, Name, Memory, Limit}

-- the number that represents the cause
abbrev pub code_of : InitError → ℕ
code_of (Directory e) = 1
code_of (File e) = 2
code_of (Symlink e) = 3
code_of Moment = 4
code_of (Name fault) = 5
code_of Memory = 6
code_of Limit = 7

-- the error of the file system, if that is the cause
abbrev pub cause_of : InitError → Option Error
cause_of (Directory e) = Some e
cause_of (File e) = Some e
cause_of (Symlink e) = Some e
cause_of other = None

-- the kind of the cause as an error of input and output
abbrev pub error_kind_of : InitError → ErrorKind
error_kind_of (Directory e) = error_kind e
error_kind_of (File e) = error_kind e
error_kind_of (Symlink e) = error_kind e
error_kind_of Memory = OutOfMemory
error_kind_of other = InvalidInput
