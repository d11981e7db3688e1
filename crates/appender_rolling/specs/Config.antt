-- The settings of an appender.
use Rattle.std.specs.Prelude.{◌≡◌, ℕ, ◌≤◌, ℤ, ◌==◌, Bool, true, false, not, if◌then◌else◌, List, [], Option, None, Some, String, string_bytes}
use Rattle.std.specs.declared.alloc.Global.{Global}
use Rattle.appender_names.specs.declared.rotation.Rotation.{Rotation}
use Rattle.appender_names.specs.declared.rotation.RotationKind.TheVariants.{Never}
use Rattle.appender_names.specs.Rotation.{IsMoment, IsNever, rotation_of}
use Rattle.appender_names.specs.Name.{Naming, last_number, IsLaterName}
use Rattle.appender_retain.specs.Rank.{LogFiles}
use Rattle.appender_rolling.specs.declared.rolling.setup.Stamp.{Stamp}

-- What a builder has set. An empty text is none, and so is a maximum of 0 files or 0 bytes. `link_optional` says that an opening succeeds
-- without a link that can't be made, `by_name` that log files are known by just their names, and `continues` that an opening continues the last
-- file of its period.
pub record Config : Type 0 where
  pub rotation : Rotation
  pub prefix : List ℕ
  pub suffix : List ℕ
  pub link : List ℕ
  pub link_optional : Bool
  pub max_files : ℕ
  pub by_name : Bool
  pub max_bytes : ℕ
  pub continues : Bool

-- the defaults: one file for all time, with neither prefix nor suffix, no link and no maximum of files or bytes
abbrev pub defaults : Config
defaults = record { rotation = rotation_of Never; prefix = []; suffix = []; link = []; link_optional = false; max_files = 0; by_name = false; max_bytes = 0; continues = false }

-- a file has a limit of bytes; its name then has a number
abbrev pub is_limited : Config → Bool
is_limited c = not (c.max_bytes == 0)

abbrev pub naming_of : Config → Naming
naming_of c = record { rotation = c.rotation; prefix = c.prefix; suffix = c.suffix; numbered = is_limited c }

-- the log files that retention counts beside the file of this name, or before it is opened
abbrev pub log_files_of : Config → Option (List ℕ) → LogFiles
log_files_of c opened = record { naming = naming_of c; by_name = c.by_name; opened = opened }

-- How many log files retention keeps, the one that is opened among them: before it is opened, or after. By name old files are removed last, so an
-- opening that fails removes none. No maximum is 0, and then retention makes no call.
abbrev pub max_before : Config → ℕ
max_before c = if c.by_name then 0 else c.max_files

abbrev pub max_after : Config → ℕ
max_after c = if c.by_name then c.max_files else 0

-- how many files are kept that aren't counted beside the open one: by name that itself
abbrev pub uncounted : Config → ℕ
uncounted c = if c.by_name then 1 else 0

-- with a limit there have to be periods
abbrev pub MayLimit : Config → Type 0
MayLimit c = is_limited c ≡ true → ¬ (IsNever c.rotation)

abbrev pub stamp : ℤ → ℕ → Stamp
stamp m k = record { moment = m; number = k }

-- the greatest number that a file can have
abbrev pub last_of : Config → ℕ
last_of c = last_number (naming_of c)

-- a stamp that names can have
pub record IsStamp (c : Config) (s : Stamp) : Type 0 where
  pub in_range : IsMoment s.moment
  pub number_is : s.number ≤ last_of c

-- a later moment, or in one moment a greater number
abbrev pub IsLaterStamp : Stamp → Stamp → Type 0
IsLaterStamp a b = IsLaterName a.moment a.number b.moment b.number

-- the bytes of a text, if one is set
abbrev pub text_or_empty : Option (String Global) → List ℕ
text_or_empty None = []
text_or_empty (Some text) = string_bytes text
