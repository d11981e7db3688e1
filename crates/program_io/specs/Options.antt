-- The options of a command line.
use Rattle.std.specs.Prelude.{◌≡◌, ◌≢◌, ◌==◌, ◌&&◌, ◌||◌, if◌then◌else◌, ◌⊎◌, ◌<◌, ◌≤◌, ◌-◌, ◌*◌, ◌^◌, ℕ, zero, suc, Bool, true, false, List, [], ◌∷◌, ◌++◌, String, string_bytes, Option, None, Some, is_some, option_and_then, option_map, codes, find, length, map, slice_get, take, Contains}
use Rattle.std.specs.Char.{is_ascii_digit}
use Rattle.std.specs.Str.Parse.{IsNumeral, digits_value}
use Rattle.std.specs.declared.alloc.Global.{Global}
use denote.Enum.Bare.{sameb}
use Rattle.program_io.specs.contracts.options.OptionName.{the_type}
use Rattle.program_io.specs.declared.options.Options.{Options}
use Rattle.program_io.specs.declared.options.OptionName.{OptionName}
use Rattle.program_io.specs.declared.options.OptionName.TheVariants.{Keep, MaxBytes, Suffix, Link, Queue, Lossy, NoWait, Sync, Echo, Timestamps, WholeLines, Direct}
use Rattle.program_io.specs.declared.options.Kind.{Kind}
use Rattle.program_io.specs.declared.options.Kind.TheVariants as kind
use Rattle.program_io.specs.declared.options.Given.{Given}
use Rattle.program_io.specs.declared.options.Given.TheVariants as given
use Rattle.program_io.specs.declared.options.OptionError.{OptionError}
use Rattle.program_io.specs.declared.options.OptionError.TheVariants.{Missing, Twice, Count, ByteCount}
use Rattle.program_io.specs.declared.options.OptionFault.{OptionFault}
use Rattle.program_io.specs.declared.options.OptionFault.TheVariants.{Unknown, Wrong, Memory as NoMemory}
use Rattle.program_io.specs.declared.options.Request.{Request}
use Rattle.program_io.specs.declared.options.Request.TheVariants.{Help as AsksHelp, Version as AsksVersion, Run}
use Rattle.program_io.specs.declared.options.Next.{Next}
use Rattle.program_io.specs.declared.options.Next.TheVariants.{Any, Value, Argument, Help, Version}
use Rattle.program_io.specs.declared.options.Reading.{Reading}

abbrev pub begins_with_dash : List ℕ → Bool
begins_with_dash [] = false
begins_with_dash (byte ∷ bytes) = byte == 45

-- a dash and a digit, as a negative number begins
abbrev pub begins_negative : List ℕ → Bool
begins_negative [] = false
begins_negative (byte ∷ []) = false
begins_negative (byte ∷ digit ∷ bytes) = (byte == 45) && is_ascii_digit digit

-- ---- values

-- a decimal number from 1: digits, and nothing else
pub record IsPositiveNumber (word : List ℕ) (n : ℕ) : Type 0 where
  pub digits : IsNumeral 10 word
  pub value : n ≡ digits_value 10 word
  pub from_one : 1 ≤ n

-- the number of bytes of the unit of a letter, which may be small
abbrev pub unit_bytes : ℕ → Option ℕ
unit_bytes letter =
    if (letter == 75) || (letter == 107) then Some 1024
    else if (letter == 77) || (letter == 109) then Some 1048576
    else if (letter == 71) || (letter == 103) then Some 1073741824 else None

-- the text before the letter of a unit, and the bytes of that; without a letter one byte
abbrev pub split_unit : List ℕ → List ℕ × ℕ
split_unit text =
    elim (option_and_then unit_bytes (slice_get text (length text - 1))) [
      | Some bytes ↦ (take (length text - 1) text, bytes)
      | None ↦ (text, 1)
    ]

-- a number from 1, times the bytes of its unit
abbrev pub IsByteCount : List ℕ → ℕ → Type 0
IsByteCount text n = (count : ℕ) × IsPositiveNumber (split_unit text).0 count × (n ≡ count * (split_unit text).1)

-- what this text gives for an option with a value of this kind
abbrev pub IsValue : Kind → List ℕ → Given → Type 0
IsValue kind.Count text (given.Number n) = IsPositiveNumber text n
IsValue kind.Bytes text (given.Number n) = IsByteCount text n
IsValue kind.Text text (given.Text value) = (text ≢ []) × (string_bytes value ≡ text)
IsValue kind.Flag text given.Flag = Unit {0}
IsValue kind text value = ⊥

-- this text is no value of this kind; a number has 64 bits
abbrev pub IsNoValue : Kind → List ℕ → Type 0
IsNoValue kind.Count text = (n : ℕ) → n < 2 ^ 64 → ¬ IsPositiveNumber text n
IsNoValue kind.Bytes text = (n : ℕ) → n < 2 ^ 64 → ¬ IsByteCount text n
IsNoValue kind.Text text = text ≡ []
IsNoValue kind.Flag text = ⊥

-- the reason why a number is no value of this kind; a text has none
abbrev pub kind_error : Kind → OptionError
kind_error kind.Count = Count
kind_error kind.Bytes = ByteCount
kind_error kind = Missing

-- ---- options

abbrev pub option_word : OptionName → List ℕ
option_word Keep = codes "--keep"
option_word MaxBytes = codes "--max-bytes"
option_word Suffix = codes "--suffix"
option_word Link = codes "--link"
option_word Queue = codes "--queue"
option_word Lossy = codes "--lossy"
option_word NoWait = codes "--no-wait"
option_word Sync = codes "--sync"
option_word Echo = codes "--echo"
option_word Timestamps = codes "--timestamps"
option_word WholeLines = codes "--whole-lines"
option_word Direct = codes "--direct"

-- what the value of an option is
abbrev pub option_kind : OptionName → Kind
option_kind Keep = kind.Count
option_kind MaxBytes = kind.Bytes
option_kind Suffix = kind.Text
option_kind Link = kind.Text
option_kind Queue = kind.Count
option_kind name = kind.Flag

-- no option is set
abbrev pub AreDefaults : Options → Type 0
AreDefaults o = o.given.items ≡ []

-- what was given for an option
abbrev pub given_of : OptionName → Options → Option Given
given_of name o = option_map (λ g. g.1) (find (λ g. sameb the_type g.0 name) o.given.items)

-- the option was set
abbrev pub has_option : OptionName → Options → Bool
has_option name o = is_some (given_of name o)

-- the number that was given for an option, or 0
abbrev pub number_of : OptionName → Options → ℕ
number_of name o = elim (given_of name o) [ Some (given.Number n) ↦ n | _ ↦ 0 ]

-- the text that was given for an option, or an empty one
abbrev pub text_of : OptionName → Options → List ℕ
text_of name o = elim (given_of name o) [ Some (given.Text text) ↦ string_bytes text | _ ↦ [] ]

-- the option was not set before, and has this value now; nothing else changed
abbrev pub SetsOption : OptionName → List ℕ → Options → Options → Type 0
SetsOption name value old new =
    (has_option name old ≡ false)
    × ((given : Given) × IsValue (option_kind name) value given × (new.given.items ≡ old.given.items ++ ((name, given) ∷ [])))

-- ---- words

-- the meaning of the next word after this one
abbrev pub IsNextAfter : List ℕ → Next → Type 0
IsNextAfter word Any = ⊥
IsNextAfter word (Value name) = (word ≡ option_word name) × (option_kind name ≢ kind.Flag)
IsNextAfter word Argument = word ≡ codes "--"
IsNextAfter word Help = (word ≡ codes "-h") ⊎ (word ≡ codes "--help")
IsNextAfter word Version = word ≡ codes "--version"

-- the word is one more argument
pub record AddsArgument (word : List ℕ) (old new : Reading) : Type 0 where
  pub argument : String Global
  pub bytes : string_bytes argument ≡ word
  pub arguments : new.arguments.items ≡ old.arguments.items ++ (argument ∷ [])
  pub options : new.options ≡ old.options
  pub next : new.next ≡ old.next

-- the word sets an option to this value: a flag by itself, another with a `=` before the value
abbrev pub IsSetBy : OptionName → List ℕ → List ℕ → Type 0
IsSetBy name value word =
    ((word ≡ option_word name) × (option_kind name ≡ kind.Flag))
    ⊎ ((word ≡ option_word name ++ (61 ∷ value)) × (option_kind name ≢ kind.Flag))

-- The word gives the next one its meaning, sets a flag, or sets an option to the value after its `=`.
abbrev pub ReadsOption : List ℕ → Reading → Reading → Type 0
ReadsOption word old new =
    ((next : Next) × IsNextAfter word next × (new ≡ record old { next = next }))
    ⊎ ((name : OptionName) × (value : List ℕ) × IsSetBy name value word
    × SetsOption name value old.options new.options × (new ≡ record old { options = new.options }))

-- The word is read with the meaning that those before gave it. The value of an option does not begin with a dash.
abbrev pub ReadsWord : Next → List ℕ → Reading → Reading → Type 0
ReadsWord (Value name) word old new =
    (begins_with_dash word ≡ false) × SetsOption name word old.options new.options × (new ≡ record old { options = new.options; next = Any })
ReadsWord Any word old new =
    ((begins_with_dash word ≡ true) × ReadsOption word old new) ⊎ ((begins_with_dash word ≡ false) × AddsArgument word old new)
ReadsWord next word old new = AddsArgument word old new

-- this number of words were read from the left, and these are left
abbrev pub ReadsWords : List (String Global) → ℕ → List (String Global) → Reading → Type 0
ReadsWords words zero rest r = (rest ≡ words) × AreDefaults r.options × (r.arguments.items ≡ []) × (r.next ≡ Any)
ReadsWords words (suc k) rest r =
    (word : String Global) × (before : Reading) × ReadsWords words k (word ∷ rest) before × ReadsWord before.next (string_bytes word) before r

-- The words were read from the left, up to one that asks for the usage or the version, or to the end.
abbrev pub IsRead : List (String Global) → Request → Type 0
IsRead words AsksHelp = (k : ℕ) × (rest : List (String Global)) × (r : Reading) × ReadsWords words k rest r × (r.next ≡ Help)
IsRead words AsksVersion = (k : ℕ) × (rest : List (String Global)) × (r : Reading) × ReadsWords words k rest r × (r.next ≡ Version)
IsRead words (Run options arguments) =
    (k : ℕ) × (r : Reading) × ReadsWords words k [] r × (r.options ≡ options) × (r.arguments ≡ arguments)
    × ((r.next ≡ Any) ⊎ (r.next ≡ Argument))

-- ---- faults

-- the reason why this value of an option is rejected, after these options
abbrev pub IsReason : OptionName → List ℕ → Options → OptionError → Type 0
IsReason name value o error =
    ((error ≡ Twice) × (has_option name o ≡ true)) ⊎ ((error ≡ kind_error (option_kind name)) × IsNoValue (option_kind name) value)

-- the option is rejected for such a reason, or memory ran out
abbrev pub IsWrong : OptionName → (OptionError → Type 0) → OptionFault → Type 0
IsWrong name reason (Wrong word error) = (word.now ≡ option_word name) × reason error
IsWrong name reason (Unknown text) = ⊥
IsWrong name reason NoMemory = Unit {0}

-- A word that begins with a dash is no option, or sets one to a value that is rejected; or memory ran out.
abbrev pub IsWrongOption : List ℕ → Options → OptionFault → Type 0
IsWrongOption word o (Unknown text) =
    (string_bytes text ≡ word) × (begins_with_dash word ≡ true) × ((next : Next) → ¬ IsNextAfter word next)
    × ((name : OptionName) (value : List ℕ) → ¬ IsSetBy name value word)
IsWrongOption word o (Wrong name error) =
    (option : OptionName) × (value : List ℕ) × IsSetBy option value word × (name.now ≡ option_word option) × IsReason option value o error
IsWrongOption word o NoMemory = Unit {0}

-- The word is rejected with the meaning that those before gave it. If one that begins with a dash is no negative number, no value was given.
abbrev pub Rejects : Next → List ℕ → Options → OptionFault → Type 0
Rejects (Value name) word o fault =
    ((begins_with_dash word ≡ true)
    × IsWrong name (λ error. error ≡ (if begins_negative word then kind_error (option_kind name) else Missing)) fault)
    ⊎ ((begins_with_dash word ≡ false) × IsWrong name (IsReason name word o) fault)
Rejects Any word o fault = IsWrongOption word o fault
Rejects next word o fault = fault ≡ NoMemory

-- The words before one were read, and that one is rejected; or all were read, and the last option has no value.
abbrev pub IsFaultOf : List (String Global) → OptionFault → Type 0
IsFaultOf words fault =
    ((k : ℕ) × (word : String Global) × (rest : List (String Global)) × (r : Reading) × ReadsWords words k (word ∷ rest) r
    × Rejects r.next (string_bytes word) r.options fault)
    ⊎ ((k : ℕ) × (r : Reading) × (name : OptionName) × ReadsWords words k [] r × (r.next ≡ Value name) × IsWrong name (λ error. error ≡ Missing) fault)

-- the fault names one of the words, or the option that it is or has before a `=`; or memory ran out
abbrev pub NamesSomeWord : List (String Global) → OptionFault → Type 0
NamesSomeWord words (Unknown text) = (word : String Global) × Contains words word × (string_bytes text ≡ string_bytes word)
NamesSomeWord words (Wrong name error) =
    (word : String Global) × Contains words word
    × ((string_bytes word ≡ name.now) ⊎ ((value : List ℕ) × (string_bytes word ≡ name.now ++ (61 ∷ value))))
NamesSomeWord words NoMemory = Unit {0}

-- ---- requests

-- no option is set, and the arguments are the words
abbrev pub IsPlain : List (String Global) → Request → Type 0
IsPlain words AsksHelp = ⊥
IsPlain words AsksVersion = ⊥
IsPlain words (Run options arguments) = AreDefaults options × (map string_bytes arguments.items ≡ map string_bytes words)

-- no word begins with a dash
abbrev pub AreUndashed : List (String Global) → Type 0
AreUndashed [] = Unit {0}
AreUndashed (word ∷ words) = (begins_with_dash (string_bytes word) ≡ false) × AreUndashed words
