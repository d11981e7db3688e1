-- The names of log files, as in the documentation of tracing-appender: prefix, date and suffix, with a dot between each two.
use Rattle.std.specs.Prelude.{◌≡◌, ◌≢◌, ◌↔◌, ℕ, zero, suc, ◌*◌, ◌/◌, ◌%◌, ◌<◌, ◌≤◌, ◌==◌, Bool, true, false, not, ◌&&◌, List, [], ◌∷◌, ◌++◌, ℤ, pos, ◌-ℤ◌, ◌<ℤ◌, Option, None, Some, if◌then◌else◌, unwrap_or, codes, ◌⊎◌}
use Rattle.std.specs.Str.{bytes_eq}
use Rattle.std.specs.Cmp.Lexicographic.{slice_cmp}
use Rattle.std.specs.Ordering.{nat_cmp}
use Rattle.std.specs.declared.cmp.Ordering.TheVariants.{Less}
use Rattle.std.specs.Int.{int_rem_euclid}
use Rattle.std.specs.List.{All, list_all}
use Rattle.std.specs.Option.{option_map}
use Rattle.appender_names.specs.declared.error.InitError.{InitError}
use Rattle.appender_names.specs.declared.error.InitError.TheVariants.{Name, Memory, Limit}
use Rattle.appender_names.specs.declared.error.NameFault.{NameFault}
use Rattle.appender_names.specs.declared.error.NameFault.TheVariants.{Prefix, Suffix}
use Rattle.appender_names.specs.declared.rotation.RotationKind.{RotationKind}
use Rattle.appender_names.specs.declared.rotation.RotationKind.TheVariants.{Never}
use Rattle.appender_names.specs.declared.rotation.Rotation.{Rotation}
use Rattle.appender_names.specs.Rotation.{IsMoment, period_of, IsNever}
use Rattle.appender_names.specs.DateText.{date_text, two_digits, unit_of, IsDated, IsDateText}

-- what the names of one appender are made from; an empty prefix or suffix is none
pub record Naming : Type 0 where
  pub rotation : Rotation
  pub prefix : List ℕ
  pub suffix : List ℕ
  pub numbered : Bool

abbrev pub naming : Rotation → List ℕ → List ℕ → Naming
naming r p s = record { rotation = r; prefix = p; suffix = s; numbered = false }

-- the same of names in which a number follows the date
abbrev pub numbered_naming : Rotation → List ℕ → List ℕ → Naming
numbered_naming r p s = record { rotation = r; prefix = p; suffix = s; numbered = true }

-- a text after the prefix, if one is set, and a dot
abbrev pub after_prefix : List ℕ → List ℕ → List ℕ
after_prefix [] text = text
after_prefix (p ∷ ps) text = (p ∷ ps) ++ (46 ∷ text)

-- a text before a dot and the suffix, if one is set
abbrev pub before_suffix : List ℕ → List ℕ → List ℕ
before_suffix text [] = text
before_suffix text (s ∷ ss) = text ++ (46 ∷ s ∷ ss)

-- a dot and the suffix, if one is set
abbrev pub dotted_suffix : List ℕ → List ℕ
dotted_suffix [] = []
dotted_suffix (s ∷ ss) = 46 ∷ s ∷ ss

-- the name that a date has: `prefix.date.suffix`, `prefix.date`, `date.suffix` or `date`
abbrev pub dated_name : List ℕ → List ℕ → List ℕ → List ℕ
dated_name prefix suffix date = after_prefix prefix (before_suffix date suffix)

-- the name under NEVER: `prefix.suffix`, `prefix`, `suffix` or `date`
abbrev pub undated_name : List ℕ → List ℕ → List ℕ → List ℕ
undated_name [] [] date = date
undated_name [] (s ∷ ss) date = s ∷ ss
undated_name (p ∷ ps) suffix date = before_suffix (p ∷ ps) suffix

abbrev pub name_by : RotationKind → List ℕ → List ℕ → List ℕ → List ℕ
name_by Never prefix suffix date = undated_name prefix suffix date
name_by k prefix suffix date = dated_name prefix suffix date

-- the moment whose date is in the name of a moment: the start of its period, and under NEVER the moment itself
abbrev pub named_moment : Rotation → ℤ → ℤ
named_moment r m = unwrap_or (period_of r m) m

-- a number below 1000000 in six digits
abbrev pub number_text : ℕ → List ℕ
number_text k = two_digits (k / 10000) ++ two_digits (k / 100 % 100) ++ two_digits (k % 100)

-- a date, and after it, where names are numbered, a dot and the number
abbrev pub numbered_date : Bool → List ℕ → ℕ → List ℕ
numbered_date false date k = date
numbered_date true date k = date ++ 46 ∷ number_text k

-- the greatest number that a name can have, which is 0 where names aren't numbered
abbrev pub greatest_number : Bool → ℕ
greatest_number false = 0
greatest_number true = 999999

abbrev pub last_number : Naming → ℕ
last_number n = greatest_number n.numbered

-- what is between prefix and suffix: the date text of s, and the number k where names are numbered
abbrev pub mark_of : Naming → ℤ → ℕ → List ℕ
mark_of n s k = numbered_date n.numbered (date_text n.rotation.kind s) k

-- the name of file number k of those that a moment belongs to
abbrev pub name_at : Naming → ℤ → ℕ → List ℕ
name_at n m k = name_by n.rotation.kind n.prefix n.suffix (mark_of n (named_moment n.rotation m) k)

-- the name of the first file that a moment belongs to; where names aren't numbered there is one
abbrev pub name_of : Naming → ℤ → List ℕ
name_of n m = name_at n m 0

-- no `/` and no zero byte, so that the text is part of one name
abbrev pub IsPart : List ℕ → Type 0
IsPart text = All (λ b. (b ≢ 47) × (b ≢ 0)) text

-- a name that leads to a folder
abbrev pub IsDots : List ℕ → Type 0
IsDots name = (name ≡ codes ".") ⊎ (name ≡ codes "..")

-- the prefix and the suffix that names may have
pub record IsAllowed (r : Rotation) (prefix suffix : List ℕ) : Type 0 where
  pub prefix_is_part : IsPart prefix
  pub suffix_is_part : IsPart suffix
  pub no_dots : IsNever r → ¬ (IsDots (undated_name prefix suffix []))

-- and that numbered names have, which need a date in them
pub record IsNumbering (r : Rotation) (prefix suffix : List ℕ) (numbered : Bool) : Type 0 where
  pub allowed : IsAllowed r prefix suffix
  pub rotates : numbered ≡ true → ¬ (IsNever r)

-- a text that names can't have beside this other one: it has a `/` or a zero byte, or is the whole name and leads to a folder
abbrev pub IsNoPart : Rotation → List ℕ → List ℕ → Type 0
IsNoPart r text other = (¬ IsPart text) ⊎ (IsNever r × IsDots text × (other ≡ []))

-- the prefix or the suffix that is not allowed
abbrev pub IsPartFault : Rotation → List ℕ → List ℕ → NameFault → Type 0
IsPartFault r prefix suffix Prefix = IsNoPart r prefix suffix
IsPartFault r prefix suffix Suffix = IsNoPart r suffix prefix
IsPartFault r prefix suffix other = ⊥

-- No names were made, for this reason. The checks come in this order: prefix and suffix, the rotation if names are numbered, memory.
abbrev pub IsNotNamed : Bool → Rotation → List ℕ → List ℕ → InitError → Type 0
IsNotNamed numbered r prefix suffix (Name fault) = IsPartFault r prefix suffix fault
IsNotNamed numbered r prefix suffix Limit = IsAllowed r prefix suffix × (numbered ≡ true) × IsNever r
IsNotNamed numbered r prefix suffix Memory = IsAllowed r prefix suffix × (numbered ≡ true → ¬ IsNever r)
IsNotNamed numbered r prefix suffix other = ⊥

-- the name of one entry of a folder: not empty, no `/` and no zero byte in it, and neither `.` nor `..`
pub record IsEntry (name : List ℕ) : Type 0 where
  pub is_part : IsPart name
  pub no_dots : ¬ (IsDots name)
  pub some_byte : name ≢ []

-- the same as a test
abbrev pub is_name_byte : ℕ → Bool
is_name_byte b = not (b == 47) && not (b == 0)

abbrev pub is_entry : List ℕ → Bool
is_entry name = not (bytes_eq name []) && not (bytes_eq name (codes ".")) && not (bytes_eq name (codes "..")) && list_all is_name_byte name

-- The name reads as s with the number k: s begins a unit of the rotation (a minute, an hour or a day) in the years 0000 to 9999, and
-- its date is in the name, with this number where names are numbered; else the number is 0.
pub record ReadsAt (n : Naming) (name : List ℕ) (s : ℤ) (k : ℕ) : Type 0 where
  pub dated_second : IsDated s
  pub whole : int_rem_euclid s (pos (unit_of n.rotation.kind)) ≡ pos 0
  pub number_is : k ≤ last_number n
  pub text : name ≡ dated_name n.prefix n.suffix (mark_of n s k)

-- the same of what is between prefix and suffix
pub record IsMark (kind : RotationKind) (numbered : Bool) (mark : List ℕ) (s : ℤ) (k : ℕ) : Type 0 where
  pub date : List ℕ
  pub is_date : IsDateText kind date s
  pub number_is : k ≤ greatest_number numbered
  pub text : mark ≡ numbered_date numbered date k

-- the name reads as s, with any number
abbrev pub Reads : Naming → List ℕ → ℤ → Type 0
Reads n name s = (k : ℕ) × ReadsAt n name s k

-- the start of a whole unit, by its number from 0000-01-01 00:00:00 on
abbrev pub unit_start : RotationKind → ℕ → ℤ
unit_start k i = pos (i * unit_of k) -ℤ pos 62167219200

-- how many numbers a date can have
abbrev pub numbers_of : Naming → ℕ
numbers_of n = suc (last_number n)

-- the second and the number of the name at a place, where names are counted by units, and in a unit by numbers
abbrev pub second_in : Naming → ℕ → ℤ
second_in n i = unit_start n.rotation.kind (i / numbers_of n)

abbrev pub number_in : Naming → ℕ → ℕ
number_in n i = i % numbers_of n

-- of the first names, as many as the number says, the last that is this one: its second and its number
unfoldable pub last_named : Naming → List ℕ → ℕ → Option (ℤ × ℕ)
last_named n name zero = None
last_named n name (suc i) =
    if bytes_eq name (dated_name n.prefix n.suffix (mark_of n (second_in n i) (number_in n i)))
    then Some (second_in n i, number_in n i)
    else last_named n name i

-- the second and the number that a name reads as, if it does, as a function: all names of the years 0000 to 9999 are tried
unfoldable pub reading_at : Naming → List ℕ → Option (ℤ × ℕ)
reading_at n name = last_named n name (315569520000 / unit_of n.rotation.kind * numbers_of n)

-- the second only. Retention needs it as a value, where `Reads` is a relation.
abbrev pub reading : Naming → List ℕ → Option ℤ
reading n name = option_map (λ (key : ℤ × ℕ). key.0) (reading_at n name)

-- the number of a name in the period of a moment, if it has that period
abbrev pub IsNumberIn : Naming → ℤ → List ℕ → ℕ → Type 0
IsNumberIn n m name k = (s : ℤ) × ReadsAt n name s k × (period_of n.rotation s ≡ period_of n.rotation m)

-- what is later: a later period, or in one period a greater number
abbrev pub IsLaterName : ℤ → ℕ → ℤ → ℕ → Type 0
IsLaterName p j q k = (p <ℤ q) ⊎ ((p ≡ q) × (j < k))

-- later periods have greater names, byte by byte, and so have greater numbers in one period
abbrev pub NamesRise : Naming → Type 0
NamesRise n = (a b p q : ℤ) (j k : ℕ) → IsMoment a → IsMoment b → period_of n.rotation a ≡ Some p → period_of n.rotation b ≡ Some q
    → j ≤ last_number n → k ≤ last_number n → IsLaterName p j q k → slice_cmp nat_cmp (name_at n a j) (name_at n b k) ≡ Less

-- moments whose periods have a start, which those of NEVER lack, share a name exactly if they share the period and the number
abbrev pub NamesArePeriods : Naming → Type 0
NamesArePeriods n = (a b p q : ℤ) (j k : ℕ) → IsMoment a → IsMoment b → period_of n.rotation a ≡ Some p → period_of n.rotation b ≡ Some q
    → j ≤ last_number n → k ≤ last_number n → (name_at n a j ≡ name_at n b k) ↔ ((p ≡ q) × (j ≡ k))

-- a period's name reads as its start, with its number
abbrev pub NamesReadAsStarts : Naming → Type 0
NamesReadAsStarts n = (m p : ℤ) (k : ℕ) → IsMoment m → period_of n.rotation m ≡ Some p → k ≤ last_number n → ReadsAt n (name_at n m k) p k

-- a name reads as one second and one number at most
abbrev pub NamesReadOnce : Naming → Type 0
NamesReadOnce n = (name : List ℕ) (s t : ℤ) (j k : ℕ) → ReadsAt n name s j → ReadsAt n name t k → (s ≡ t) × (j ≡ k)

-- each name is that of one entry of a folder
abbrev pub NamesAreEntries : Naming → Type 0
NamesAreEntries n = IsAllowed n.rotation n.prefix n.suffix → (m : ℤ) (k : ℕ) → IsEntry (name_at n m k)
