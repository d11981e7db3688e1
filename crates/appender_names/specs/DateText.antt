-- Date texts, as in the documentation of tracing-appender: a date of ISO 8601, and an hour and a minute where files begin that often, all with leading zeros.
use Rattle.std.specs.Int.{int_rem_euclid}
use Rattle.std.specs.Prelude.{◌≡◌, ℕ, ◌+◌, ◌/◌, ◌%◌, List, [], ◌∷◌, ◌++◌, ℤ, pos, negsuc, ◌+ℤ◌, ◌≤ℤ◌, unsigned_abs}
use Rattle.appender_names.specs.declared.rotation.RotationKind.{RotationKind}
use Rattle.appender_names.specs.declared.rotation.RotationKind.TheVariants.{Minutely, Hourly}
use Rattle.appender_names.specs.Calendar.{CivilDate, date_of}

-- a moment of the years 0000 to 9999, which are those that four digits write
abbrev pub IsDated : ℤ → Type 0
IsDated m = (negsuc 62167219199 ≤ℤ m) × (m ≤ℤ pos 253402300799)

-- seconds from 0000-01-01 00:00:00 to a moment of those years
abbrev pub second_of : ℤ → ℕ
second_of m = unsigned_abs (m +ℤ pos 62167219200)

-- a number below 100 in two digits
abbrev pub two_digits : ℕ → List ℕ
two_digits n = (48 + n / 10) ∷ (48 + n % 10) ∷ []

-- `2020-02-01`
abbrev pub day_text : CivilDate → List ℕ
day_text d = two_digits (d.year / 100) ++ two_digits (d.year % 100) ++ 45 ∷ two_digits d.month ++ 45 ∷ two_digits d.day

-- the day of a second of 0000-01-01 and later, its hour and its minute
abbrev pub day_at : ℕ → List ℕ
day_at s = day_text (date_of (s / 86400))

abbrev pub hour_at : ℕ → List ℕ
hour_at s = two_digits (s % 86400 / 3600)

abbrev pub minute_at : ℕ → List ℕ
minute_at s = two_digits (s % 3600 / 60)

-- `2020-02-01-10-01`, `2020-02-01-10` or `2020-02-01`
abbrev pub text_at : RotationKind → ℕ → List ℕ
text_at Minutely s = day_at s ++ 45 ∷ hour_at s ++ 45 ∷ minute_at s
text_at Hourly s = day_at s ++ 45 ∷ hour_at s
text_at k s = day_at s

-- the date text of a moment
abbrev pub date_text : RotationKind → ℤ → List ℕ
date_text kind m = text_at kind (second_of m)

-- the seconds of what a date text tells apart: a minute, an hour or a day
abbrev pub unit_of : RotationKind → ℕ
unit_of Minutely = 60
unit_of Hourly = 3600
unit_of k = 86400

-- the text writes the date of s, where s begins a unit of the kind (a minute, an hour or a day) in the years 0000 to 9999
pub record IsDateText (kind : RotationKind) (text : List ℕ) (s : ℤ) : Type 0 where
  pub years : IsDated s
  pub whole : int_rem_euclid s (pos (unit_of kind)) ≡ pos 0
  pub same : text ≡ date_text kind s

-- s begins this minute of this hour of this date
pub record BeginsMinute (year month day hour minute : ℕ) (s : ℤ) : Type 0 where
  pub years : IsDated s
  pub date_is : date_of (second_of s / 86400) ≡ record { year = year; month = month; day = day }
  pub hour_is : second_of s % 86400 / 3600 ≡ hour
  pub minute_is : second_of s % 3600 / 60 ≡ minute
  pub second_is : second_of s % 60 ≡ 0

-- the same of a date that is given as a text
pub record IsReadAt (text : List ℕ) (hour minute : ℕ) (s : ℤ) : Type 0 where
  pub years : IsDated s
  pub text_is : text ≡ day_at (second_of s)
  pub hour_is : second_of s % 86400 / 3600 ≡ hour
  pub minute_is : second_of s % 3600 / 60 ≡ minute
  pub second_is : second_of s % 60 ≡ 0
