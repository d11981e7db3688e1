-- The civil calendar of UTC as in ISO 8601: the proleptic Gregorian calendar, which is carried back before its beginning. Days are numbered from 0000-01-01, which is day 0, and have 86400 seconds.
use Rattle.std.specs.Prelude.{ℕ, ◌+◌, ◌-◌, ◌*◌, ◌/◌, ◌%◌, ◌==◌, ◌&&◌, ◌||◌, not, nat_lt, Bool, if◌then◌else◌, List, [], ◌∷◌}

-- a day as the calendar names it: months and days begin at 1
pub record CivilDate : Type 0 where
  pub year : ℕ
  pub month : ℕ
  pub day : ℕ

-- every fourth year, but of the centuries only every fourth
abbrev pub is_leap : ℕ → Bool
is_leap y = (y % 4 == 0) && (not (y % 100 == 0) || (y % 400 == 0))

-- the number of 1 January: of the years before y, which begin with the leap year 0, this number are leap years
abbrev pub first_day : ℕ → ℕ
first_day y = 365 * y + (y + 3) / 4 - (y + 99) / 100 + (y + 399) / 400

-- the year that the day is in: 400 years have 146097 days, so the quotient is that year or the next
unfoldable pub year_of : ℕ → ℕ
year_of day = if nat_lt day (first_day ((day + 1) * 400 / 146097)) then (day + 1) * 400 / 146097 - 1 else (day + 1) * 400 / 146097

-- the lengths of the months, from January on
abbrev pub month_lengths : Bool → List ℕ
month_lengths leap = 31 ∷ (if leap then 29 else 28) ∷ 31 ∷ 30 ∷ 31 ∷ 30 ∷ 31 ∷ 31 ∷ 30 ∷ 31 ∷ 30 ∷ 31 ∷ []

-- the day that comes n days after the first of month m, where the months from m on have these lengths
unfoldable pub date_after : ℕ → List ℕ → ℕ → ℕ → CivilDate
date_after y [] m n = record { year = y; month = m; day = n + 1 }
date_after y (len ∷ lens) m n = if nat_lt n len then record { year = y; month = m; day = n + 1 } else date_after y lens (m + 1) (n - len)

-- the date of a day
unfoldable pub date_of : ℕ → CivilDate
date_of day = date_after (year_of day) (month_lengths (is_leap (year_of day))) 1 (day - first_day (year_of day))
