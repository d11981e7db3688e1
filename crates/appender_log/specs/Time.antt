-- Texts of times, as in RFC 3339: in UTC, with microseconds.
use Rattle.std.specs.Int.{int_div_euclid, int_rem_euclid}
use Rattle.std.specs.Prelude.{ℕ, ◌/◌, ◌%◌, List, ◌++◌, ℤ, pos, unsigned_abs, codes, if◌then◌else◌}
use Rattle.appender_names.specs.DateText.{second_of, two_digits, day_at, hour_at, minute_at}
use Rattle.appender_names.specs.Name.{number_text}
use Rattle.appender_names.specs.Rotation.{is_moment}

-- the second of a time in nanoseconds since the epoch, rounded down, and the whole microseconds after it
abbrev pub second : ℤ → ℤ
second nanos = int_div_euclid nanos (pos 1000000000)

abbrev pub micros : ℤ → ℕ
micros nanos = unsigned_abs (int_rem_euclid nanos (pos 1000000000)) / 1000

-- `2020-02-01T10:01:02` of a second of 0000-01-01 and later, counted from there
abbrev pub second_text : ℕ → List ℕ
second_text s = day_at s ++ codes "T" ++ hour_at s ++ codes ":" ++ minute_at s ++ codes ":" ++ two_digits (s % 60)

-- `2020-02-01T10:01:02.000003Z`, with six digits of microseconds; `-`, the NILVALUE of RFC 5424, for a time outside the
-- years 1 to 9998
abbrev pub time_text : ℤ → List ℕ
time_text nanos =
    if is_moment (second nanos)
    then second_text (second_of (second nanos)) ++ codes "." ++ number_text (micros nanos) ++ codes "Z"
    else codes "-"
