-- The second that begins a minute of a date, by jiff's contract and by the calendar of names.
use Rattle.std.proofs.Common.{◌≡◌, ℕ, suc, ◌+◌, ◌*◌, ◌/◌, ◌<◌, ℤ, pos, negsuc, ◌+ℤ◌, ◌*ℤ◌, ◌≤ℤ◌, arith, refl, ap, sym, ◌∙◌, Some, Result, Ok, Err, IsOk, is_ok, false}
use Rattle.std.specs.Prelude.{int_div}
use Rattle.std.specs.Result.{result_ok}
use Rattle.std.proofs.lemmas.Int.{ints}
use Rattle.jiff.specs.Words.{civil_nanos}
use Rattle.jiff_core.specs.Calendar.{IsDate, day_count}
use Rattle.jiff_core.specs.Date.{epoch_day, IsYmd}
use Rattle.jiff_core.specs.Time.{IsTime, IsHms}
use Rattle.jiff_core.specs.declared.civil.date.Date.{Date}
use Rattle.jiff_core.specs.declared.civil.datetime.DateTime.{DateTime}
use Rattle.jiff_core.proofs.CalendarLemmas.{day_count-day_of_year, days_from_civil-day_count}
use Rattle.jiff_core.proofs.DateLemmas.{epoch_day_range}
use Rattle.jiff_core.proofs.DateTimeLemmas.{civil_nanos-parts}
use Rattle.jiff_core.proofs.SignedLemmas.{signed_arith}
use Rattle.appender_names.specs.Calendar.{CivilDate, date_of, first_day}
use Rattle.appender_names.specs.DateText.{IsDated, second_of, BeginsMinute}
use Rattle.appender_names.proofs.Dates.{date_of_is, day_count-first_day}
use Rattle.appender_names.proofs.Clock.{second_is, shows}

pub exact_div : (x : ℤ) → int_div (x *ℤ pos 1000000000) (pos 1000000000) ≡ x
exact_div (pos n) = ap pos (omega arith)
exact_div (negsuc n) =
    let product : negsuc n *ℤ pos 1000000000 ≡ negsuc (n * 1000000000 + 999999999) = omega (arith, ints) in
    let quotient : suc (n * 1000000000 + 999999999) / 1000000000 ≡ suc n = omega arith in
    rw (product, quotient) refl

-- no day of the years from 0000 on comes before 0000-01-01
pub from_year_0 : (a : Date) (y : ℕ) → a.year ≡ pos y → negsuc 719527 ≤ℤ epoch_day a
from_year_0 a y e =
    let count = day_count-day_of_year a.year a.month a.day a.day_in.0 in
    let start : day_count a.year 1 1 ≡ first_day y + 3652425 = rw e (day_count-first_day y) in
    omega (arith, ints, signed_arith, days_from_civil-day_count a.year a.month a.day, count)

pub same_date : (d : CivilDate) (y m k : ℕ) → d.year ≡ y → d.month ≡ m → d.day ≡ k → d ≡ record { year = y; month = m; day = k }
same_date d y m k a b c = rw (← a, ← b, ← c) refl

pub begins : (y m d h mi : ℕ) (dt : DateTime) (s : ℤ) → y < 10000 → IsYmd (pos y) (pos m) (pos d) dt.date → IsHms (pos h) (pos mi) (pos 0) (pos 0) dt.time
    → s ≡ int_div (civil_nanos dt) (pos 1000000000) → BeginsMinute y m d h mi s
begins y m d h mi dt s small ymd hms e =
    let hour : dt.time.hour ≡ h = omega (arith, ints, hms.0) in
    let minute : dt.time.minute ≡ mi = omega (arith, ints, hms.1) in
    let second : dt.time.second ≡ 0 = omega (arith, ints, hms.2) in
    let subsec : dt.time.subsec_nanosecond ≡ 0 = omega (arith, ints, hms.3) in
    let nanos : civil_nanos dt ≡ (epoch_day dt.date *ℤ pos 86400 +ℤ pos (h * 3600 + mi * 60)) *ℤ pos 1000000000 = omega (arith, ints, civil_nanos-parts dt) in
    let at : s ≡ epoch_day dt.date *ℤ pos 86400 +ℤ pos (h * 3600 + mi * 60) = e ∙ ap (λ z. int_div z (pos 1000000000)) nanos ∙ exact_div (epoch_day dt.date *ℤ pos 86400 +ℤ pos (h * 3600 + mi * 60)) in
    let low = from_year_0 dt.date y ymd.0 in
    let high = (epoch_day_range dt.date).1 in
    let years : IsDated s = (omega (arith, ints, dt.time.hour_in, dt.time.minute_in), omega (arith, ints, dt.time.hour_in, dt.time.minute_in)) in
    let here = second_is s years in
    let clock = shows s (second_of s) dt here.0 here.1 (nanos ∙ ap (λ z. z *ℤ pos 1000000000) (sym at)) in
    record {
      years = years;
      date_is = same_date (date_of (second_of s / 86400)) y m d (omega (arith, ints, clock.date.year, ymd.0)) (omega (arith, ints, clock.date.month, ymd.1)) (omega (arith, ints, clock.date.day, ymd.2));
      hour_is = sym clock.hour ∙ hour;
      minute_is = sym clock.minute ∙ minute;
      second_is = sym clock.second ∙ second;
    }

pub begins_civil : (y m d h mi : ℕ) (s : ℤ) → BeginsMinute y m d h mi s → IsDate (pos y) (pos m) (pos d) × IsTime (pos h) (pos mi) (pos 0) (pos 0)
begins_civil y m d h mi s b =
    let here = second_is s b.years in
    let is = rw b.date_is at (date_of_is (second_of s / 86400) (omega arith)).civil in (
      ((omega (arith, ints), omega (arith, ints, is.0)), (omega (arith, ints, is.1), omega (arith, ints, is.1)), (omega (arith, ints, is.2), omega (arith, ints, is.2))),
      ((omega (arith, ints), omega (arith, ints, b.hour_is)), (omega (arith, ints), omega (arith, ints, b.minute_is)), (omega (arith, ints), omega (arith, ints)), (omega (arith, ints), omega (arith, ints))),
    )

pub not_ok : {T E : Type 0} (r : Result T E) → false ≡ is_ok r → ¬ (IsOk r)
not_ok (Ok x) e h = cc
not_ok (Err x) e h = cc

pub ok_is : {T E : Type 0} (r : Result T E) (x : T) → Some x ≡ result_ok r → r ≡ Ok x
ok_is (Ok y) x e = cc
ok_is (Err y) x e = cc
