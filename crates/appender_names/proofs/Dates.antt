-- The date of a day is the one that jiff's calendar has.
use Rattle.std.proofs.Common.{◌≡◌, ℕ, ◌+◌, ◌-◌, ◌*◌, ◌/◌, ◌<◌, ◌≤◌, ℤ, pos, ◌+ℤ◌, true, false, cond, List, [], ◌∷◌, arith, refl, ◌∙◌, nat_lt, lit≤, length}
use Rattle.std.proofs.lemmas.Int.{ints}
use Rattle.std.proofs.lemmas.Bool.Decides.{nat_tests}
use Rattle.jiff_core.specs.Calendar.{days_in_month, days_in_year, days_of_months, day_count, days_from_civil, IsCivilDate}
use Rattle.jiff_core.specs.Date.{epoch_day}
use Rattle.jiff_core.specs.declared.civil.date.Date.{Date}
use Rattle.jiff_core.proofs.CalendarLemmas.{day_count-day_of_year, days_of_months_more, days_of_months-zero, days_of_months_all, days_from_civil-day_count}
use Rattle.jiff_core.proofs.DateLemmas.{epoch_day_injective}
use Rattle.jiff_core.proofs.MarchLemmas.{day_count-early}
use Rattle.jiff_core.proofs.SignedLemmas.{signed_arith}
use Rattle.appender_names.specs.Calendar.{CivilDate, is_leap, first_day, year_of, month_lengths, date_after, date_of}

-- the day is in its year
pub in_year : (n : ℕ) → (first_day (year_of n) ≤ n) × (n < first_day (year_of n + 1))
unfolding year_of
in_year n = let q = (n + 1) * 400 / 146097 in
    elim (nat_lt n (first_day q)) as (λ b. nat_lt n (first_day q) ≡ b → (first_day (cond b (q - 1) q) ≤ n) × (n < first_day (cond b (q - 1) q + 1))) [
      | true ↦ λ e. (let h : n < first_day q = grind (arith, nat_tests) in (omega arith, omega arith))
      | false ↦ λ e. (let h : first_day q ≤ n = grind (arith, nat_tests) in (h, omega arith))
    ] refl

-- 1 January in jiff's count, which begins 10000 years before the year 0
pub day_count-first_day : (y : ℕ) → day_count (pos y) 1 1 ≡ first_day y + 3652425
day_count-first_day y = omega (arith, day_count-early (pos y) (y + 9999) 1 1 (omega (arith, ints)) (lit≤ tt) (lit≤ tt) (lit≤ tt))

-- a year has as many days as lie from its first to the next year's
pub first_day-next : (y : ℕ) → first_day (y + 1) ≡ first_day y + days_in_year (pos y)
first_day-next y = grind (arith, nat_tests)

-- the lengths are those of the months from m on
abbrev pub AreLengths : ℤ → List ℕ → ℕ → Type 0
AreLengths y [] m = Unit {0}
AreLengths y (len ∷ lens) m = (len ≡ days_in_month y m) × AreLengths y lens (m + 1)

pub month_lengths_are : (y : ℕ) → AreLengths (pos y) (month_lengths (is_leap y)) 1
month_lengths_are y = (refl, (refl, (refl, (refl, (refl, (refl, (refl, (refl, (refl, (refl, (refl, (refl, tt))))))))))))

-- the date that lies n days after the first of month m of the year
pub record IsAfter (y m n : ℕ) (d : CivilDate) : Type 0 where
  pub year : d.year ≡ y
  pub month_from : 1 ≤ d.month
  pub month_to : d.month ≤ 12
  pub day_from : 1 ≤ d.day
  pub day_to : d.day ≤ days_in_month (pos y) d.month
  pub same : days_of_months (pos y) (d.month - 1) + d.day ≡ days_of_months (pos y) (m - 1) + n + 1

pub date_after_is : (y : ℕ) (lens : List ℕ) (m n : ℕ) → AreLengths (pos y) lens m → 1 ≤ m → m + length lens ≡ 13 → days_of_months (pos y) (m - 1) + n < days_of_months (pos y) 12 → IsAfter y m n (date_after y lens m n)
unfolding date_after
date_after_is y [] m n are from to h = let e : m - 1 ≡ 12 = omega arith in let no = rw e at h in absurd (omega arith)
date_after_is y (len ∷ lens) m n are from to h =
    elim (nat_lt n len) as (λ b. nat_lt n len ≡ b → IsAfter y m n (cond b (record { year = y; month = m; day = n + 1 }) (date_after y lens (m + 1) (n - len)))) [
      | true ↦ λ e. (let lt : n < len = grind (arith, nat_tests) in let is : len ≡ days_in_month (pos y) m = are.0 in record { year = refl; month_from = from; month_to = omega arith; day_from = omega arith; day_to = omega arith; same = omega arith })
      | false ↦ λ e. (
          let le : len ≤ n = grind (arith, nat_tests) in
          let is : len ≡ days_in_month (pos y) m = are.0 in
          let back : m + 1 - 1 ≡ m = omega arith in
          let more = days_of_months_more (pos y) m from in
          let on = date_after_is y lens (m + 1) (n - len) are.1 (omega arith) (omega arith) (rw back (omega arith)) in
          let same = rw back at on.same in
          record { year = on.year; month_from = on.month_from; month_to = on.month_to; day_from = on.day_from; day_to = on.day_to; same = omega arith })
    ] refl

-- the date of a day, in jiff's calendar
pub record IsDateOf (n : ℕ) (d : CivilDate) : Type 0 where
  pub civil : IsCivilDate (pos d.year) d.month d.day
  pub day : days_from_civil (pos d.year) d.month d.day +ℤ pos 719528 ≡ pos n

after_is : (y n : ℕ) (d : CivilDate) → y ≤ 9999 → first_day y ≤ n → IsAfter y 1 (n - first_day y) d → IsDateOf n d
after_is y n d small from is =
    let start = day_count-first_day y in
    let none = days_of_months-zero (pos y) in
    let in_count = day_count-day_of_year (pos y) d.month d.day is.day_from in
    let count = days_from_civil-day_count (pos y) d.month d.day in
    record {
      civil = rw is.year ((omega (arith, ints), omega (arith, ints)), (is.month_from, is.month_to), (is.day_from, is.day_to));
      day = rw is.year (omega (arith, ints, signed_arith, is.same));
    }

pub date_of_is : (n : ℕ) → n < 3652425 → IsDateOf n (date_of n)
unfolding date_of
date_of_is n h =
    let y = year_of n in
    let in_y = in_year n in
    let small : y ≤ 9999 = omega arith in
    let room : days_of_months (pos y) 0 + (n - first_day y) < days_of_months (pos y) 12 = omega (arith, days_of_months-zero (pos y), days_of_months_all (pos y), first_day-next y) in
    after_is y n (date_after y (month_lengths (is_leap y)) 1 (n - first_day y)) small in_y.0
    (date_after_is y (month_lengths (is_leap y)) 1 (n - first_day y) (month_lengths_are y) (lit≤ tt) refl room)

-- a date of jiff is what the calendar makes of its day
pub record IsCivil (d : CivilDate) (a : Date) : Type 0 where
  pub year : a.year ≡ pos d.year
  pub month : a.month ≡ d.month
  pub day : a.day ≡ d.day

-- every day up to the year 9999 is a date of jiff
pub date_on : (n : ℕ) → n < 3652425 → (a : Date) × (epoch_day a +ℤ pos 719528 ≡ pos n) × IsCivil (date_of n) a
date_on n h =
    let is = date_of_is n h in
    let d = date_of n in
    (record { year = pos d.year; month = d.month; day = d.day; year_in = is.civil.0; month_in = is.civil.1; day_in = is.civil.2 }, is.day, record { year = refl; month = refl; day = refl })

pub date_is : (n : ℕ) (a : Date) → n < 3652425 → epoch_day a +ℤ pos 719528 ≡ pos n → IsCivil (date_of n) a
date_is n a h e =
    let b = date_on n h in
    let same = epoch_day_injective a b.0 (omega (arith, ints, e, b.1)) in
    record { year = same.0 ∙ b.2.year; month = same.1 ∙ b.2.month; day = same.2 ∙ b.2.day }
