-- Dates from the digits that name them.
use Rattle.std.proofs.Common.{◌≡◌, ◌≢◌, ℕ, zero, suc, ◌+◌, ◌-◌, ◌*◌, ◌/◌, ◌%◌, ◌<◌, ◌≤◌, ℤ, pos, List, [], ◌∷◌, ◌++◌, length, get_or, take, lit<, arith, refl, ap, sym, ◌∙◌, Option, Some, None}
use Rattle.std.specs.Prelude.{MatchOption}
use Rattle.std.specs.Int.{int_rem_euclid}
use Rattle.appender_names.specs.declared.rotation.RotationKind.{RotationKind}
use Rattle.appender_names.specs.declared.rotation.RotationKind.TheVariants.{Minutely, Hourly, Daily, Weekly, Never}
use Rattle.std.proofs.lemmas.Int.{ints, int_rem_euclid_is}
use Rattle.std.proofs.lemmas.Slice.Eq.{text_from_reads, HasBytesAt}
use Rattle.jiff_core.proofs.CalendarLemmas.{days_in_month_bounds}
use Rattle.appender_names.specs.Calendar.{CivilDate, date_of}
use Rattle.appender_names.specs.DateText.{IsDated, second_of, two_digits, day_text, unit_of, BeginsMinute, IsReadAt, IsDateText}
use Rattle.appender_names.specs.Name.{number_text}
use Rattle.appender_names.proofs.Dates.{date_of_is}
use Rattle.appender_names.proofs.Clock.{second_is}
use Rattle.appender_names.proofs.Instants.{same_date}

pub two_digits_injective : (a b : ℕ) → two_digits a ≡ two_digits b → a ≡ b
two_digits_injective a b e =
    let tens : a / 10 ≡ b / 10 = omega (arith, ap (λ xs. get_or xs 0 0) e) in
    let ones : a % 10 ≡ b % 10 = omega (arith, ap (λ xs. get_or xs 1 0) e) in
    omega arith

-- the date that the text names, part by part
pub record NamesDay (text : List ℕ) (d : CivilDate) : Type 0 where
  pub length_is : length text ≡ 10
  pub century : two_digits (d.year / 100) ≡ get_or text 0 0 ∷ get_or text 1 0 ∷ []
  pub year : two_digits (d.year % 100) ≡ get_or text 2 0 ∷ get_or text 3 0 ∷ []
  pub first_dash : get_or text 4 0 ≡ 45
  pub month : two_digits d.month ≡ get_or text 5 0 ∷ get_or text 6 0 ∷ []
  pub second_dash : get_or text 7 0 ≡ 45
  pub day : two_digits d.day ≡ get_or text 8 0 ∷ get_or text 9 0 ∷ []

pub names_day : (text : List ℕ) (d : CivilDate) → text ≡ day_text d → NamesDay text d
names_day text d e = rw e (record { length_is = refl; century = refl; year = refl; first_dash = refl; month = refl; second_dash = refl; day = refl })

first : (n a b : ℕ) → two_digits n ≡ a ∷ b ∷ [] → (a ≡ 48 + n / 10) × (b ≡ 48 + n % 10)
first n a b e = (sym (ap (λ xs. get_or xs 0 0) e), sym (ap (λ xs. get_or xs 1 0) e))

pub day_named : (text : List ℕ) (d : CivilDate) → NamesDay text d → text ≡ day_text d
day_named text d n =
    let c = first _ _ _ n.century in
    let y = first _ _ _ n.year in
    let m = first _ _ _ n.month in
    let k = first _ _ _ n.day in
    text_from_reads text (day_text d) n.length_is (c.0, (c.1, (y.0, (y.1, (n.first_dash, (m.0, (m.1, (n.second_dash, (k.0, (k.1, tt))))))))))

-- a date of the years 0000 to 9999 has two digits in each place
pub record IsShort (d : CivilDate) : Type 0 where
  pub year : d.year < 10000
  pub month : d.month < 100
  pub day : d.day < 100

pub is_short : (s : ℤ) → IsDated s → IsShort (date_of (second_of s / 86400))
is_short s years =
    let here = second_is s years in
    let is = (date_of_is (second_of s / 86400) (omega arith)).civil in
    let most = days_in_month_bounds (pos (date_of (second_of s / 86400)).year) (date_of (second_of s / 86400)).month in
    record { year = omega (arith, ints, is.0); month = omega (arith, is.1); day = omega (arith, is.2) }

pub read_day : (text : List ℕ) (c y m d h mi : ℕ) (r : Option ℤ) → y < 100 → NamesDay text (record { year = c * 100 + y; month = m; day = d })
    → MatchOption r ((s : ℤ) → ¬ (BeginsMinute (c * 100 + y) m d h mi s)) (BeginsMinute (c * 100 + y) m d h mi)
    → MatchOption r ((s : ℤ) → ¬ (IsReadAt text h mi s)) (IsReadAt text h mi)
read_day text c y m d h mi None small names miss = λ s w.
    let there = names_day text (date_of (second_of s / 86400)) w.text_is in
    let short = is_short s w.years in
    let century = two_digits_injective ((date_of (second_of s / 86400)).year / 100) ((c * 100 + y) / 100) (there.century ∙ sym names.century) in
    let year = two_digits_injective ((date_of (second_of s / 86400)).year % 100) ((c * 100 + y) % 100) (there.year ∙ sym names.year) in
    let month = two_digits_injective (date_of (second_of s / 86400)).month m (there.month ∙ sym names.month) in
    let day = two_digits_injective (date_of (second_of s / 86400)).day d (there.day ∙ sym names.day) in
    miss s (record { years = w.years; date_is = same_date _ _ _ _ (omega arith) month day; hour_is = w.hour_is; minute_is = w.minute_is; second_is = w.second_is })
read_day text c y m d h mi (Some s) small names b =
    record { years = b.years; text_is = day_named text _ names ∙ ap day_text (sym b.date_is); hour_is = b.hour_is; minute_is = b.minute_is; second_is = b.second_is }

-- what isn't two digits names no part of a date; the part stands at a place of the text
pub no_part : (part : CivilDate → ℕ) (text : List ℕ) (place h mi : ℕ) (s : ℤ)
    → ((d : CivilDate) → IsShort d → NamesDay text d → (part d < 100) × (two_digits (part d) ≡ get_or text place 0 ∷ get_or text (place + 1) 0 ∷ []))
    → ((n : ℕ) → n < 100 → two_digits n ≢ get_or text place 0 ∷ get_or text (place + 1) 0 ∷ []) → ¬ (IsReadAt text h mi s)
no_part part text place h mi s stands none w =
    let d = date_of (second_of s / 86400) in
    let there = stands d (is_short s w.years) (names_day text d w.text_is) in
    none (part d) there.0 there.1

-- a text ends with the bytes that stand from a place on
bytes_behind : (x : ℕ) (xs p : List ℕ) (n : ℕ) → HasBytesAt (x ∷ xs) (suc n) p → HasBytesAt xs n p
bytes_behind x xs [] n h = tt
bytes_behind x xs (c ∷ p) n h = (h.0, bytes_behind x xs p (suc n) h.1)

pub ends_with : (text p : List ℕ) (n : ℕ) → length text ≡ n + length p → HasBytesAt text n p → text ≡ take n text ++ p
ends_with text p zero len h = text_from_reads text p (omega arith) h
ends_with [] p (suc n) len h = absurd (omega arith)
ends_with (x ∷ xs) p (suc n) len h = ap (λ u. x ∷ u) (ends_with xs p n (omega arith) (bytes_behind x xs p n h))

stands : (text : List ℕ) (i j b : ℕ) → i ≡ j → b ≡ get_or text j 0 → get_or text i 0 ≡ b
stands text i j b e h = rw e (sym h)

-- a unit of date texts, of which whole ones lead from 0000-01-01 to second 0
record IsUnit (u : ℕ) : Type 0 where
  pub some : 0 < u
  pub count : ℕ
  pub meets : count * u ≡ 62167219200

unit_is : (k : RotationKind) → IsUnit (unit_of k)
unit_is Minutely = record { some = lit< tt; count = 1036120320; meets = refl }
unit_is Hourly = record { some = lit< tt; count = 17268672; meets = refl }
unit_is Daily = record { some = lit< tt; count = 719528; meets = refl }
unit_is Weekly = record { some = lit< tt; count = 719528; meets = refl }
unit_is Never = record { some = lit< tt; count = 719528; meets = refl }

-- what a second leaves over in whole units
pub over : (k : RotationKind) (s : ℤ) → IsDated s → int_rem_euclid s (pos (unit_of k)) ≡ pos (second_of s % unit_of k)
over k s years =
    let u = unit_is k in
    int_rem_euclid_is s (pos (unit_of k)) (unit_of k) u.count (second_of s) u.some refl (rw u.meets (second_is s years).0)

pub whole_second : (k : RotationKind) (s : ℤ) → IsDated s → int_rem_euclid s (pos (unit_of k)) ≡ pos 0 → second_of s % unit_of k ≡ 0
whole_second k s years e = let same : pos (second_of s % unit_of k) ≡ pos 0 = sym (over k s years) ∙ e in cc

pub minute_read : (text : List ℕ) (h mi : ℕ) (r : Option ℤ) → 6 ≤ length text
    → 45 ≡ get_or text (length text - 6) 0 → two_digits h ≡ get_or text (length text - 5) 0 ∷ get_or text (length text - 4) 0 ∷ []
    → 45 ≡ get_or text (length text - 3) 0 → two_digits mi ≡ get_or text (length text - 2) 0 ∷ get_or text (length text - 1) 0 ∷ []
    → MatchOption r ((s : ℤ) → ¬ (IsReadAt (take (length text - 6) text) h mi s)) (IsReadAt (take (length text - 6) text) h mi)
    → MatchOption r ((s : ℤ) → ¬ (IsDateText Minutely text s)) (IsDateText Minutely text)
minute_read text h mi None room dash hour next minute miss = λ s w.
    let hour_is = rw w.same at hour in
    let minute_is = rw w.same at minute in
    miss s (record {
      years = w.years;
      text_is = rw w.same refl;
      hour_is = sym (two_digits_injective h (second_of s % 86400 / 3600) hour_is);
      minute_is = sym (two_digits_injective mi (second_of s % 3600 / 60) minute_is);
      second_is = whole_second Minutely s w.years w.whole;
    })
minute_read text h mi (Some s) room dash hour next minute w =
    let n = length text - 6 in
    let tail : HasBytesAt text n (45 ∷ two_digits h ++ 45 ∷ two_digits mi) = (
      sym dash,
      (
        stands text _ _ _ (omega arith) (ap (λ xs. get_or xs 0 0) hour),
        (
          stands text _ _ _ (omega arith) (ap (λ xs. get_or xs 1 0) hour),
          (
            stands text _ _ _ (omega arith) next,
            (
              stands text _ _ _ (omega arith) (ap (λ xs. get_or xs 0 0) minute),
              (stands text _ _ _ (omega arith) (ap (λ xs. get_or xs 1 0) minute), tt),
            ),
          ),
        ),
      ),
    ) in
    let whole = ends_with text (45 ∷ two_digits h ++ 45 ∷ two_digits mi) n (omega arith) tail in
    record {
      years = w.years;
      whole = over Minutely s w.years ∙ ap pos w.second_is;
      same = whole ∙ (rw (w.text_is, w.hour_is, w.minute_is) refl);
    }

pub hour_read : (text : List ℕ) (h : ℕ) (r : Option ℤ) → 3 ≤ length text
    → 45 ≡ get_or text (length text - 3) 0 → two_digits h ≡ get_or text (length text - 2) 0 ∷ get_or text (length text - 1) 0 ∷ []
    → MatchOption r ((s : ℤ) → ¬ (IsReadAt (take (length text - 3) text) h 0 s)) (IsReadAt (take (length text - 3) text) h 0)
    → MatchOption r ((s : ℤ) → ¬ (IsDateText Hourly text s)) (IsDateText Hourly text)
hour_read text h None room dash hour miss = λ s w.
    let hour_is = rw w.same at hour in
    let whole = whole_second Hourly s w.years w.whole in
    miss s (record {
      years = w.years;
      text_is = rw w.same refl;
      hour_is = sym (two_digits_injective h (second_of s % 86400 / 3600) hour_is);
      minute_is = omega arith;
      second_is = omega arith;
    })
hour_read text h (Some s) room dash hour w =
    let n = length text - 3 in
    let tail : HasBytesAt text n (45 ∷ two_digits h) = (
      sym dash,
      (
        stands text _ _ _ (omega arith) (ap (λ xs. get_or xs 0 0) hour),
        (stands text _ _ _ (omega arith) (ap (λ xs. get_or xs 1 0) hour), tt),
      ),
    ) in
    let minute = w.minute_is in
    let second = w.second_is in
    let whole : second_of s % 3600 ≡ 0 = omega arith in
    record {
      years = w.years;
      whole = over Hourly s w.years ∙ ap pos whole;
      same = ends_with text (45 ∷ two_digits h) n (omega arith) tail ∙ (rw (w.text_is, w.hour_is) refl);
    }

-- six digits after a dot
pub number_read : (text : List ℕ) (a b c : ℕ) → 7 ≤ length text → a < 100 → b < 100 → c < 100
    → 46 ≡ get_or text (length text - 7) 0 → two_digits a ≡ get_or text (length text - 6) 0 ∷ get_or text (length text - 5) 0 ∷ []
    → two_digits b ≡ get_or text (length text - 4) 0 ∷ get_or text (length text - 3) 0 ∷ []
    → two_digits c ≡ get_or text (length text - 2) 0 ∷ get_or text (length text - 1) 0 ∷ []
    → text ≡ take (length text - 7) text ++ (46 ∷ number_text (a * 10000 + b * 100 + c))
number_read text a b c room la lb lc dot high middle low =
    let n = length text - 7 in
    let tail : HasBytesAt text n (46 ∷ two_digits a ++ two_digits b ++ two_digits c) = (
      sym dot,
      (
        stands text _ _ _ (omega arith) (ap (λ xs. get_or xs 0 0) high),
        (
          stands text _ _ _ (omega arith) (ap (λ xs. get_or xs 1 0) high),
          (
            stands text _ _ _ (omega arith) (ap (λ xs. get_or xs 0 0) middle),
            (
              stands text _ _ _ (omega arith) (ap (λ xs. get_or xs 1 0) middle),
              (
                stands text _ _ _ (omega arith) (ap (λ xs. get_or xs 0 0) low),
                (stands text _ _ _ (omega arith) (ap (λ xs. get_or xs 1 0) low), tt),
              ),
            ),
          ),
        ),
      ),
    ) in
    let first : (a * 10000 + b * 100 + c) / 10000 ≡ a = omega arith in
    let second : (a * 10000 + b * 100 + c) / 100 % 100 ≡ b = omega arith in
    let third : (a * 10000 + b * 100 + c) % 100 ≡ c = omega arith in
    ends_with text (46 ∷ two_digits a ++ two_digits b ++ two_digits c) n (omega arith) tail ∙ rw (first, second, third) refl
