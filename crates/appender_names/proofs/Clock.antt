-- What a clock shows at a moment, by jiff's contract and by the calendar of names.
use Rattle.std.proofs.Common.{◌≡◌, ℕ, ◌+◌, ◌*◌, ◌/◌, ◌%◌, ◌<◌, ℤ, pos, ◌+ℤ◌, ◌*ℤ◌, false, List, [], ◌∷◌, arith, refl, ap, sym, ◌∙◌, ◌⊎◌, inl, inr, w8, to_z, of_z}
use Rattle.std.specs.Prelude.{int_lt}
use Rattle.std.proofs.lemmas.Bool.{cases_lt}
use Rattle.std.proofs.lemmas.Int.{ints}
use Rattle.std.proofs.lemmas.Fmt.{decimal_digit, decimal_step}
use Rattle.std.specs.Fmt.{styled_signed_decimal, padded_integral, format_spec, decimal, char_count}
use Rattle.jiff.specs.Words.{civil_nanos, date_text as jiff_text}
use Rattle.jiff_core.specs.Date.{epoch_day}
use Rattle.jiff_core.specs.declared.civil.date.Date.{Date}
use Rattle.jiff_core.specs.declared.civil.datetime.DateTime.{DateTime}
use Rattle.jiff_core.proofs.DateTimeLemmas.{civil_nanos-parts}
use Rattle.appender_names.specs.declared.rotation.RotationKind.{RotationKind}
use Rattle.appender_names.specs.declared.rotation.RotationKind.TheVariants.{Minutely, Hourly, Daily, Weekly, Never}
use Rattle.appender_names.specs.Calendar.{CivilDate, date_of}
use Rattle.appender_names.specs.DateText.{IsDated, second_of, two_digits, day_text, day_at, hour_at, minute_at, text_at}
use Rattle.appender_names.proofs.Dates.{IsCivil, date_is}

-- a moment of the years 0000 to 9999, in seconds from their beginning
pub second_is : (m : ℤ) → IsDated m → (m +ℤ pos 62167219200 ≡ pos (second_of m)) × (second_of m < 315569520000)
second_is m h = (omega (arith, ints), omega (arith, ints))

-- the date and time of that second
pub record Shows (n : ℕ) (dt : DateTime) : Type 0 where
  pub date : IsCivil (date_of (n / 86400)) dt.date
  pub hour : dt.time.hour ≡ n % 86400 / 3600
  pub minute : dt.time.minute ≡ n % 3600 / 60
  pub second : dt.time.second ≡ n % 60

parts : (m e : ℤ) (n h mi s ns : ℕ) → m +ℤ pos 62167219200 ≡ pos n → h < 24 → mi < 60 → s < 60 → ns < 1000000000
    → e *ℤ pos 86400000000000 +ℤ pos ((h * 3600 + mi * 60 + s) * 1000000000 + ns) ≡ m *ℤ pos 1000000000
    → (e +ℤ pos 719528 ≡ pos (n / 86400)) × (h ≡ n % 86400 / 3600) × (mi ≡ n % 3600 / 60) × (s ≡ n % 60)
parts m e n h mi s ns is h24 mi60 s60 ns9 same =
    let whole : ns ≡ 0 = omega (arith, ints) in
    let seconds : e *ℤ pos 86400 +ℤ pos (h * 3600 + mi * 60 + s) ≡ m = omega (arith, ints) in
    let day : (e +ℤ pos 719528) *ℤ pos 86400 +ℤ pos (h * 3600 + mi * 60 + s) ≡ pos n = omega (arith, ints) in
    let k : e +ℤ pos 719528 ≡ pos (n / 86400) = omega (arith, ints) in
    let rest : n ≡ n / 86400 * 86400 + (h * 3600 + mi * 60 + s) = omega (arith, ints) in
    (k, omega arith, omega arith, omega arith)

pub shows : (m : ℤ) (n : ℕ) (dt : DateTime) → m +ℤ pos 62167219200 ≡ pos n → n < 315569520000 → civil_nanos dt ≡ m *ℤ pos 1000000000 → Shows n dt
shows m n dt is lt e =
    let t = dt.time in
    let p = parts m (epoch_day dt.date) n t.hour t.minute t.second t.subsec_nanosecond is t.hour_in t.minute_in t.second_in t.subsec_in (sym (civil_nanos-parts dt) ∙ e) in
    record { date = date_is (n / 86400) dt.date (omega arith) p.0; hour = p.1; minute = p.2; second = p.3 }

-- the parts that are printed
pub shown_day : (d : CivilDate) (a : Date) → IsCivil d a → jiff_text a ≡ day_text d
shown_day d a is = rw (is.year, is.month, is.day) refl

two_digits_small : (n : ℕ) → n < 10 → 48 ∷ (48 + n) ∷ [] ≡ two_digits n
two_digits_small n lt = let a : n / 10 ≡ 0 = omega arith in let b : n % 10 ≡ n = omega arith in rw (a, b) refl

pub padded_is : (n : ℕ) → n < 100 → padded_integral (format_spec 32 0 4 2 18446744073709551615) false [] (decimal n) ≡ two_digits n
unfolding padded_integral char_count
padded_is n lt =
    elim (cases_lt n 10) [
      | inl low ↦ (rw (decimal_digit n low) (two_digits_small n low))
      | inr high ↦ (rw (decimal_step n high (omega arith), decimal_digit (n / 10) (omega arith)) refl)
    ]

-- a number as `{:02}` writes it
abbrev pub shown : ℤ → List ℕ
shown z = styled_signed_decimal (format_spec 32 0 4 2 18446744073709551615) (to_z w8 (of_z w8 z))

pub shown_number : (z : ℤ) (n : ℕ) → z ≡ pos n → n < 100 → shown z ≡ two_digits n
shown_number z n is lt = let e : to_z w8 (of_z w8 z) ≡ pos n = omega (arith, ints) in let positive : int_lt (pos n) (pos 0) ≡ false = grind (arith, ints) in rw (e, positive) (padded_is n lt)

-- the texts that are printed
pub record Prints (n : ℕ) (dt : DateTime) : Type 0 where
  pub day : jiff_text dt.date ≡ day_at n
  pub hour : (h : ℤ) → h ≡ pos dt.time.hour → shown h ≡ hour_at n
  pub minute : (mi : ℤ) → mi ≡ pos dt.time.minute → shown mi ≡ minute_at n

pub prints : (m : ℤ) (dt : DateTime) → IsDated m → civil_nanos dt ≡ m *ℤ pos 1000000000 → Prints (second_of m) dt
prints m dt years e =
    let n = second_of m in
    let s = second_is m years in
    let clock = shows m n dt s.0 s.1 e in
    record {
      day = shown_day (date_of (n / 86400)) dt.date clock.date;
      hour = λ h is. shown_number h (n % 86400 / 3600) (is ∙ ap pos clock.hour) (omega arith);
      minute = λ mi is. shown_number mi (n % 3600 / 60) (is ∙ ap pos clock.minute) (omega arith);
    }

-- the kinds whose date text is the day
abbrev pub IsDayKind : RotationKind → Type 0
IsDayKind kind = (kind ≡ Daily) ⊎ ((kind ≡ Weekly) ⊎ (kind ≡ Never))

pub text_at-day : (kind : RotationKind) (s : ℕ) → IsDayKind kind → text_at kind s ≡ day_at s
text_at-day Daily s is = refl
text_at-day Weekly s is = refl
text_at-day Never s is = refl
text_at-day Minutely s is = elim is [ inl e ↦ cc | inr f ↦ elim f [ inl e ↦ cc | inr e ↦ cc ] ]
text_at-day Hourly s is = elim is [ inl e ↦ cc | inr f ↦ elim f [ inl e ↦ cc | inr e ↦ cc ] ]
