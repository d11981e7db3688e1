-- The text that jiff writes of a time.
use Rattle.std.proofs.Common.{◌≡◌, ◌∙◌, ℕ, ◌+◌, ◌*◌, ◌/◌, ◌%◌, ◌<◌, lit<, ℤ, pos, ◌+ℤ◌, ◌*ℤ◌, Bool, true, false, ◌++◌, Some, length, arith, refl, ap, sym}
use Rattle.std.specs.Int.{int_rem_euclid}
use Rattle.std.specs.Prelude.{codes, unsigned_abs, if◌then◌else◌}
use Rattle.std.proofs.lemmas.Int.{ints}
use Rattle.jiff_core.specs.Date.{epoch_day}
use Rattle.jiff_core.specs.DateTime.{civil_nanos}
use Rattle.jiff_core.specs.declared.civil.datetime.DateTime.{DateTime}
use Rattle.jiff_core.proofs.DateTimeLemmas.{civil_nanos-parts}
use Rattle.jiff_core.proofs.SignedLemmas.{signed_arith}
use Rattle.jiff_fmt.specs.Text.{places, datetime_text, zulu_text}
use Rattle.appender_names.specs.DateText.{IsDated, second_of}
use Rattle.appender_names.specs.Name.{number_text}
use Rattle.appender_names.specs.Rotation.{is_moment}
use Rattle.appender_names.proofs.Clock.{second_is}
use Rattle.appender_names.proofs.Dates.{date_is}
use Rattle.appender_log.specs.Time.{second, micros, second_text, time_text}

-- the first six places of a fraction
six_places : (ns : ℕ) → ns < 1000000000 → places 6 1000000000 ns ≡ number_text (ns / 1000)
unfolding places
six_places ns lt =
    let a : ns / 100000000 ≡ ns / 1000 / 10000 / 10 = omega arith in
    let b : ns % 100000000 / 10000000 ≡ ns / 1000 / 10000 % 10 = omega arith in
    let c : ns % 100000000 % 10000000 / 1000000 ≡ ns / 1000 / 100 % 100 / 10 = omega arith in
    let d : ns % 100000000 % 10000000 % 1000000 / 100000 ≡ ns / 1000 / 100 % 100 % 10 = omega arith in
    let e : ns % 100000000 % 10000000 % 1000000 % 100000 / 10000 ≡ ns / 1000 % 100 / 10 = omega arith in
    let f : ns % 100000000 % 10000000 % 1000000 % 100000 % 10000 / 1000 ≡ ns / 1000 % 100 % 10 = omega arith in
    rw (a, b, c, d, e, f) refl

-- the nanoseconds of a time after its second
abbrev after : ℤ → ℕ
after nanos = unsigned_abs (int_rem_euclid nanos (pos 1000000000))

split : (nanos : ℤ) → (nanos ≡ second nanos *ℤ pos 1000000000 +ℤ pos (after nanos)) × (after nanos < 1000000000)
split nanos = (omega (arith, signed_arith), omega (arith, signed_arith))

-- the range of moments, by its test
dated : (m : ℤ) → is_moment m ≡ true → IsDated m
dated m is = (grind (arith, ints, is), grind (arith, ints, is))

-- the parts of a time, by its second since 0000-01-01T00:00:00Z and its nanoseconds after that
record Parts (n f : ℕ) (e : ℤ) (h mi s ns : ℕ) : Type 0 where
  pub day : e +ℤ pos 719528 ≡ pos (n / 86400)
  pub hour : h ≡ n % 86400 / 3600
  pub minute : mi ≡ n % 3600 / 60
  pub second : s ≡ n % 60
  pub fraction : ns ≡ f

parts : (m e : ℤ) (n f h mi s ns : ℕ) → m +ℤ pos 62167219200 ≡ pos n → f < 1000000000 → h < 24 → mi < 60 → s < 60 → ns < 1000000000
    → e *ℤ pos 86400000000000 +ℤ pos ((h * 3600 + mi * 60 + s) * 1000000000 + ns) ≡ m *ℤ pos 1000000000 +ℤ pos f → Parts n f e h mi s ns
parts m e n f h mi s ns is f9 h24 mi60 s60 ns9 same =
    let fraction : ns ≡ f = omega (arith, ints) in
    let seconds : e *ℤ pos 86400 +ℤ pos (h * 3600 + mi * 60 + s) ≡ m = omega (arith, ints) in
    let whole : (e +ℤ pos 719528) *ℤ pos 86400 +ℤ pos (h * 3600 + mi * 60 + s) ≡ pos n = omega (arith, ints) in
    let day : e +ℤ pos 719528 ≡ pos (n / 86400) = omega (arith, ints) in
    let rest : n ≡ n / 86400 * 86400 + (h * 3600 + mi * 60 + s) = omega (arith, ints) in
    record { day = day; hour = omega arith; minute = omega arith; second = omega arith; fraction = fraction }

-- the same text of its parts
same_parts : (n f : ℕ) (dt : DateTime) → n < 315569520000 → Parts n f (epoch_day dt.date) dt.time.hour dt.time.minute dt.time.second dt.time.subsec_nanosecond
    → datetime_text false 84 (Some 6) dt ++ zulu_text false ≡ second_text n ++ codes "." ++ number_text (f / 1000) ++ codes "Z"
same_parts n f dt lt p =
    let date = date_is (n / 86400) dt.date (omega arith) p.day in
    let fraction = six_places dt.time.subsec_nanosecond dt.time.subsec_in ∙ ap (λ k. number_text (k / 1000)) p.fraction in
    rw (date.year, date.month, date.day, p.hour, p.minute, p.second, fraction) refl

-- what jiff writes of a time of the range
pub prints : (nanos : ℤ) (dt : DateTime) → is_moment (second nanos) ≡ true → civil_nanos dt ≡ nanos → datetime_text false 84 (Some 6) dt ++ zulu_text false ≡ time_text nanos
prints nanos dt known is =
    let m = second nanos in
    let t = dt.time in
    let at = split nanos in
    let from = second_is m (dated m known) in
    let p = parts m (epoch_day dt.date) (second_of m) (after nanos) t.hour t.minute t.second t.subsec_nanosecond from.0 at.1 t.hour_in t.minute_in t.second_in t.subsec_in (sym (civil_nanos-parts dt) ∙ is ∙ at.0) in
    same_parts (second_of m) (after nanos) dt from.1 p
    ∙ ap (λ b. if b then second_text (second_of m) ++ codes "." ++ number_text (micros nanos) ++ codes "Z" else codes "-") (sym known)

pub time_is_short : (nanos : ℤ) → length (time_text nanos) < 28
time_is_short nanos = by (is_moment (second nanos)) where
  by : (b : Bool) → length (if b then second_text (second_of (second nanos)) ++ codes "." ++ number_text (micros nanos) ++ codes "Z" else codes "-") < 28
  by true = lit< tt
  by false = lit< tt
