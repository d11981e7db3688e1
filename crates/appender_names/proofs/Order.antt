-- Later dates have greater texts, byte by byte.
use Rattle.std.proofs.Common.{◌≡◌, ℕ, ◌+◌, ◌/◌, ◌%◌, ◌<◌, ℤ, ◌<ℤ◌, ◌⊎◌, inl, inr, List, [], ◌∷◌, ◌++◌, length, append_assoc, arith, refl, ap, sym, ◌∙◌}
use Rattle.std.specs.Cmp.Lexicographic.{slice_cmp}
use Rattle.std.specs.Ordering.{nat_cmp, ordering_then}
use Rattle.std.specs.declared.cmp.Ordering.TheVariants.{Less, Equal, Greater}
use Rattle.std.specs.Cmp.{nat_cmp_is}
use Rattle.std.proofs.lemmas.Bool.{cases_lt}
use Rattle.std.proofs.lemmas.Int.{ints}
use Rattle.jiff_core.specs.declared.civil.date.Date.{Date}
use Rattle.jiff_core.proofs.DateLemmas.{IsEarlier, epoch_day-lt, epoch_day_same, cases_date}
use Rattle.appender_names.specs.declared.rotation.RotationKind.{RotationKind}
use Rattle.appender_names.specs.declared.rotation.RotationKind.TheVariants.{Minutely, Hourly, Daily, Weekly, Never}
use Rattle.appender_names.specs.Calendar.{CivilDate, date_of}
use Rattle.appender_names.specs.DateText.{IsDated, second_of, two_digits, day_text, day_at, date_text, text_at, unit_of}
use Rattle.appender_names.proofs.Dates.{IsCivil, date_on}
use Rattle.appender_names.proofs.Clock.{second_is}

less : (a b : ℕ) → a < b → nat_cmp a b ≡ Less
less a b h = sym (nat_cmp_is a b Less h)

same : (a : ℕ) → nat_cmp a a ≡ Equal
same a = sym (nat_cmp_is a a Equal refl)

-- what two texts have in front does not count
pub cmp_front : (p a b : List ℕ) → slice_cmp nat_cmp (p ++ a) (p ++ b) ≡ slice_cmp nat_cmp a b
cmp_front [] a b = refl
cmp_front (x ∷ xs) a b = rw (same x) (cmp_front xs a b)

pub cmp_same : (a : List ℕ) → slice_cmp nat_cmp a a ≡ Equal
cmp_same [] = refl
cmp_same (x ∷ xs) = rw (same x) (cmp_same xs)

-- nor what is after two texts of one length that differ
pub cmp_behind : (a b xs ys : List ℕ) → length a ≡ length b → slice_cmp nat_cmp a b ≡ Less → slice_cmp nat_cmp (a ++ xs) (b ++ ys) ≡ Less
cmp_behind [] [] xs ys len h = cc
cmp_behind [] (b ∷ bs) xs ys len h = absurd (omega arith)
cmp_behind (a ∷ as') [] xs ys len h = absurd (omega arith)
cmp_behind (a ∷ as') (b ∷ bs) xs ys len h =
    (elim (nat_cmp a b) as (λ o. ordering_then o (slice_cmp nat_cmp as' bs) ≡ Less → ordering_then o (slice_cmp nat_cmp (as' ++ xs) (bs ++ ys)) ≡ Less)
    [ Less ↦ λ e. refl | Equal ↦ λ e. cmp_behind as' bs xs ys (omega arith) e | Greater ↦ λ e. cc ]) h

-- less whatever follows
abbrev pub IsLess : List ℕ → List ℕ → Type 0
IsLess a b = (xs ys : List ℕ) → slice_cmp nat_cmp (a ++ xs) (b ++ ys) ≡ Less

first_less : (a b : ℕ) → a < b → IsLess (a ∷ []) (b ∷ [])
first_less a b h xs ys = rw (less a b h) refl

-- less in front, or the same there and less in the two digits after
pub digits_less : (f g : List ℕ) (a b : ℕ) → IsLess f g ⊎ ((f ≡ g) × (a < b)) → IsLess (f ++ two_digits a) (g ++ two_digits b)
digits_less f g a b (inl front) xs ys = rw (append_assoc f (two_digits a) xs, append_assoc g (two_digits b) ys) (front (two_digits a ++ xs) (two_digits b ++ ys))
digits_less f g a b (inr (front, lt)) xs ys =
    rw (front, append_assoc g (two_digits a) xs, append_assoc g (two_digits b) ys)
    (cmp_front g (two_digits a ++ xs) (two_digits b ++ ys) ∙ elim (cases_lt (a / 10) (b / 10)) [
      | inl tens ↦ first_less (48 + a / 10) (48 + b / 10) (omega arith) ((48 + a % 10) ∷ xs) ((48 + b % 10) ∷ ys)
      | inr back ↦ (let tens : a / 10 ≡ b / 10 = omega arith in
          rw tens (cmp_front ((48 + b / 10) ∷ []) ((48 + a % 10) ∷ xs) ((48 + b % 10) ∷ ys) ∙ first_less (48 + a % 10) (48 + b % 10) (omega arith) xs ys))
    ])

-- the earlier of two dates
abbrev pub Precedes : CivilDate → CivilDate → Type 0
Precedes a b = (a.year < b.year) ⊎ ((a.year ≡ b.year) × ((a.month < b.month) ⊎ ((a.month ≡ b.month) × (a.day < b.day))))

-- a day text up to the year, and up to the month
abbrev year_text : CivilDate → List ℕ
year_text d = two_digits (d.year / 100) ++ two_digits (d.year % 100)

abbrev month_text : CivilDate → List ℕ
month_text d = year_text d ++ 45 ∷ two_digits d.month

year_less : (a b : CivilDate) → a.year < b.year → IsLess (year_text a) (year_text b)
year_less a b h = digits_less (two_digits (a.year / 100)) (two_digits (b.year / 100)) (a.year % 100) (b.year % 100) (elim (cases_lt (a.year / 100) (b.year / 100)) [
  | inl century ↦ inl (digits_less [] [] (a.year / 100) (b.year / 100) (inr (refl, century)))
  | inr back ↦ inr (ap two_digits (omega arith), omega arith)
])

month_less : (a b : CivilDate) → (a.year < b.year) ⊎ ((a.year ≡ b.year) × (a.month < b.month)) → IsLess (month_text a) (month_text b)
month_less a b h = digits_less (year_text a ++ 45 ∷ []) (year_text b ++ 45 ∷ []) a.month b.month (elim h [
  | inl year ↦ inl (λ xs ys. year_less a b year (45 ∷ xs) (45 ∷ ys))
  | inr (year, month) ↦ inr (rw year refl, month)
])

day_text_less : (a b : CivilDate) → Precedes a b → IsLess (day_text a) (day_text b)
day_text_less a b h = digits_less (month_text a ++ 45 ∷ []) (month_text b ++ 45 ∷ []) a.day b.day (elim h [
  | inl year ↦ inl (λ xs ys. month_less a b (inl year) (45 ∷ xs) (45 ∷ ys))
  | inr (year, inl month) ↦ inl (λ xs ys. month_less a b (inr (year, month)) (45 ∷ xs) (45 ∷ ys))
  | inr (year, inr (month, day)) ↦ inr (rw (year, month) refl, day)
])

earlier_precedes : (x y : Date) (a b : CivilDate) → IsCivil a x → IsCivil b y → IsEarlier x y → Precedes a b
earlier_precedes x y a b c d (inl year) = inl (omega (arith, ints, c.year, d.year))
earlier_precedes x y a b c d (inr (year, inl month)) = inr (omega (arith, ints, c.year, d.year), inl (omega (arith, c.month, d.month)))
earlier_precedes x y a b c d (inr (year, inr (month, day))) = inr (omega (arith, ints, c.year, d.year), inr (omega (arith, c.month, d.month), omega (arith, c.day, d.day)))

pub precedes : (m n : ℕ) → m < n → n < 3652425 → Precedes (date_of m) (date_of n)
precedes m n h small =
    let x = date_on m (omega arith) in
    let y = date_on n small in
    elim (cases_date x.0 y.0) [
      | inl lt ↦ earlier_precedes x.0 y.0 (date_of m) (date_of n) x.2 y.2 lt
      | inr (inl gt) ↦ absurd (omega (arith, ints, epoch_day-lt y.0 x.0 gt, x.1, y.1))
      | inr (inr is) ↦ absurd (omega (arith, ints, epoch_day_same x.0 y.0 is.0 is.1 is.2, x.1, y.1))
    ]

day_less : (m n : ℕ) → m / 86400 < n / 86400 → n < 315569520000 → IsLess (day_at m) (day_at n)
day_less m n h small = day_text_less (date_of (m / 86400)) (date_of (n / 86400)) (precedes (m / 86400) (n / 86400) h (omega arith))

hour_less : (m n : ℕ) → m / 3600 < n / 3600 → n < 315569520000 → IsLess (text_at Hourly m) (text_at Hourly n)
hour_less m n h small = digits_less (day_at m ++ 45 ∷ []) (day_at n ++ 45 ∷ []) (m % 86400 / 3600) (n % 86400 / 3600) (elim (cases_lt (m / 86400) (n / 86400)) [
  | inl day ↦ inl (λ xs ys. day_less m n day small (45 ∷ xs) (45 ∷ ys))
  | inr back ↦ (let day : m / 86400 ≡ n / 86400 = omega arith in inr (rw day refl, omega arith))
])

minute_less : (m n : ℕ) → m / 60 < n / 60 → n < 315569520000 → IsLess (text_at Minutely m) (text_at Minutely n)
minute_less m n h small = digits_less (text_at Hourly m ++ 45 ∷ []) (text_at Hourly n ++ 45 ∷ []) (m % 3600 / 60) (n % 3600 / 60) (elim (cases_lt (m / 3600) (n / 3600)) [
  | inl hour ↦ inl (λ xs ys. hour_less m n hour small (45 ∷ xs) (45 ∷ ys))
  | inr back ↦ (
      let day : m / 86400 ≡ n / 86400 = omega arith in
      let hour : m % 86400 / 3600 ≡ n % 86400 / 3600 = omega arith in
      inr (rw (day, hour) refl, omega arith))
])

by_kind : (kind : RotationKind) (m n : ℕ) → m % unit_of kind ≡ 0 → n % unit_of kind ≡ 0 → m < n → n < 315569520000 → slice_cmp nat_cmp (text_at kind m) (text_at kind n) ≡ Less
by_kind Minutely m n v w h small = minute_less m n (omega arith) small [] []
by_kind Hourly m n v w h small = hour_less m n (omega arith) small [] []
by_kind Daily m n v w h small = day_less m n (omega arith) small [] []
by_kind Weekly m n v w h small = day_less m n (omega arith) small [] []
by_kind Never m n v w h small = day_less m n (omega arith) small [] []

-- of two whole minutes, hours or days, the later has the greater text
pub text_less : (kind : RotationKind) (s t : ℤ) → IsDated s → IsDated t → second_of s % unit_of kind ≡ 0 → second_of t % unit_of kind ≡ 0 → s <ℤ t → slice_cmp nat_cmp (date_text kind s) (date_text kind t) ≡ Less
text_less kind s t a b v w h =
    let here = second_is s a in
    let there = second_is t b in
    let later : second_of s < second_of t = omega (arith, ints) in
    by_kind kind (second_of s) (second_of t) v w later there.1
