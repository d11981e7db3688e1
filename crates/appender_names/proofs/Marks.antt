-- What is between prefix and suffix: later dates, and greater numbers of one date, have greater texts.
use Rattle.std.proofs.Common.{◌≡◌, ℕ, suc, ◌+◌, ◌-◌, ◌*◌, ◌/◌, ◌%◌, ◌<◌, ◌≤◌, ℤ, Bool, true, false, inl, inr, List, [], ◌∷◌, ◌++◌, length, take, length-append, append_assoc, arith, refl, ap, sym, ◌∙◌}
use Rattle.std.specs.Cmp.Lexicographic.{slice_cmp}
use Rattle.std.specs.Ordering.{nat_cmp}
use Rattle.std.specs.declared.cmp.Ordering.TheVariants.{Less, Equal}
use Rattle.std.proofs.lemmas.Bool.{cases_lt, cases_order}
use Rattle.std.proofs.lemmas.Int.{ints}
use Rattle.appender_names.specs.declared.rotation.RotationKind.{RotationKind}
use Rattle.appender_names.specs.declared.rotation.RotationKind.TheVariants.{Minutely, Hourly, Daily, Weekly, Never}
use Rattle.appender_names.specs.DateText.{IsDated, second_of, two_digits, date_text, text_at, unit_of}
use Rattle.appender_names.specs.Name.{number_text, numbered_date, greatest_number, before_suffix, dotted_suffix, dated_name, IsLaterName}
use Rattle.std.specs.List.{slice_index}
use Rattle.std.proofs.lemmas.List.{append-nil}
use Rattle.appender_names.proofs.Clock.{second_is}
use Rattle.appender_names.proofs.Order.{IsLess, digits_less, cmp_front, cmp_behind, cmp_same, text_less}

-- the greater of two numbers has the greater text
number_less : (j k : ℕ) → j < k → IsLess (number_text j) (number_text k)
number_less j k h = digits_less (two_digits (j / 10000) ++ two_digits (j / 100 % 100)) (two_digits (k / 10000) ++ two_digits (k / 100 % 100)) (j % 100) (k % 100) (elim (cases_lt (j / 100) (k / 100)) [
  | inl front ↦ inl (digits_less (two_digits (j / 10000)) (two_digits (k / 10000)) (j / 100 % 100) (k / 100 % 100) (elim (cases_lt (j / 10000) (k / 10000)) [
    | inl high ↦ inl (digits_less [] [] (j / 10000) (k / 10000) (inr (refl, high)))
    | inr dotted_suffix ↦ inr (ap two_digits (omega arith), omega arith)
  ]))
  | inr dotted_suffix ↦ (
      let high : j / 10000 ≡ k / 10000 = omega arith in
      let middle : j / 100 % 100 ≡ k / 100 % 100 = omega arith in
      inr (rw (high, middle) refl, omega arith))
])

pub same_length : (k : RotationKind) (a b : ℕ) → length (text_at k a) ≡ length (text_at k b)
same_length Minutely a b = refl
same_length Hourly a b = refl
same_length Daily a b = refl
same_length Weekly a b = refl
same_length Never a b = refl

-- a whole minute, hour or day of the years 0000 to 9999, as dates name it
pub record IsWhole (kind : RotationKind) (s : ℤ) : Type 0 where
  pub years : IsDated s
  pub whole : second_of s % unit_of kind ≡ 0

pub marked_length : (b : Bool) (d e : List ℕ) (j k : ℕ) → length d ≡ length e → length (numbered_date b d j) ≡ length (numbered_date b e k)
marked_length false d e j k h = h
marked_length true [] [] j k h = refl
marked_length true [] (y ∷ ys) j k h = absurd (omega arith)
marked_length true (x ∷ xs) [] j k h = absurd (omega arith)
marked_length true (x ∷ xs) (y ∷ ys) j k h = ap suc (marked_length true xs ys j k (omega arith))

pub mark_less : (b : Bool) (kind : RotationKind) (s t : ℤ) (j k : ℕ) → IsWhole kind s → IsWhole kind t → k ≤ greatest_number b → IsLaterName s j t k
    → slice_cmp nat_cmp (numbered_date b (date_text kind s) j) (numbered_date b (date_text kind t) k) ≡ Less
mark_less false kind s t j k x y top (inl lt) = text_less kind s t x.years y.years x.whole y.whole lt
mark_less false kind s t j k x y top (inr (same, lt)) = absurd (omega arith)
mark_less true kind s t j k x y top (inl lt) =
    cmp_behind (date_text kind s) (date_text kind t) (46 ∷ number_text j) (46 ∷ number_text k) (same_length kind (second_of s) (second_of t)) (text_less kind s t x.years y.years x.whole y.whole lt)
mark_less true kind s t j k x y top (inr (same, lt)) =
    rw same (cmp_front (date_text kind t) (46 ∷ number_text j) (46 ∷ number_text k) ∙ cmp_front (46 ∷ []) (number_text j) (number_text k) ∙ number_less j k lt [] [])

-- so one text is that of one date and one number
apart : (b : Bool) (kind : RotationKind) (s t : ℤ) (j k : ℕ) → IsWhole kind s → IsWhole kind t → k ≤ greatest_number b
    → numbered_date b (date_text kind s) j ≡ numbered_date b (date_text kind t) k → ¬ IsLaterName s j t k
apart b kind s t j k x y top e later =
    let less = mark_less b kind s t j k x y top later in
    let same : slice_cmp nat_cmp (numbered_date b (date_text kind s) j) (numbered_date b (date_text kind t) k) ≡ Equal = rw e (cmp_same (numbered_date b (date_text kind t) k)) in
    cc

pub mark_once : (b : Bool) (kind : RotationKind) (s t : ℤ) (j k : ℕ) → IsWhole kind s → IsWhole kind t → j ≤ greatest_number b → k ≤ greatest_number b
    → numbered_date b (date_text kind s) j ≡ numbered_date b (date_text kind t) k → (s ≡ t) × (j ≡ k)
mark_once b kind s t j k x y low top e =
    let here = (second_is s x.years).0 in
    let there = (second_is t y.years).0 in
    elim (cases_order (second_of s) (second_of t)) [
      | inl same ↦ (
          let one : s ≡ t = omega (arith, ints) in
          elim (cases_order j k) [
            | inl number ↦ (one, number)
            | inr (inl lt) ↦ absurd (apart b kind s t j k x y top e (inr (one, lt)))
            | inr (inr gt) ↦ absurd (apart b kind t s k j y x low (sym e) (inr (sym one, gt)))
          ])
      | inr (inl lt) ↦ absurd (apart b kind s t j k x y top e (inl (omega (arith, ints))))
      | inr (inr gt) ↦ absurd (apart b kind t s k j y x low (sym e) (inl (omega (arith, ints))))
    ]

-- ---- places, counted by units and in a unit by numbers

pub place : (b : Bool) (u k : ℕ) → k ≤ greatest_number b → ((u * suc (greatest_number b) + k) / suc (greatest_number b) ≡ u) × ((u * suc (greatest_number b) + k) % suc (greatest_number b) ≡ k)
place false u k h = (omega arith, omega arith)
place true u k h = (omega arith, omega arith)

pub place_low : (b : Bool) (u k end : ℕ) → u < end → k ≤ greatest_number b → u * suc (greatest_number b) + k < end * suc (greatest_number b)
place_low false u k end lt h = omega arith
place_low true u k end lt h = omega arith

pub unit_low : (b : Bool) (i end : ℕ) → i < end * suc (greatest_number b) → (i / suc (greatest_number b) < end) × (i % suc (greatest_number b) ≤ greatest_number b)
unit_low false i end h = (omega arith, omega arith)
unit_low true i end h = (omega arith, omega arith)

-- ---- what a mark is made of

append_same : (d e t u : List ℕ) → length t ≡ length u → d ++ t ≡ e ++ u → d ≡ e
append_same [] [] t u len same = refl
append_same [] (y ∷ ys) t u len same = absurd (omega (arith, ap length same, length-append (y ∷ ys) u))
append_same (x ∷ xs) [] t u len same = absurd (omega (arith, ap length same, length-append (x ∷ xs) t))
append_same (x ∷ xs) (y ∷ ys) t u len same =
    let head : x ≡ y = cc in
    let rest : xs ++ t ≡ ys ++ u = cc in
    rw (head, append_same xs ys t u len rest) refl

-- the date
pub marked_date : (b : Bool) (d e : List ℕ) (j k : ℕ) → numbered_date b d j ≡ numbered_date b e k → d ≡ e
marked_date false d e j k same = same
marked_date true d e j k same = append_same d e (46 ∷ number_text j) (46 ∷ number_text k) refl same

-- ---- a number in a name

before_back : (t s : List ℕ) → before_suffix t s ≡ t ++ dotted_suffix s
before_back t [] = sym (append-nil t)
before_back t (x ∷ xs) = refl

abbrev pub front : List ℕ → List ℕ → List ℕ
front [] date = date ++ 46 ∷ []
front (x ∷ xs) date = (x ∷ xs) ++ 46 ∷ (date ++ 46 ∷ [])

bare_is : (s date : List ℕ) (k : ℕ) → before_suffix (date ++ 46 ∷ number_text k) s ≡ (date ++ 46 ∷ []) ++ (number_text k ++ dotted_suffix s)
bare_is s date k = before_back (date ++ 46 ∷ number_text k) s ∙ append_assoc date (46 ∷ number_text k) (dotted_suffix s) ∙ sym (append_assoc date (46 ∷ []) (number_text k ++ dotted_suffix s))

pub numbered_is : (p s date : List ℕ) (k : ℕ) → dated_name p s (numbered_date true date k) ≡ front p date ++ (number_text k ++ dotted_suffix s)
numbered_is [] s date k = bare_is s date k
numbered_is (x ∷ xs) s date k =
    ap (λ t. (x ∷ xs) ++ 46 ∷ t) (bare_is s date k) ∙ sym (append_assoc (x ∷ xs) (46 ∷ (date ++ 46 ∷ [])) (number_text k ++ dotted_suffix s))

pub index_behind : (xs ys : List ℕ) (y : ℕ) → slice_index (xs ++ y ∷ ys) (length xs) ≡ y
index_behind [] ys y = refl
index_behind (x ∷ xs) ys y = index_behind xs ys y

pub take_front : (xs ys : List ℕ) → take (length xs) (xs ++ ys) ≡ xs
take_front [] ys = refl
take_front (x ∷ xs) ys = ap (λ t. x ∷ t) (take_front xs ys)

-- Where a name is cut for another number: after the front, which ends with the dot before the number.
pub record IsCut (bytes p s date : List ℕ) (keep : ℕ) : Type 0 where
  pub kept : take keep bytes ≡ front p date
  pub digit : slice_index bytes keep ≡ 48
  pub low : keep ≤ length bytes
  pub room : keep + (6 + length (dotted_suffix s)) ≡ length bytes

pub cut : (bytes p s date : List ℕ) (tail : ℕ) → bytes ≡ dated_name p s (numbered_date true date 0) → tail ≡ 6 + length (dotted_suffix s) → IsCut bytes p s date (length bytes - tail)
cut bytes p s date tail is tail_is =
    let f = front p date in
    let whole : bytes ≡ f ++ (number_text 0 ++ dotted_suffix s) = is ∙ numbered_is p s date 0 in
    let size = ap length whole ∙ length-append f (number_text 0 ++ dotted_suffix s) in
    let count : length (number_text 0 ++ dotted_suffix s) ≡ 6 + length (dotted_suffix s) = omega arith in
    let same : length bytes - tail ≡ length f = omega (arith, size, count, tail_is) in
    record {
      kept = rw (same, whole) (take_front f (number_text 0 ++ dotted_suffix s));
      digit = rw (same, whole) (index_behind f (48 ∷ 48 ∷ 48 ∷ 48 ∷ 48 ∷ dotted_suffix s) 48);
      low = omega arith;
      room = omega (arith, size, count, tail_is);
    }
