-- Texts in one line.
use Rattle.std.proofs.Common.{◌≡◌, ◌≢◌, ◌∙◌, ℕ, ℤ, ◌+◌, ◌≤◌, ◌/◌, ◌%◌, Bool, true, false, nat_lt, List, [], ◌∷◌, ◌++◌, All, refl, sym, ap, subst, arith, inl, inr}
use Rattle.std.proofs.lemmas.Bool.{cases_eq}
use Rattle.std.proofs.lemmas.Grind.{common_steps, flat_map-append}
use Rattle.std.proofs.lemmas.List.Elements.{All-nil, All-cons, All-append}
use Rattle.std.specs.Prelude.{codes, if◌then◌else◌}
use Rattle.appender_names.specs.Calendar.{CivilDate, date_of}
use Rattle.appender_names.specs.DateText.{two_digits, second_of}
use Rattle.appender_names.specs.Name.{number_text}
use Rattle.appender_names.specs.Rotation.{is_moment}
use Rattle.appender_log.specs.OneLine.{hex_digit, is_control, record_escape, one_line}
use Rattle.appender_log.specs.Time.{second, micros, second_text, time_text}

-- a byte that is no control character
pub plain_byte : (b : ℕ) → is_control b ≡ false → record_escape b ≡ b ∷ []
plain_byte b plain = grind (arith, common_steps, plain)

-- one byte more that is none
pub plain_more : (text : List ℕ) (b : ℕ) → one_line text ≡ text → is_control b ≡ false → one_line (text ++ (b ∷ [])) ≡ text ++ (b ∷ [])
plain_more text b same plain =
    flat_map-append record_escape text (b ∷ []) ∙ ap (λ t. t ++ one_line (b ∷ [])) same ∙ ap (λ t. text ++ (t ++ [])) (plain_byte b plain)

hex_byte : (b : ℕ) → b ≢ 10 → b ≢ 13 → is_control b ≡ true
    → record_escape b ≡ 92 ∷ 120 ∷ hex_digit (b / 16) ∷ hex_digit (b % 16) ∷ []
hex_byte b newline return control = grind (arith, common_steps, control)

digit_is_high : (d : ℕ) → 48 ≤ hex_digit d
digit_is_high d = by (nat_lt d 10) refl where
  by : (less : Bool) → nat_lt d 10 ≡ less → 48 ≤ hex_digit d
  by true is = grind (arith, common_steps, is)
  by false is = grind (arith, common_steps, is)

abbrev NoNewline : List ℕ → Type 0
NoNewline = All (λ b. b ≢ 10)

add : (b : ℕ) (bs : List ℕ) → b ≢ 10 → NoNewline bs → NoNewline (b ∷ bs)
add b bs other rest = All-cons (λ b. b ≢ 10) b bs other rest

none : NoNewline []
none = All-nil (λ b. b ≢ 10)

hex_has_none : (a b : ℕ) → NoNewline (92 ∷ 120 ∷ hex_digit a ∷ hex_digit b ∷ [])
hex_has_none a b =
    let second = add (hex_digit b) [] (omega (arith, digit_is_high b)) none in
    let first = add (hex_digit a) (hex_digit b ∷ []) (omega (arith, digit_is_high a)) second in
    add 92 (120 ∷ hex_digit a ∷ hex_digit b ∷ []) (omega arith) (add 120 (hex_digit a ∷ hex_digit b ∷ []) (omega arith) first)

byte_has_none : (b : ℕ) → NoNewline (record_escape b)
byte_has_none b = elim (cases_eq b 10) [
  | inl ten ↦ subst (λ (x : ℕ). NoNewline (record_escape x)) (sym ten) (add 92 (110 ∷ []) (omega arith) (add 110 [] (omega arith) none))
  | inr other ↦ elim (cases_eq b 13) [
    | inl thirteen ↦ subst (λ (x : ℕ). NoNewline (record_escape x)) (sym thirteen) (add 92 (114 ∷ []) (omega arith) (add 114 [] (omega arith) none))
    | inr not_return ↦ by other not_return (is_control b) refl
  ]
] where
  by : b ≢ 10 → b ≢ 13 → (control : Bool) → is_control b ≡ control → NoNewline (record_escape b)
  by other not_return true is = subst NoNewline (sym (hex_byte b other not_return is)) (hex_has_none (b / 16) (b % 16))
  by other not_return false is = subst NoNewline (sym (plain_byte b is)) (add b [] other none)

pub line_has_none : (text : List ℕ) → NoNewline (one_line text)
line_has_none [] = none
line_has_none (b ∷ text) = All-append (λ b. b ≢ 10) (record_escape b) (one_line text) (byte_has_none b) (line_has_none text)

-- texts without a newline
abbrev Plain : Type 0
Plain = (text : List ℕ) × NoNewline text

abbrev join : Plain → Plain → Plain
join a b = (a.0 ++ b.0, All-append (λ b. b ≢ 10) a.0 b.0 a.1 b.1)

abbrev byte : (b : ℕ) → b ≢ 10 → Plain
byte b other = (b ∷ [], add b [] other none)

abbrev digits : ℕ → Plain
digits n = (two_digits n, add (48 + n / 10) ((48 + n % 10) ∷ []) (omega arith) (add (48 + n % 10) [] (omega arith) none))

abbrev day : CivilDate → Plain
day d =
    let dash = byte 45 (omega arith) in
    join (join (digits (d.year / 100)) (digits (d.year % 100))) (join dash (join (digits d.month) (join dash (digits d.day))))

abbrev seconds : ℕ → Plain
seconds s =
    let colon = byte 58 (omega arith) in
    join (day (date_of (s / 86400))) (join (byte 84 (omega arith)) (join (digits (s % 86400 / 3600)) (join colon (join (digits (s % 3600 / 60)) (join colon (digits (s % 60)))))))

abbrev number : ℕ → Plain
number k = join (digits (k / 10000)) (join (digits (k / 100 % 100)) (digits (k % 100)))

abbrev whole : ℕ → ℕ → Plain
whole s k = join (seconds s) (join (byte 46 (omega arith)) (join (number k) (byte 90 (omega arith))))

pub time_has_none : (nanos : ℤ) → NoNewline (time_text nanos)
time_has_none nanos = by (is_moment (second nanos)) where
  by : (b : Bool) → NoNewline (if b then second_text (second_of (second nanos)) ++ codes "." ++ number_text (micros nanos) ++ codes "Z" else codes "-")
  by true = (whole (second_of (second nanos)) (micros nanos)).1
  by false = (byte 45 (omega arith)).1

pub line_at_has_none : (nanos : ℤ) (text : List ℕ) → NoNewline (time_text nanos ++ codes " " ++ one_line text)
line_at_has_none nanos text = (join (join (time_text nanos, time_has_none nanos) (byte 32 (omega arith))) (one_line text, line_has_none text)).1
