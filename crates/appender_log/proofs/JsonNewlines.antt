-- The line of a record has one newline.
use Rattle.std.proofs.Common.{◌≡◌, ◌≢◌, ◌∙◌, ℕ, suc, ◌+◌, ◌<◌, Bool, true, false, cond, not, ◌&&◌, ◌||◌, ◌==◌, List, [], ◌∷◌, ◌++◌, Option, None, Some, IfSome, All, drop, option_and_then, true≢false, refl, sym, ap, subst, arith, inl, inr}
use Rattle.std.proofs.lemmas.Bool.{and_parts, not-true, eqb-false, cases_lt, cond_both, agree_below_at}
use Rattle.std.proofs.lemmas.List.Elements.{All-nil, All-cons, All-append}
use Rattle.std.proofs.lemmas.Option.{IfSome_then}
use Rattle.std.specs.Char.{is_ascii_digit}
use Rattle.std.specs.List.{prefix_len}
use Rattle.json.proofs.Printed.Strings.{escape_byte_plain}
use Rattle.json.specs.Print.{escape_byte, escape, quoted, token_text, begins, ends, separator, print_from, IsNumber, IsPrintableOrBad, ArePrintableOrBad}
use Rattle.json.specs.Token.{Token, begin_object, end_object, begin_array, end_array, key, string, number, boolean, null, bad}
use Rattle.json.specs.Word.{head, after_digits, after_minus, after_sign, after_whole, after_fraction, after_exponent, after_number}

abbrev pub NoNewline : List ℕ → Type 0
NoNewline = All (λ b. b ≢ 10)

none : NoNewline []
none = All-nil (λ b. b ≢ 10)

add : (b : ℕ) (bs : List ℕ) → b ≢ 10 → NoNewline bs → NoNewline (b ∷ bs)
add b bs other rest = All-cons (λ b. b ≢ 10) b bs other rest

join : (bs cs : List ℕ) → NoNewline bs → NoNewline cs → NoNewline (bs ++ cs)
join bs cs = All-append (λ b. b ≢ 10) bs cs

-- a test that computes on literals
abbrev has_none : List ℕ → Bool
has_none [] = true
has_none (b ∷ bs) = not (b == 10) && has_none bs

by_test : (bs : List ℕ) → has_none bs ≡ true → NoNewline bs
by_test [] is = none
by_test (b ∷ bs) is =
    let parts = and_parts (not (b == 10)) (has_none bs) is in
    add b bs (eqb-false b 10 (not-true (b == 10) parts.0)) (by_test bs parts.1)

-- ---- strings

-- the backslash, 92, is the last byte that is escaped
low_has_none : (b : ℕ) → b < 93 → has_none (escape_byte b) ≡ true
unfolding escape_byte
low_has_none b low = agree_below_at (λ b. has_none (escape_byte b)) (λ _. true) 93 b refl low

byte_has_none : (b : ℕ) → NoNewline (escape_byte b)
byte_has_none b = elim (cases_lt b 93) [
  | inl low ↦ by_test (escape_byte b) (low_has_none b low)
  | inr high ↦ rw (escape_byte_plain b (λ e. omega arith) (λ e. omega arith) (omega arith)) (add b [] (λ e. omega arith) none)
]

escape_has_none : (s : List ℕ) → NoNewline (escape s)
escape_has_none [] = none
escape_has_none (b ∷ s) = join (escape_byte b) (escape s) (byte_has_none b) (escape_has_none s)

quoted_has_none : (s : List ℕ) → NoNewline (quoted s)
quoted_has_none s = let quote = by_test (34 ∷ []) refl in join (34 ∷ []) (escape s ++ 34 ∷ []) quote (join (escape s) (34 ∷ []) (escape_has_none s) quote)

-- ---- numbers

-- a text has none if what a part of the grammar leaves of it has none
abbrev Leaves : List ℕ → Option (List ℕ) → Type 0
Leaves text rest = IfSome rest (λ r. NoNewline r → NoNewline text)

first : (test : ℕ → Bool) → test 10 ≡ false → (text : List ℕ) → test (head text) ≡ true → NoNewline (drop 1 text) → NoNewline text
first test other [] is rest = none
first test other (b ∷ text) is rest = add b text (λ e. true≢false (sym is ∙ ap test e ∙ other)) rest

optional : (test : ℕ → Bool) → test 10 ≡ false → (text : List ℕ) → NoNewline (cond (test (head text)) (drop 1 text) text) → NoNewline text
optional test other text = cond_both (test (head text)) (drop 1 text) text (λ r. NoNewline r → NoNewline text) (first test other text) (λ _ h. h)

digit_run : (text : List ℕ) → NoNewline (drop (prefix_len is_ascii_digit text) text) → NoNewline text
digit_run [] = λ rest. rest
digit_run (b ∷ text) =
    let next : 1 + prefix_len is_ascii_digit text ≡ suc (prefix_len is_ascii_digit text) = omega arith in
    cond_both (is_ascii_digit b) (1 + prefix_len is_ascii_digit text) 0 (λ n. NoNewline (drop n (b ∷ text)) → NoNewline (b ∷ text))
    (λ is rest. first is_ascii_digit refl (b ∷ text) is (digit_run text (subst (λ n. NoNewline (drop n (b ∷ text))) next rest))) (λ _ rest. rest)

digits : (text : List ℕ) → Leaves text (after_digits text)
digits text =
    let n = prefix_len is_ascii_digit text in
    cond_both (n == 0) None (Some (drop n text)) (Leaves text) (λ _. tt) (λ _. digit_run text)

signed_digits : (text : List ℕ) → Leaves text (after_digits (after_sign text))
signed_digits text =
    let rest = after_sign text in
    IfSome_then (after_digits rest) (digits rest) (λ r h k. optional (λ b. (b == 45) || (b == 43)) refl text (h k))

module _ (part : List ℕ → Option (List ℕ)) (each : (text : List ℕ) → Leaves text (part text)) where
  after : (test : ℕ → Bool) → test 10 ≡ false → (text : List ℕ) → Leaves text (cond (test (head text)) (part (drop 1 text)) (Some text))
  after test other text =
      cond_both (test (head text)) (part (drop 1 text)) (Some text) (Leaves text)
      (λ is. IfSome_then (part (drop 1 text)) (each (drop 1 text)) (λ r h k. first test other text is (h k))) (λ _ h. h)

  then : (text : List ℕ) (rest : Option (List ℕ)) → Leaves text rest → Leaves text (option_and_then part rest)
  then text None h = tt
  then text (Some r) h = IfSome_then (part r) (each r) (λ s g k. h (g k))

number_has_none : (s : List ℕ) → IsNumber s → NoNewline s
unfolding after_number
number_has_none s is =
    let t = after_minus s in
    let whole : Leaves t (after_whole t) = cond_both (head t == 48) (Some (drop 1 t)) (after_digits t) (Leaves t) (first (λ b. b == 48) refl t) (λ _. digits t) in
    let fraction = then after_fraction (after after_digits digits (λ b. b == 46) refl) t (after_whole t) whole in
    let exponent = then after_exponent (after (λ u. after_digits (after_sign u)) signed_digits (λ b. (b == 101) || (b == 69)) refl) t _ fraction in
    optional (λ b. b == 45) refl s (subst (Leaves t) is exponent none)

-- ---- tokens

text_has_none : (t : Token) → IsPrintableOrBad t → NoNewline (token_text t)
text_has_none (key s) h = join (quoted s) (58 ∷ []) (quoted_has_none s) (by_test (58 ∷ []) refl)
text_has_none (string s) h = quoted_has_none s
text_has_none (number s) h = number_has_none s h
text_has_none (boolean true) h = by_test (token_text (boolean true)) refl
text_has_none (boolean false) h = by_test (token_text (boolean false)) refl
text_has_none begin_object h = by_test (token_text begin_object) refl
text_has_none end_object h = by_test (token_text end_object) refl
text_has_none begin_array h = by_test (token_text begin_array) refl
text_has_none end_array h = by_test (token_text end_array) refl
text_has_none null h = by_test (token_text null) refl
text_has_none bad h = none

pub print_has_none : (after : Bool) (ts : List Token) → ArePrintableOrBad ts → NoNewline (print_from after ts)
unfolding print_from
print_has_none after [] h = none
print_has_none after (t ∷ ts) h =
    join (separator after t) _ (cond_both (after && begins t) (44 ∷ []) [] NoNewline (λ _. by_test (44 ∷ []) refl) (λ _. none))
    (join (token_text t) _ (text_has_none t h.0) (print_has_none (ends t) ts h.1))
