-- Texts with a time before each line, and how many lines there are.
use Rattle.std.proofs.Common.{◌≡◌, ◌≢◌, ◌≤◌, ◌⊎◌, ◌==◌, ℕ, suc, ◌+◌, ◌-◌, List, [], ◌∷◌, ◌++◌, Bool, true, false, All, length, take, drop, get_or, cond, inl, inr, refl, sym, ap, subst, ◌∙◌, arith, append_assoc, length-take-le, drop_of_length-le, ne_eqb}
use Rattle.std.proofs.lemmas.List.{take-append-drop, take_rest, length-drop}
use Rattle.std.proofs.lemmas.List.Elements.{All-head, All-tail}
use Rattle.std.proofs.Transfers.{StopsAt-take}
use Rattle.std.proofs.lemmas.Bool.Decides.{nat_tests}
use Rattle.std.specs.Io.{StopsAt}
use Rattle.std.specs.Io.BufRead.{ends_with_byte}
use Rattle.jiff_core.specs.declared.civil.datetime.DateTime.{DateTime}
use Rattle.rolltee_core.specs.Feed.{IsTimed, IsTextOf, begins_after, line_count, stamp_text}

pub timed_on : (begins : Bool) (xs ys text more : List ℕ) → IsTimed begins xs text → IsTimed (begins_after begins xs) ys more → IsTimed begins (xs ++ ys) (text ++ more)
timed_on false [] ys text more none next = subst (λ t. IsTimed false ys (t ++ more)) (sym none) next
timed_on true [] ys text more none next = subst (λ t. IsTimed true ys (t ++ more)) (sym none) next
timed_on false (x ∷ xs) ys text more first next = (first.0 ++ more, ap (λ t. t ++ more) first.1, timed_on (x == 10) xs ys first.0 more first.2 next)
timed_on true (x ∷ xs) ys text more first next =
    (first.0, first.1 ++ more, ap (λ t. t ++ more) first.2 ∙ append_assoc (stamp_text first.0) (x ∷ first.1) more, timed_on (x == 10) xs ys first.1 more first.3 next)

-- with times or without
pub text_on : (t begins : Bool) (xs ys text more : List ℕ) → IsTextOf t begins xs text → IsTextOf t (begins_after begins xs) ys more → IsTextOf t begins (xs ++ ys) (text ++ more)
text_on false begins xs ys text more first next = ap (λ z. z ++ more) first ∙ ap (λ z. xs ++ z) next
text_on true begins xs ys text more first next = timed_on begins xs ys text more first next

pub begins_on : (begins : Bool) (xs ys : List ℕ) → begins_after begins (xs ++ ys) ≡ begins_after (begins_after begins xs) ys
begins_on begins [] ys = refl
begins_on begins (x ∷ xs) ys = begins_on (x == 10) xs ys

pub text_none : (t : Bool) → IsTextOf t true [] []
text_none false = refl
text_none true = refl

pub counts_on : (begins : Bool) (xs ys : List ℕ) → line_count begins (xs ++ ys) ≡ line_count begins xs + line_count (begins_after begins xs) ys
counts_on false [] ys = omega arith
counts_on true [] ys = omega arith
counts_on false (x ∷ xs) ys = counts_on (x == 10) xs ys
counts_on true (x ∷ xs) ys = omega (arith, counts_on (x == 10) xs ys)

-- a line has no newline but at its end
abbrev pub IsLine : List ℕ → Type 0
IsLine [] = Unit {0}
IsLine (x ∷ []) = Unit {0}
IsLine (x ∷ y ∷ ys) = (x ≢ 10) × IsLine (y ∷ ys)

pub line_stops : (xs : List ℕ) → StopsAt xs 10 → IsLine xs
line_stops [] stops = tt
line_stops (x ∷ []) stops = tt
line_stops (x ∷ y ∷ ys) stops =
    let one : length (x ∷ y ∷ ys) - 1 ≡ suc (length (y ∷ ys) - 1) = omega arith in
    let all = subst (λ n. All (λ b. b ≢ 10) (take n (x ∷ y ∷ ys))) one stops in
    (All-head (λ b. b ≢ 10) x _ all, line_stops (y ∷ ys) (All-tail (λ b. b ≢ 10) x _ all))

timed_none : (begins : Bool) → IsTimed begins [] []
timed_none false = refl
timed_none true = refl

counts_none : (begins : Bool) → line_count begins [] ≡ 0
counts_none false = refl
counts_none true = refl

-- what follows the first byte of a line is in the same line
timed_rest : (x : ℕ) (xs : List ℕ) → IsLine (x ∷ xs) → IsTimed (x == 10) xs xs
timed_rest x [] line = timed_none (x == 10)
timed_rest x (y ∷ ys) line = subst (λ b. IsTimed b (y ∷ ys) (y ∷ ys)) (sym (ne_eqb x 10 line.0)) (ys, refl, timed_rest y ys line.1)

pub timed_part : (xs : List ℕ) → IsLine xs → IsTimed false xs xs
timed_part [] line = refl
timed_part (x ∷ xs) line = (xs, refl, timed_rest x xs line)

pub timed_line : (at : DateTime) (xs : List ℕ) → xs ≢ [] → IsLine xs → IsTimed true xs (stamp_text at ++ xs)
timed_line at [] some line = absurd (some refl)
timed_line at (x ∷ xs) some line = (at, xs, refl, timed_rest x xs line)

counts_rest : (x : ℕ) (xs : List ℕ) → IsLine (x ∷ xs) → line_count (x == 10) xs ≡ 0
counts_rest x [] line = counts_none (x == 10)
counts_rest x (y ∷ ys) line = ap (λ b. line_count b (y ∷ ys)) (ne_eqb x 10 line.0) ∙ counts_rest y ys line.1

pub counts_line : (xs : List ℕ) → xs ≢ [] → IsLine xs → line_count true xs ≡ 1
counts_line [] some line = absurd (some refl)
counts_line (x ∷ xs) some line = omega (arith, counts_rest x xs line)

ends_later : (x y : ℕ) (ys : List ℕ) → ends_with_byte 10 (x ∷ y ∷ ys) ≡ ends_with_byte 10 (y ∷ ys)
ends_later x y ys =
    let place : length (x ∷ y ∷ ys) - 1 ≡ suc (length (y ∷ ys) - 1) = omega arith in
    let same : get_or (x ∷ y ∷ ys) (length (x ∷ y ∷ ys) - 1) 0 ≡ get_or (y ∷ ys) (length (y ∷ ys) - 1) 0 = ap (λ k. get_or (x ∷ y ∷ ys) k 0) place in
    grind (arith, nat_tests)

-- the last byte says whether a line begins
last_ends : (begins : Bool) (x : ℕ) (xs : List ℕ) → begins_after begins (x ∷ xs) ≡ ends_with_byte 10 (x ∷ xs)
last_ends begins x [] = refl
last_ends begins x (y ∷ ys) = last_ends (x == 10) y ys ∙ sym (ends_later x y ys)

pub begins_ends : (begins : Bool) (xs : List ℕ) → (length xs == 0) ≡ false → begins_after begins xs ≡ ends_with_byte 10 xs
begins_ends begins [] some = absurd (let never : true ≡ false = some in cc)
begins_ends begins (x ∷ xs) some = last_ends begins x xs

-- after a newline a line begins
pub begins_after_end : (begins : Bool) (xs : List ℕ) → ends_with_byte 10 xs ≡ true → begins_after begins xs ≡ true
begins_after_end begins [] ends = absurd (let never : false ≡ true = ends in cc)
begins_after_end begins (x ∷ []) ends = ends
begins_after_end begins (x ∷ y ∷ ys) ends = begins_after_end (x == 10) (y ∷ ys) (sym (ends_later x y ys) ∙ ends)

-- the first line of a text, and the rest
pub counts_first : (n : ℕ) (xs : List ℕ) → 1 ≤ n → n ≤ length xs → All (λ x. x ≢ 10) (take (n - 1) xs) → (n ≡ length xs) ⊎ (ends_with_byte 10 (take n xs) ≡ true)
    → line_count true xs ≡ 1 + line_count true (drop n xs)
counts_first n xs some within line ends =
    let first = take n xs in
    let is_line = line_stops first (StopsAt-take xs 10 n within line) in
    let not_empty : first ≢ [] = λ none. omega (arith, some, length-take-le n xs within, ap length none) in
    let split = counts_on true first (drop n xs) in
    ap (line_count true) (sym (take-append-drop n xs)) ∙ split ∙ ap (λ k. k + line_count (begins_after true first) (drop n xs)) (counts_line first not_empty is_line)
    ∙ ap (λ k. 1 + k) (elim ends [
      | inl all ↦ ap (line_count (begins_after true first)) (drop_of_length-le xs (omega (arith, all))) ∙ sym (ap (line_count true) (drop_of_length-le xs (omega (arith, all))))
      | inr ended ↦ ap (λ b. line_count b (drop n xs)) (begins_after_end true first ended)
    ])

timed_next : (now : Bool) (first time : List ℕ) (at : DateTime) → time ≡ stamp_text at → first ≢ [] → IsLine first → IsTimed now first (cond now time [] ++ first)
timed_next true first time at is some line = subst (λ t. IsTimed true first (t ++ first)) (sym is) (timed_line at first some line)
timed_next false first time at is some line = timed_part first line

-- one line more of a piece
pub timed_more : (begins now : Bool) (n : ℕ) (done rest text time : List ℕ) → (at : DateTime) → time ≡ stamp_text at → 1 ≤ n → n ≤ length rest
    → All (λ x. x ≢ 10) (take (n - 1) rest) → IsTimed begins done text → begins_after begins done ≡ now
    → IsTimed begins (done ++ take n rest) (text ++ (cond now time [] ++ take n rest))
timed_more begins now n done rest text time at is some within line before begun =
    let first = take n rest in
    let is_line = line_stops first (StopsAt-take rest 10 n within line) in
    let not_empty : first ≢ [] = λ none. omega (arith, some, length-take-le n rest within, ap length none) in
    timed_on begins done first text (cond now time [] ++ first) before (subst (λ b. IsTimed b first (cond now time [] ++ first)) (sym begun) (timed_next now first time at is not_empty is_line))

-- after the first line of a text another one begins, if there is more
pub later_begins : (begins : Bool) (n : ℕ) (done rest : List ℕ) → n ≤ length rest → (n ≡ length rest) ⊎ (ends_with_byte 10 (take n rest) ≡ true) → drop n rest ≢ []
    → begins_after begins (done ++ take n rest) ≡ true
later_begins begins n done rest within (inl all) some = absurd (some (drop_of_length-le rest (omega (arith, all))))
later_begins begins n [] rest within (inr ended) some = begins_after_end begins (take n rest) ended
later_begins begins n (x ∷ done) rest within (inr ended) some = later_begins (x == 10) n done rest within (inr ended) some

-- one line more of a text is counted
pub count_more : (count total most n : ℕ) (rest : List ℕ) → count + line_count true rest ≡ total → count + length rest ≤ most → 1 ≤ n → n ≤ length rest
    → All (λ x. x ≢ 10) (take (n - 1) rest) → (n ≡ length rest) ⊎ (ends_with_byte 10 (take n rest) ≡ true)
    → ((count + 1) + line_count true (take (length rest - n) (drop n rest)) ≡ total) × ((count + 1) + length (take (length rest - n) (drop n rest)) ≤ most)
count_more count total most n rest counted bound some within line ends =
    let same = take_rest rest n in
    subst (λ r. ((count + 1) + line_count true r ≡ total) × ((count + 1) + length r ≤ most)) (sym same)
    (omega (arith, counted, counts_first n rest some within line ends), omega (arith, bound, some, within, length-drop n rest))
