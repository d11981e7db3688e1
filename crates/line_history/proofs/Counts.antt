-- How many lines an interleaving has, and what it is of one sender.
use Rattle.std.proofs.Common.{◌≡◌, ◌∙◌, ◌≢◌, ℕ, zero, suc, ◌+◌, ◌<◌, ◌≤◌, ◌∷◌, [], List, Bool, true, false, ◌==◌, cond, length, filter, slice_index_or, refl, ap, sym, arith, sum_by}
use Rattle.std.proofs.lemmas.Bool.Decides.{nat_tests}
use Rattle.std.proofs.lemmas.List.{length-map}
use Rattle.std.proofs.lemmas.List.Sums.{sum_by-cons}
use Rattle.line_history.specs.Interleaving.{PlacedLine, IsInterleaving, lines_of, lines_from}

-- how many lines a place has
abbrev many : ℕ → List PlacedLine → ℕ
many p es = length (lines_from p es)

many_front : (b : Bool) (e : PlacedLine) (es : List PlacedLine) → length (lines_of (cond b (e ∷ es) es)) ≡ cond b (suc (length (lines_of es))) (length (lines_of es))
many_front true e es = refl
many_front false e es = refl

here : (e : PlacedLine) (es : List PlacedLine) (p : ℕ) → (e.place == p) ≡ true → many p (e ∷ es) ≡ suc (many p es)
here e es p is = many_front (e.place == p) e (filter (λ f. f.place == p) es) ∙ ap (λ b. cond b (suc (many p es)) (many p es)) is

elsewhere : (e : PlacedLine) (es : List PlacedLine) (p : ℕ) → (e.place == p) ≡ false → many p (e ∷ es) ≡ many p es
elsewhere e es p is = many_front (e.place == p) e (filter (λ f. f.place == p) es) ∙ ap (λ b. cond b (suc (many p es)) (many p es)) is

-- the first n of these numbers, added up
abbrev up_to : (ℕ → ℕ) → ℕ → ℕ
up_to f zero = 0
up_to f (suc n) = up_to f n + f n

same_up_to : (f g : ℕ → ℕ) (n : ℕ) → ((p : ℕ) → f p ≡ g p) → up_to f n ≡ up_to g n
same_up_to f g zero each = refl
same_up_to f g (suc n) each = omega (arith, same_up_to f g n each, each n)

none_up_to : (n : ℕ) → up_to (λ p. 0) n ≡ 0
none_up_to zero = refl
none_up_to (suc n) = omega (arith, none_up_to n)

from_front : (f : ℕ → ℕ) (n : ℕ) → up_to f (suc n) ≡ f 0 + up_to (λ p. f (suc p)) n
from_front f zero = omega arith
from_front f (suc n) = omega (arith, from_front f n)

all_sent : (sent : List (List (List ℕ))) → up_to (λ p. length (slice_index_or sent p [])) (length sent) ≡ sum_by (λ s. length s) sent
all_sent [] = refl
all_sent (s ∷ sent) =
    omega (arith, from_front (λ p. length (slice_index_or (s ∷ sent) p [])) (length sent), all_sent sent, sum_by-cons (λ (t : List (List ℕ)). length t) s sent)

-- one entry more counts at its place, and nowhere else
past : (e : PlacedLine) (es : List PlacedLine) (n : ℕ) → n ≤ e.place → up_to (λ p. many p (e ∷ es)) n ≡ up_to (λ p. many p es) n
past e es zero le = refl
past e es (suc n) le =
    let not : (e.place == n) ≡ false = grind (arith, nat_tests, le) in
    omega (arith, past e es n (omega (arith, le)), elsewhere e es n not)

one_of : (b : Bool) (e : PlacedLine) (es : List PlacedLine) (n : ℕ) → (e.place == n) ≡ b → (e.place < n → up_to (λ p. many p (e ∷ es)) n ≡ suc (up_to (λ p. many p es) n))
    → e.place < suc n → up_to (λ p. many p (e ∷ es)) (suc n) ≡ suc (up_to (λ p. many p es) (suc n))
one_of true e es n is less lt =
    let same : e.place ≡ n = grind (arith, nat_tests, is) in
    omega (arith, past e es n (omega (arith, same)), here e es n is)
one_of false e es n is less lt =
    let other : e.place ≢ n = λ same. grind (arith, nat_tests, is, same) in
    let below : e.place < n = grind (arith, other, lt) in
    omega (arith, less below, elsewhere e es n is)

one : (e : PlacedLine) (es : List PlacedLine) (n : ℕ) → e.place < n → up_to (λ p. many p (e ∷ es)) n ≡ suc (up_to (λ p. many p es) n)
one e es zero lt = absurd (omega (arith, lt))
one e es (suc n) lt = one_of (e.place == n) e es n refl (one e es n) lt

-- the first entry has one of these places, and the others too
fewer : (b : Bool) (e : PlacedLine) (es : List PlacedLine) (p : ℕ) → (e.place == p) ≡ b → many p (e ∷ es) ≡ 0 → many p es ≡ 0
fewer true e es p is none = absurd (omega (arith, here e es p is, none))
fewer false e es p is none = sym (elsewhere e es p is) ∙ none

pub others : (n : ℕ) (e : PlacedLine) (es : List PlacedLine) → ((p : ℕ) → n ≤ p → many p (e ∷ es) ≡ 0) → (p : ℕ) → n ≤ p → many p es ≡ 0
others n e es none p le = fewer (e.place == p) e es p refl (none p le)

pub has_place : (n : ℕ) (e : PlacedLine) (es : List PlacedLine) → ((p : ℕ) → n ≤ p → many p (e ∷ es) ≡ 0) → n ≤ e.place → ⊥
has_place n e es none le =
    let is : (e.place == e.place) ≡ true = grind (arith, nat_tests) in
    omega (arith, here e es e.place is, none e.place le)

counted : (es : List PlacedLine) (n : ℕ) → ((p : ℕ) → n ≤ p → many p es ≡ 0) → length es ≡ up_to (λ p. many p es) n
counted [] n none = sym (none_up_to n)
counted (e ∷ es) n none =
    let within : e.place < n = grind (arith, has_place n e es none) in
    omega (arith, counted es n (others n e es none), one e es n within)

pub past_all : (sent : List (List (List ℕ))) (p : ℕ) → length sent ≤ p → length (slice_index_or sent p []) ≡ 0
past_all [] p le = refl
past_all (s ∷ sent) zero le = absurd (omega (arith, le))
past_all (s ∷ sent) (suc p) le = past_all sent p (omega (arith, le))

pub all_counted : (sent : List (List (List ℕ))) (lines : List (List ℕ)) → IsInterleaving sent lines → length lines ≡ sum_by (λ s. length s) sent
all_counted sent lines whole =
    let es = whole.entries in
    sym (ap (λ (l : List (List ℕ)). length l) whole.all) ∙ length-map es (λ e. e.line)
    ∙ counted es (length sent) (λ p le. ap (λ (l : List (List ℕ)). length l) (whole.each p) ∙ past_all sent p le)
    ∙ same_up_to (λ p. many p es) (λ p. length (slice_index_or sent p [])) (length sent) (λ p. ap (λ (l : List (List ℕ)). length l) (whole.each p))
    ∙ all_sent sent

-- all entries have the place 0
front : (b : Bool) (e : PlacedLine) (es : List PlacedLine) → b ≡ true → lines_of (cond b (e ∷ es) es) ≡ e.line ∷ lines_of es
front true e es is = refl
front false e es is = cc

kept : (es : List PlacedLine) → ((p : ℕ) → 1 ≤ p → many p es ≡ 0) → lines_from 0 es ≡ lines_of es
kept [] none = refl
kept (e ∷ es) none =
    let at : e.place < 1 = grind (arith, has_place 1 e es none) in
    let is : (e.place == 0) ≡ true = grind (arith, nat_tests, at) in
    front (e.place == 0) e (filter (λ f. f.place == 0) es) is ∙ ap (λ ls. e.line ∷ ls) (kept es (others 1 e es none))

pub one_sender : (sent lines : List (List ℕ)) → IsInterleaving (sent ∷ []) lines → lines ≡ sent
one_sender sent lines whole =
    sym whole.all ∙ sym (kept whole.entries (λ p le. ap (λ (l : List (List ℕ)). length l) (whole.each p) ∙ past_all (sent ∷ []) p le)) ∙ whole.each 0

from_one : (b : Bool) (e : PlacedLine) (es : List PlacedLine) (p : ℕ) → (e.place == p) ≡ b → many p es ≤ length es → many p (e ∷ es) ≤ length (e ∷ es)
from_one true e es p is le = omega (arith, here e es p is, le)
from_one false e es p is le = omega (arith, elsewhere e es p is, le)

few_from : (p : ℕ) (es : List PlacedLine) → many p es ≤ length es
few_from p [] = omega arith
few_from p (e ∷ es) = from_one (e.place == p) e es p refl (few_from p es)

-- no sender has sent more lines than there are
pub few_of : (sent : List (List (List ℕ))) (lines : List (List ℕ)) (place : ℕ) → IsInterleaving sent lines → length (slice_index_or sent place []) ≤ length lines
few_of sent lines place whole =
    let es = whole.entries in
    omega (arith, few_from place es, ap (λ (l : List (List ℕ)). length l) (whole.each place), ap (λ (l : List (List ℕ)). length l) whole.all, length-map es (λ e. e.line))
