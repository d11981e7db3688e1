-- A text that is copied line by line.
use Rattle.std.proofs.Common.{◌≡◌, ◌≢◌, ◌==◌, ◌<◌, ℕ, ◌+◌, suc, List, [], ◌∷◌, ◌++◌, Bool, true, false, not, cond, if◌then◌else◌, Option, refl, ap, sym, subst, arith, length, take, take_all, count_by}
use Rattle.std.proofs.lemmas.Bool.Decides.{nat_tests}
use Rattle.std.specs.Io.BufRead.{take_through, drop_through}
use Rattle.std.specs.Io.KnownBytes.{Appends}
use Rattle.tracing_appender.specs.Parts.{part, written_of, is_whole, is_cut}
use Rattle.callers.specs.Supervisor.{HasLines}

if_joined : (b : Bool) (x : ℕ) (xs front back : List ℕ) → front ++ back ≡ xs
    → (if b then x ∷ [] else x ∷ front) ++ (if b then xs else back) ≡ x ∷ xs
if_joined true x xs front back h = refl
if_joined false x xs front back h = ap (λ t. x ∷ t) h

-- a line, and what is left after it
pub joined : (byte : ℕ) (xs : List ℕ) → take_through byte xs ++ drop_through byte xs ≡ xs
joined byte [] = refl
joined byte (x ∷ xs) = if_joined (x == byte) x xs (take_through byte xs) (drop_through byte xs) (joined byte xs)

pub as_many : (m n : ℕ) (text : List ℕ) → m ≡ n → HasLines m text → HasLines n text
as_many m n text e h = subst (λ k. HasLines k text) e h

pub first : (n : ℕ) (text : List ℕ) → HasLines n text → HasLines (0 + n) text
first n text h = as_many n (0 + n) text (omega arith) h

-- one line was read, and this number of lines is left
pub next : (lines n : ℕ) (rest text : List ℕ) → ((k : ℕ) → HasLines k rest → HasLines (lines + k) text)
    → take_through 10 rest ≢ [] → HasLines n (drop_through 10 rest) → HasLines (lines + 1 + n) text
next lines n rest text counted some h =
    let more : HasLines (suc n) rest = (λ none. some (ap (take_through 10) none), h) in
    as_many (lines + suc n) (lines + 1 + n) text (omega arith) (counted (suc n) more)

-- no line is left
pub last : (lines : ℕ) (rest text : List ℕ) → ((k : ℕ) → HasLines k rest → HasLines (lines + k) text) → rest ≡ []
    → HasLines lines text
last lines rest text counted none = as_many (lines + 0) lines text (omega arith) (counted 0 none)

-- the line was written whole
pub takes_whole : (line : List ℕ) (old new : Option (List ℕ)) → Appends old new line
    → (taken : ℕ) × (0 ≡ count_by is_cut (part line taken ∷ [])) × Appends old new (written_of (part line taken))
takes_whole line old new bytes =
    let whole : is_whole (part line (length line)) ≡ true = grind (arith, nat_tests) in
    (length line, sym (ap (λ b. 0 + cond (not b) 1 0) whole), subst (Appends old new) (sym (take_all (length line) line (omega arith))) bytes)

-- a beginning of it was
pub takes_part : (line : List ℕ) (n : ℕ) (old new : Option (List ℕ)) → n < length line → Appends old new (take n line)
    → (taken : ℕ) × (1 ≡ count_by is_cut (part line taken ∷ [])) × Appends old new (written_of (part line taken))
takes_part line n old new few bytes =
    let cut : is_whole (part line n) ≡ false = grind (arith, nat_tests, few) in
    (n, sym (ap (λ b. 0 + cond (not b) 1 0) cut), bytes)
