-- Texts and numbers in the form that they have in one line.
use Rattle.std.specs.Prelude.{◌≡◌, ◌≢◌, ◌↔◌, ◌⊎◌, ◌<◌, ◌≤◌, ◌^◌, ◌<ℤ◌, ℕ, ℤ, pos, FitsSigned, List, [], ◌∷◌, ◌++◌, ◌==◌, Option, None, Some, if◌then◌else◌, slice_index, codes}
use Rattle.std.specs.Int.{w64, w128}
use Rattle.std.specs.List.{flat_map}
use Rattle.std.specs.Str.Parse.{IsNumeral, digits_value, signed_digits_value, without_leading_sign}

-- a byte in one line: a newline is a backslash and an n, a backslash two of them, and another byte itself
abbrev pub script_escape : ℕ → List ℕ
script_escape b = if b == 10 then 92 ∷ 110 ∷ [] else (if b == 92 then 92 ∷ 92 ∷ [] else b ∷ [])

-- the bytes of a text in one line
abbrev pub script_escapes : List ℕ → List ℕ
script_escapes = flat_map script_escape

-- the text begins with the byte, and the rest follows; a newline may also be unescaped
abbrev pub BeginsWithByte : ℕ → List ℕ → List ℕ → Type 0
BeginsWithByte b text rest = (text ≡ script_escape b ++ rest) ⊎ ((b ≡ 10) × (text ≡ 10 ∷ rest))

-- the text has the bytes of the plain one, each escaped or as it is
abbrev pub IsEscaped : List ℕ → List ℕ → Type 0
IsEscaped [] text = text ≡ []
IsEscaped (b ∷ plain) text = (rest : List ℕ) × BeginsWithByte b text rest × IsEscaped plain rest

-- no plain text has this escaped form
abbrev pub IsNoEscapedText : List ℕ → Type 0
IsNoEscapedText text = (plain : List ℕ) → ¬ (IsEscaped plain text)

-- A decimal number: one digit or more. Only negative numbers have a sign.
pub record IsSigned (word : List ℕ) (n : ℤ) : Type 0 where
  pub digits : IsNumeral 10 (without_leading_sign word)
  pub value : n ≡ signed_digits_value 10 word
  pub minus : (n <ℤ pos 0) ↔ (slice_index word 0 ≡ 45)
  pub no_plus : slice_index word 0 ≢ 43

-- A decimal number: one digit or more, and nothing else.
pub record IsUnsigned (word : List ℕ) (n : ℕ) : Type 0 where
  pub digits : IsNumeral 10 word
  pub value : n ≡ digits_value 10 word

-- a moment, in seconds
pub record IsSeconds (word : List ℕ) (m : ℤ) : Type 0 where
  pub fits : FitsSigned w64 m
  pub number : IsSigned word m

-- a creation moment, in nanoseconds, or none
abbrev pub IsCreationMoment : List ℕ → Option ℤ → Type 0
IsCreationMoment word None = word ≡ codes "none"
IsCreationMoment word (Some m) = FitsSigned w128 m × IsSigned word m

-- a count
pub record IsCount (word : List ℕ) (n : ℕ) : Type 0 where
  pub fits : n < 2 ^ 64
  pub number : IsUnsigned word n

-- the number of a call, from 1 on
pub record IsCallNumber (word : List ℕ) (n : ℕ) : Type 0 where
  pub from_one : 1 ≤ n
  pub count : IsCount word n
