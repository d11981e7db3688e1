-- A text in one line.
use Rattle.std.specs.Prelude.{ℕ, ◌+◌, ◌/◌, ◌%◌, Bool, ◌||◌, nat_lt, List, [], ◌∷◌, ◌==◌, if◌then◌else◌}
use Rattle.std.specs.List.{flat_map}

-- a digit of a hexadecimal number, in lower case
abbrev pub hex_digit : ℕ → ℕ
hex_digit d = if nat_lt d 10 then 48 + d else 87 + d

-- an ASCII control character
abbrev pub is_control : ℕ → Bool
is_control b = nat_lt b 32 || (b == 127)

-- a byte in one line: a newline is `\n`, a carriage return `\r`, another control character `\x` and two hexadecimal
-- digits, and another byte itself
abbrev pub record_escape : ℕ → List ℕ
record_escape b = if b == 10 then 92 ∷ 110 ∷ [] else
    (if b == 13 then 92 ∷ 114 ∷ [] else
    (if is_control b then 92 ∷ 120 ∷ hex_digit (b / 16) ∷ hex_digit (b % 16) ∷ [] else b ∷ []))

-- the bytes of a text in one line
abbrev pub one_line : List ℕ → List ℕ
one_line = flat_map record_escape
