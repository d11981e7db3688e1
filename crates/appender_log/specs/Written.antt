-- What a writer gets of a record.
use Rattle.std.specs.Prelude.{◌≡◌, ◌⊎◌, ℕ, ◌<◌, ℤ, Bool, true, false, List, [], ◌++◌, length, take, nat_lt, codes, Option, IfSome}
use Rattle.std.specs.Io.KnownBytes.{Appends, Keeps}
use Rattle.appender_log.specs.OneLine.{one_line}
use Rattle.appender_log.specs.Time.{time_text}

-- a text in one line, and a newline; the text is this one, if it is known
abbrev pub IsRecordLine : Option (List ℕ) → List ℕ → Type 0
IsRecordLine known line = (text : List ℕ) × IfSome known (λ t. text ≡ t) × (line ≡ one_line text ++ codes "\n")

-- known bytes grow by a whole line that is so
abbrev pub AppendsLine : (List ℕ → Type 0) → Option (List ℕ) → Option (List ℕ) → Type 0
AppendsLine Is old new = (line : List ℕ) × Is line × Appends old new line

-- known bytes stay as they were, or grow by the beginning of such a line
abbrev pub AppendsLess : (List ℕ → Type 0) → Option (List ℕ) → Option (List ℕ) → Type 0
AppendsLess Is old new = Keeps old new ⊎ ((line : List ℕ) × Is line × (n : ℕ) × (n < length line) × Appends old new (take n line))

-- a line after its time, in nanoseconds since the epoch
abbrev pub line_at : ℤ → List ℕ → List ℕ
line_at nanos line = time_text nanos ++ codes " " ++ line

-- the same with the time before the line
abbrev pub IsLineAt : ℤ → Option (List ℕ) → List ℕ → Type 0
IsLineAt nanos known line = (rest : List ℕ) × IsRecordLine known rest × (line ≡ line_at nanos rest)

-- what ends a line that was cut short: nothing if none was
abbrev pub ending : Bool → List ℕ
ending true = codes "\n"
ending false = []

-- known bytes stay as they were, or grow by the ending of the line before and less than this line; this one is cut
-- short if some of its bytes were written
abbrev pub WritesPart : List ℕ → Bool → Bool → Option (List ℕ) → Option (List ℕ) → Type 0
WritesPart line before after old new =
    (Keeps old new × (after ≡ before))
    ⊎ ((n : ℕ) × (n < length line) × Appends old new (ending before ++ take n line) × (after ≡ nat_lt 0 n))

-- the bytes of the longest time, and of the space after it
abbrev pub room : ℕ
room = 28
