-- What is sent and echoed of the lines of an input.
use Rattle.std.specs.Prelude.{◌≡◌, ◌==◌, [], ℕ, ◌+◌, ◌-◌, ◌^◌, ◌<◌, min, max, not, List, ◌∷◌, ◌++◌, Bool, true, false, Option, Some}
use Rattle.std.specs.Io.KnownBytes.{Appends}
use Rattle.jiff_core.specs.declared.civil.datetime.DateTime.{DateTime}
use Rattle.jiff_fmt.specs.Text.{datetime_text, zulu_text}
use Rattle.program_io.specs.Options.{has_option}
use Rattle.program_io.specs.Report.{AppendsBeginning}
use Rattle.program_io.specs.declared.options.Options.{Options}
use Rattle.program_io.specs.declared.options.OptionName.TheVariants.{Timestamps, Echo}
use Rattle.appender_non_blocking.specs.SentLines.{SentLines}

-- What lines are sent to, and an output to which each line is also written until that fails.
pub record Echoing (Q O : Type 0) : Type 0 where
  pub sink : Q
  pub output : O
  pub echo : Bool
  -- the number of lines that were not echoed whole
  pub unechoed : ℕ

-- The same for the pieces of an input.
pub record Feeding (Q O : Type 0) : Type 0 where
  pub echoing : Echoing Q O
  -- whether each line begins with a time
  pub timestamps : Bool
  -- whether the next piece goes on with a line
  pub within : Bool
  -- the bytes of all pieces
  pub given : List ℕ

-- a time of UTC in microseconds (RFC 3339), and a space
abbrev pub stamp_text : DateTime → List ℕ
stamp_text at = datetime_text false 84 (Some 6) at ++ zulu_text false ++ (32 ∷ [])

-- The text is the piece with a time before each line that begins in it. `begins` is whether its first byte begins one.
abbrev pub IsTimed : Bool → List ℕ → List ℕ → Type 0
IsTimed begins [] text = text ≡ []
IsTimed false (x ∷ xs) text = (rest : List ℕ) × (text ≡ x ∷ rest) × IsTimed (x == 10) xs rest
IsTimed true (x ∷ xs) text = (at : DateTime) × (rest : List ℕ) × (text ≡ stamp_text at ++ (x ∷ rest)) × IsTimed (x == 10) xs rest

-- the same if times are asked for, and else the piece
abbrev pub IsTextOf : Bool → Bool → List ℕ → List ℕ → Type 0
IsTextOf false begins piece text = text ≡ piece
IsTextOf true begins piece text = IsTimed begins piece text

-- whether the byte after these begins a line
abbrev pub begins_after : Bool → List ℕ → Bool
begins_after begins [] = begins
begins_after begins (x ∷ xs) = begins_after (x == 10) xs

-- how many lines begin in the bytes
abbrev pub line_count : Bool → List ℕ → ℕ
line_count begins [] = 0
line_count false (x ∷ xs) = line_count (x == 10) xs
line_count true (x ∷ xs) = 1 + line_count (x == 10) xs

-- If lines are echoed, the text was added to the output, or a beginning of it by the first write that failed; nothing is added later.
pub record Echoes {Q O : Type 0} (contents : O → Option (List ℕ)) (text : List ℕ) (old new : Echoing Q O) : Type 0 where
  pub off : old.echo ≡ false → (new.output ≡ old.output) × (new.unechoed ≡ old.unechoed)
  pub whole : old.echo ≡ true → new.unechoed ≡ 0 → Appends (contents old.output) (contents new.output) text
  pub beginning : old.echo ≡ true → old.unechoed ≡ 0 → AppendsBeginning (contents old.output) (contents new.output) text
  pub ended : 0 < old.unechoed → new.output ≡ old.output
  pub lasts : new.unechoed ≡ 0 → old.unechoed ≡ 0
  pub counted : old.echo ≡ true → 0 < new.unechoed → new.unechoed ≡ min (old.unechoed + max 1 (line_count true text)) (2 ^ 64 - 1)

-- The text was sent, and then echoed.
pub record Sends {Q O : Type 0} (sent : Q → List ℕ) (echoed : O → Option (List ℕ)) (text : List ℕ) (old new : Echoing Q O) : Type 0 where
  pub sink : sent new.sink ≡ sent old.sink ++ text
  pub output : Echoes echoed text old new

-- These lines are the text, with times if they are asked for. If an echo is, an output that held `before` holds them after it.
pub record FeedsLines (options : Options) (before after : Option (List ℕ)) (text lines : List ℕ) : Type 0 where
  pub timed : IsTextOf (has_option Timestamps options) true text lines
  pub echoed : has_option Echo options ≡ true → Appends before after lines

-- By these options all pieces were sent and, unless a line was not, echoed: to a sink that had been sent `first`, and an output that
-- held `before`.
pub record IsFed {Q O : Type 0} (sent : Q → List ℕ) (contents : O → Option (List ℕ)) (first : List ℕ) (before : Option (List ℕ)) (options : Options) (f : Feeding Q O) : Type 0 where
  pub timestamps : f.timestamps ≡ has_option Timestamps options
  pub echo : f.echoing.echo ≡ has_option Echo options
  pub within : f.within ≡ not (begins_after true f.given)
  pub lines : List ℕ
  pub timed : IsTextOf f.timestamps true f.given lines
  pub sent_is : sent f.echoing.sink ≡ first ++ lines
  pub echoed : f.echoing.echo ≡ true → f.echoing.unechoed ≡ 0 → Appends before (contents f.echoing.output) lines

-- what a sender sent, the lines that it was offered, and how many of them were dropped before that
pub record Offering : Type 0 where
  pub sent : SentLines
  pub offered : List (List ℕ)
  pub dropped : ℕ
