-- Writes that a writer of lines was asked for.
use Rattle.std.specs.Prelude.{◌≡◌, ℕ, List, [], ◌∷◌, ◌++◌, Bool, nat_lt, length, drop, Option, None}
use Rattle.std.specs.Option.{option_map, option_or}
use Rattle.std.specs.declared.io.ErrorKind.{ErrorKind}
use Rattle.std.specs.declared.io.ErrorKind.TheVariants.{Interrupted, Other}
use Rattle.appender_worker.specs.Parts.{Part}

-- the bytes that the writer was to take, how many of the first of them it took, and the kind of its fault
pub record WriteTry : Type 0 where
  pub bytes : List ℕ
  pub taken : ℕ
  pub fault : Option ErrorKind

abbrev pub write_try : List ℕ → ℕ → Option ErrorKind → WriteTry
write_try bytes taken fault = record { bytes = bytes; taken = taken; fault = fault }

-- whether not all of them were taken
abbrev pub is_failed : WriteTry → Bool
is_failed t = nat_lt t.taken (length t.bytes)

-- the kind of error that is reported for a fault: `Other` for an interruption, so that no caller writes the line again
abbrev pub reported_kind : ErrorKind → ErrorKind
reported_kind Interrupted = Other
reported_kind kind = kind

-- the kind that is reported for the first fault of these writes
abbrev pub first_fault : List WriteTry → Option ErrorKind
first_fault [] = None
first_fault (t ∷ ts) = option_or (option_map reported_kind t.fault) (first_fault ts)

-- the writer was asked for these writes, one after another, and for no other
abbrev pub TriesWrites : {W : Type 0} → (W → List ℕ → ℕ → Option ErrorKind → W → Type 0) → W → List WriteTry → W → Type 0
TriesWrites {W} tries old [] new = old ≡ new
TriesWrites {W} tries old (t ∷ ts) new = (mid : W) × tries old t.bytes t.taken t.fault mid × TriesWrites tries mid ts new

-- the write failed within this line: what was not taken begins with the rest of the line
abbrev pub FailsWithin : WriteTry → Part → Type 0
FailsWithin t p = (more : List ℕ) × (drop t.taken t.bytes ≡ drop p.written p.line ++ more)

-- each of these writes failed within its own line, and there are as many of them as lines
abbrev pub FailWithin : List WriteTry → List Part → Type 0
FailWithin [] [] = Unit {0}
FailWithin (t ∷ ts) (p ∷ ps) = FailsWithin t p × FailWithin ts ps
FailWithin ts ps = ⊥
