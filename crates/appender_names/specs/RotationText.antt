-- Rotations as words.
use Rattle.std.specs.Prelude.{◌≡◌, ◌≢◌, ℕ, List, Result, Ok, Err, codes}
use Rattle.appender_names.specs.declared.rotation.Rotation.{Rotation}
use Rattle.appender_names.specs.declared.rotation.RotationKind.{RotationKind}
use Rattle.appender_names.specs.declared.rotation.RotationKind.TheVariants.{Minutely, Hourly, Daily, Weekly, Never}
use Rattle.appender_names.specs.Rotation.{rotation_kind}

abbrev pub kind_word : RotationKind → List ℕ
kind_word Minutely = codes "minutely"
kind_word Hourly = codes "hourly"
kind_word Daily = codes "daily"
kind_word Weekly = codes "weekly"
kind_word Never = codes "never"

-- the word for a rotation
abbrev pub rotation_word : Rotation → List ℕ
rotation_word r = kind_word (rotation_kind r)

-- the text is the word for no rotation
abbrev pub IsNoRotation : List ℕ → Type 0
IsNoRotation text = (r : Rotation) → text ≢ rotation_word r

-- the text is read as the rotation that it is the word for, and else is an error
abbrev pub ParsesRotation : {E : Type 0} → List ℕ → Result Rotation E → Type 0
ParsesRotation text (Ok r) = text ≡ rotation_word r
ParsesRotation text (Err error) = IsNoRotation text
