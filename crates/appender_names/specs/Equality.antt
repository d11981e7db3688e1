-- Equality of rotations.
use Rattle.std.specs.Prelude.{Bool}
use Rattle.appender_names.specs.contracts.rotation.RotationPartialEq.TheImpl as derived
use Rattle.appender_names.specs.declared.rotation.Rotation.{Rotation}

-- the result of `==`
abbrev pub rotation_eq : Rotation → Rotation → Bool
rotation_eq = (derived.ghosts).eq
