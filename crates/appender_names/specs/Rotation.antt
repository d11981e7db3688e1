-- Moments, and the boundaries at which the files of a rotation begin. A moment is in whole seconds of UTC since 1970-01-01 00:00:00, with days of 86400 seconds.
use Rattle.std.specs.Prelude.{◌≡◌, ◌≢◌, ◌↔◌, ℕ, ℤ, pos, negsuc, ◌+ℤ◌, ◌-ℤ◌, ◌≤ℤ◌, ◌<ℤ◌, Option, None, Some, Bool, true, false, not, ◌&&◌, int_lt}
use Rattle.std.specs.Int.{int_rem_euclid}
use Rattle.std.specs.Option.{option_map}
use Rattle.appender_names.specs.declared.rotation.RotationKind.{RotationKind}
use Rattle.appender_names.specs.declared.rotation.RotationKind.TheVariants.{Minutely, Hourly, Daily, Weekly, Never}
use Rattle.appender_names.specs.declared.rotation.Rotation.{Rotation}

-- the range of moments: from 0001-01-01 00:00:00 to 9998-12-31 23:59:59
abbrev pub IsMoment : ℤ → Type 0
IsMoment m = (negsuc 62135596799 ≤ℤ m) × (m ≤ℤ pos 253370764799)

-- a moment or the start of its period: the first week starts a day before the range
abbrev pub IsDatable : ℤ → Type 0
IsDatable s = (negsuc 62135683199 ≤ℤ s) × (s ≤ℤ pos 253370764799)

-- the same range as a test
abbrev pub is_moment : ℤ → Bool
is_moment m = not (int_lt m (negsuc 62135596799)) && not (int_lt (pos 253370764799) m)

-- the step from one boundary to the next: a minute, an hour, a day or a week; NEVER has none
abbrev pub step_of : RotationKind → ℕ
step_of Minutely = 60
step_of Hourly = 3600
step_of Daily = 86400
step_of Weekly = 604800
step_of Never = 0

-- the anchor, one boundary: weeks begin on Sunday, as 1970-01-04 is, and the others at second 0
abbrev pub anchor_of : RotationKind → ℕ
anchor_of Weekly = 259200
anchor_of k = 0

-- the rotation of a kind, and the kind of a rotation
abbrev pub rotation_of : RotationKind → Rotation
rotation_of kind = record { kind = kind }

abbrev pub rotation_kind : Rotation → RotationKind
rotation_kind r = r.kind

-- no boundaries: one file for all time
abbrev pub IsNever : Rotation → Type 0
IsNever r = r.kind ≡ Never

-- a boundary: b mod step = anchor mod step
abbrev pub IsBoundary : Rotation → ℤ → Type 0
IsBoundary r b = (r.kind ≢ Never) × (int_rem_euclid b (pos (step_of r.kind)) ≡ int_rem_euclid (pos (anchor_of r.kind)) (pos (step_of r.kind)))

-- a rotation of this kind, whose boundaries are the seconds that leave this rest when they are divided by the step
pub record IsRotation (r : Rotation) (kind : RotationKind) (step rest : ℕ) : Type 0 where
  pub kind_is : r.kind ≡ kind
  pub boundaries : (b : ℤ) → IsBoundary r b ↔ (int_rem_euclid b (pos step) ≡ pos rest)

-- the start of the period of m: the greatest boundary that isn't after m
pub record IsGreatestBoundary (r : Rotation) (m b : ℤ) : Type 0 where
  pub boundary : IsBoundary r b
  pub not_after : b ≤ℤ m
  pub greatest : (c : ℤ) → IsBoundary r c → c ≤ℤ m → c ≤ℤ b

-- the start of the next period: the least boundary after m
pub record IsNextBoundary (r : Rotation) (m b : ℤ) : Type 0 where
  pub boundary : IsBoundary r b
  pub after : m <ℤ b
  pub least : (c : ℤ) → IsBoundary r c → m <ℤ c → b ≤ℤ c

-- the start of the period of m as a number, m less its distance after the boundary; under NEVER the whole range is one period, which has no start
abbrev pub period_of_kind : RotationKind → ℤ → Option ℤ
period_of_kind Never m = None
period_of_kind k m = Some (m -ℤ int_rem_euclid (m -ℤ pos (anchor_of k)) (pos (step_of k)))

abbrev pub period_of : Rotation → ℤ → Option ℤ
period_of r m = period_of_kind r.kind m

-- one start, or none
abbrev pub is_same_start : Option ℤ → Option ℤ → Bool
is_same_start None None = true
is_same_start None (Some b) = false
is_same_start (Some a) None = false
is_same_start (Some a) (Some b) = not (int_lt a b) && not (int_lt b a)

-- both are in one period
abbrev pub is_in_period : Rotation → ℤ → ℤ → Bool
is_in_period r m s = is_same_start (period_of r s) (period_of r m)

-- the start of the next period as a number, a step later
abbrev pub next_of : Rotation → ℤ → Option ℤ
next_of r m = option_map (λ p. p +ℤ pos (step_of r.kind)) (period_of r m)

-- a start that is a moment of the range starts its own period
abbrev pub StartsOwnPeriod : Rotation → Type 0
StartsOwnPeriod r = (m p : ℤ) → IsMoment m → IsMoment p → period_of r m ≡ Some p → period_of r p ≡ Some p

-- a period begins at the greatest boundary that isn't after its moments
abbrev pub PeriodsBeginAtBoundaries : Rotation → Type 0
PeriodsBeginAtBoundaries r = (m b : ℤ) → IsMoment m → period_of r m ≡ Some b → IsGreatestBoundary r m b

-- and ends a step later, at the least boundary after them
abbrev pub PeriodsEndAtBoundaries : Rotation → Type 0
PeriodsEndAtBoundaries r = (m b : ℤ) → IsMoment m → period_of r m ≡ Some b → IsNextBoundary r m (b +ℤ pos (step_of r.kind))
