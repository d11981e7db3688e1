-- The boundaries of a rotation, and the two between which a moment lies.
use Rattle.std.proofs.Common.{◌≡◌, ◌≢◌, ℕ, ◌+◌, ◌-◌, ◌*◌, ◌/◌, ◌%◌, ◌<◌, ◌≤◌, ℤ, pos, negsuc, ◌+ℤ◌, ◌-ℤ◌, ◌<ℤ◌, ◌≤ℤ◌, Option, Some, arith, refl, ap, sym, ◌∙◌, lit≤, lit<, None, subst, Bool, true, false, inl, inr}
use Rattle.std.specs.Prelude.{unsigned_abs, int_lt, not, ◌&&◌}
use Rattle.std.proofs.lemmas.Bool.{cases_lt}
use Rattle.std.specs.Int.{int_rem_euclid}
use Rattle.std.specs.Option.{option_map}
use Rattle.std.proofs.Math.Nat.{dvd-sub, dvd-mul_left, mul-le-mul_right, mul-add-mod_self_right, suc-mul, add-mod_right}
use Rattle.std.proofs.lemmas.Nat.{div-add-mod', le-div, div_below, mod_below}
use Rattle.std.proofs.lemmas.Nat.Gcd.{mod-eq-zero_of_dvd}
use Rattle.std.proofs.lemmas.Int.{ints, int_rem_euclid_is}
use Rattle.appender_names.specs.Rotation.{IsMoment, is_same_start, is_in_period, period_of_kind, period_of, next_of, step_of, anchor_of, IsGreatestBoundary, IsNextBoundary}
use Rattle.appender_names.specs.declared.rotation.RotationKind.{RotationKind}
use Rattle.appender_names.specs.declared.rotation.RotationKind.TheVariants.{Minutely, Hourly, Daily, Weekly, Never}
use Rattle.appender_names.specs.declared.rotation.Rotation.{Rotation}

-- A step s and its anchor a, to which whole steps lead from -62135683200, the Sunday before the first moment. Below, n and y count seconds from that Sunday.
pub record IsStep (s a : ℕ) : Type 0 where
  pub some : 0 < s
  pub week : s ≤ 604800
  pub count : ℕ
  pub meets : count * s ≡ 62135683200 + a

pub step_is : (k : RotationKind) → k ≢ Never → IsStep (step_of k) (anchor_of k)
step_is Minutely h = record { some = lit< tt; week = lit≤ tt; count = 1035594720; meets = refl }
step_is Hourly h = record { some = lit< tt; week = lit≤ tt; count = 17259912; meets = refl }
step_is Daily h = record { some = lit< tt; week = lit≤ tt; count = 719163; meets = refl }
step_is Weekly h = record { some = lit< tt; week = lit≤ tt; count = 102738; meets = refl }
step_is Never h = absurd (h refl)

pub since : (m : ℤ) → IsMoment m → (n : ℕ) × (m +ℤ pos 62135683200 ≡ pos n)
since m h = (unsigned_abs (m +ℤ pos 62135683200), omega (arith, ints))

-- the whole steps up to n
abbrev pub floor : ℕ → ℕ → ℕ
floor s n = n / s * s

pub floor_whole : (s n : ℕ) → floor s n % s ≡ 0
floor_whole s n = mod-eq-zero_of_dvd s (dvd-mul_left s (n / s))

floor_le : (s n : ℕ) → floor s n ≤ n
floor_le s n = omega (arith, div-add-mod' n s)

floor_near : (s n : ℕ) → 0 < s → n < floor s n + s
floor_near s n h = omega (arith, div-add-mod' n s, mod_below n s h)

pub whole_is : (s y : ℕ) → y % s ≡ 0 → floor s y ≡ y
whole_is s y w = omega (arith, div-add-mod' y s)

whole_below : (s y n : ℕ) → 0 < s → y % s ≡ 0 → y ≤ n → y ≤ floor s n
whole_below s y n h w le =
    let q : y / s ≤ n / s = le-div (y / s) n s h (omega (arith, whole_is s y w)) in
    omega (arith, whole_is s y w, mul-le-mul_right s q)

whole_above : (s y n : ℕ) → 0 < s → y % s ≡ 0 → n < y → floor s n + s ≤ y
whole_above s y n h w lt =
    let q : n / s < y / s = div_below n s (y / s) h (omega (arith, whole_is s y w)) in
    omega (arith, whole_is s y w, mul-le-mul_right s q, suc-mul (n / s) s)

-- a second c is a boundary exactly if it lies whole steps after that Sunday
rest_of : (s a : ℕ) (c : ℤ) (y : ℕ) → IsStep s a → c +ℤ pos 62135683200 ≡ pos y → int_rem_euclid c (pos s) ≡ pos ((y + a) % s)
rest_of s a c y is at = int_rem_euclid_is c (pos s) s is.count (y + a) is.some refl (rw is.meets (omega (arith, ints)))

from_boundary : (s a : ℕ) (c : ℤ) (y : ℕ) → IsStep s a → c +ℤ pos 62135683200 ≡ pos y → int_rem_euclid c (pos s) ≡ int_rem_euclid (pos a) (pos s) → y % s ≡ 0
from_boundary s a c y is at e =
    let rem : pos ((y + a) % s) ≡ pos (a % s) = sym (rest_of s a c y is at) ∙ e in
    let same : (y + a) % s ≡ a % s = cc in
    let between : floor s (y + a) - floor s a ≡ y = omega (arith, div-add-mod' (y + a) s, div-add-mod' a s) in
    rw (← between) (mod-eq-zero_of_dvd s (dvd-sub s (dvd-mul_left s ((y + a) / s)) (dvd-mul_left s (a / s))))

to_boundary : (s a : ℕ) (c : ℤ) (y : ℕ) → IsStep s a → c +ℤ pos 62135683200 ≡ pos y → y % s ≡ 0 → int_rem_euclid c (pos s) ≡ int_rem_euclid (pos a) (pos s)
to_boundary s a c y is at w =
    let same : (floor s y + a) % s ≡ a % s = mul-add-mod_self_right (y / s) s a in
    rest_of s a c y is at ∙ ap pos (rw (whole_is s y w) at same)

-- no boundary lies between n and the whole steps around it; z is c, counted from that Sunday
not_later : (s a n : ℕ) (m c z : ℤ) → IsStep s a → m +ℤ pos 62135683200 ≡ pos n → int_rem_euclid c (pos s) ≡ int_rem_euclid (pos a) (pos s) → c +ℤ pos 62135683200 ≡ z → c ≤ℤ m → c ≤ℤ (pos (floor s n) -ℤ pos 62135683200)
not_later s a n m c (pos y) is here e at le =
    let below = whole_below s y n is.some (from_boundary s a c y is at e) (omega (arith, ints)) in
    omega (arith, ints, below)
not_later s a n m c (negsuc y) is here e at le = omega (arith, ints)

not_earlier : (s a n : ℕ) (m c z : ℤ) → IsStep s a → m +ℤ pos 62135683200 ≡ pos n → int_rem_euclid c (pos s) ≡ int_rem_euclid (pos a) (pos s) → c +ℤ pos 62135683200 ≡ z → m <ℤ c → (pos (floor s n + s) -ℤ pos 62135683200) ≤ℤ c
not_earlier s a n m c (pos y) is here e at lt =
    let above = whole_above s y n is.some (from_boundary s a c y is at e) (omega (arith, ints)) in
    omega (arith, ints, above)
not_earlier s a n m c (negsuc y) is here e at lt = absurd (omega (arith, ints))

start_of : (s a n : ℕ) (m : ℤ) → IsStep s a → m +ℤ pos 62135683200 ≡ pos n → m -ℤ int_rem_euclid (m -ℤ pos a) (pos s) ≡ pos (floor s n) -ℤ pos 62135683200
start_of s a n m is here =
    let rem : int_rem_euclid (m -ℤ pos a) (pos s) ≡ pos (n % s) = int_rem_euclid_is (m -ℤ pos a) (pos s) s is.count n is.some refl (rw is.meets (omega (arith, ints))) in
    rw rem (omega (arith, ints, div-add-mod' n s))

period_by_kind : (k : RotationKind) (m : ℤ) → k ≢ Never → period_of_kind k m ≡ Some (m -ℤ int_rem_euclid (m -ℤ pos (anchor_of k)) (pos (step_of k)))
period_by_kind Minutely m h = refl
period_by_kind Hourly m h = refl
period_by_kind Daily m h = refl
period_by_kind Weekly m h = refl
period_by_kind Never m h = absurd (h refl)

pub same_some : (a b : ℤ) → ◌≡◌ {A = Option ℤ} (Some a) (Some b) → a ≡ b
same_some a b e = cc

-- the period by whole steps
pub period_is : (r : Rotation) (m : ℤ) (n : ℕ) → r.kind ≢ Never → m +ℤ pos 62135683200 ≡ pos n → period_of r m ≡ Some (pos (floor (step_of r.kind) n) -ℤ pos 62135683200)
period_is r m n h here = period_by_kind r.kind m h ∙ ap Some (start_of (step_of r.kind) (anchor_of r.kind) n m (step_is r.kind h) here)

-- where a period starts
pub record IsStart (r : Rotation) (m b : ℤ) : Type 0 where
  pub second : ℕ
  pub here : m +ℤ pos 62135683200 ≡ pos second
  pub start : b ≡ pos (floor (step_of r.kind) second) -ℤ pos 62135683200
  pub low : floor (step_of r.kind) second ≤ second
  pub near : second < floor (step_of r.kind) second + step_of r.kind

pub start_is : (r : Rotation) (m b : ℤ) → r.kind ≢ Never → IsMoment m → period_of r m ≡ Some b → IsStart r m b
start_is r m b h g e =
    let from = since m g in
    let step = step_is r.kind h in
    record {
      second = from.0;
      here = from.1;
      start = same_some _ _ (sym e ∙ period_is r m from.0 h from.1);
      low = floor_le (step_of r.kind) from.0;
      near = floor_near (step_of r.kind) from.0 step.some;
    }

-- the start of a period is the greatest boundary not after the moment
pub start_is_boundary : (r : Rotation) (m b : ℤ) → r.kind ≢ Never → IsMoment m → period_of r m ≡ Some b → IsGreatestBoundary r m b
start_is_boundary r m b h g e =
    let s = step_of r.kind in
    let step = step_is r.kind h in
    let from = start_is r m b h g e in
    record {
      boundary = (h, to_boundary s (anchor_of r.kind) b (floor s from.second) step (omega (arith, ints, from.start)) (floor_whole s from.second));
      not_after = omega (arith, ints, from.here, from.start, from.low);
      greatest = λ c is le. rw from.start (not_later s (anchor_of r.kind) from.second m c _ step from.here is.1 refl le);
    }

-- and the step after it the least boundary after the moment
pub next_is_boundary : (r : Rotation) (m b : ℤ) → r.kind ≢ Never → IsMoment m → period_of r m ≡ Some b → IsNextBoundary r m (b +ℤ pos (step_of r.kind))
next_is_boundary r m b h g e =
    let s = step_of r.kind in
    let step = step_is r.kind h in
    let from = start_is r m b h g e in
    let at : b +ℤ pos s ≡ pos (floor s from.second + s) -ℤ pos 62135683200 = omega (arith, ints, from.start) in
    let whole : (floor s from.second + s) % s ≡ 0 = add-mod_right (floor s from.second) s ∙ floor_whole s from.second in
    record {
      boundary = (h, to_boundary s (anchor_of r.kind) (b +ℤ pos s) (floor s from.second + s) step (omega (arith, ints, at)) whole);
      after = omega (arith, ints, from.here, from.start, from.near);
      least = λ c is after. rw at (not_earlier s (anchor_of r.kind) from.second m c _ step from.here is.1 refl after);
    }

pub next_answer : (r : Rotation) (m b z : ℤ) (n : ℕ) → r.kind ≢ Never → IsMoment m → period_of r m ≡ Some b → n ≡ step_of r.kind → z ≡ b +ℤ pos n → (Some z ≡ next_of r m) × IsNextBoundary r m z
next_answer r m b z n h g e en ez = rw (ez, en) (rw e refl, next_is_boundary r m b h g e)

-- a period begins at most a day before the range
pub start_in_range : (r : Rotation) (m b : ℤ) → r.kind ≢ Never → IsMoment m → period_of r m ≡ Some b → (negsuc 62135683199 ≤ℤ b) × (b ≤ℤ pos 253370764799)
start_in_range r m b h g e =
    let from = start_is r m b h g e in
    (omega (arith, ints, from.start), omega (arith, ints, from.here, from.start, from.low))

-- under NEVER no period has a start
pub has_start : (r : Rotation) (m b : ℤ) → period_of r m ≡ Some b → r.kind ≢ Never
has_start r m b e never =
    let none : ◌≡◌ {A = Option ℤ} None (Some b) = subst (λ (k : RotationKind). period_of_kind k m ≡ Some b) never e in cc

-- ---- the period of any second, by that of a moment

below_rest : (z : ℤ) (n : ℕ) → 0 < n → (rest : ℕ) × (int_rem_euclid z (pos n) ≡ pos rest) × (rest < n)
below_rest (pos a) n h = (a % n, refl, mod_below a n h)
below_rest (negsuc a) n h = (n - 1 - a % n, refl, omega arith)

-- a second lies between the start of its period and the next
pub lies_in : (r : Rotation) (s : ℤ) → r.kind ≢ Never → (q : ℤ) × (period_of r s ≡ Some q) × (q ≤ℤ s) × (s <ℤ (q +ℤ pos (step_of r.kind)))
lies_in r s h =
    let rest = below_rest (s -ℤ pos (anchor_of r.kind)) (step_of r.kind) (step_is r.kind h).some in
    let start = s -ℤ int_rem_euclid (s -ℤ pos (anchor_of r.kind)) (pos (step_of r.kind)) in
    (start, period_by_kind r.kind s h, omega (arith, ints, rest.1, rest.2), omega (arith, ints, rest.1, rest.2))

-- and what lies between these two of a moment is in the moment's period
pub same_period : (r : Rotation) (m s p : ℤ) → r.kind ≢ Never → IsMoment m → period_of r m ≡ Some p → p ≤ℤ s → s <ℤ (p +ℤ pos (step_of r.kind)) → period_of r s ≡ Some p
same_period r m s p h g e low high =
    let d = step_of r.kind in
    let step = step_is r.kind h in
    let from = start_is r m p h g e in
    let first = floor d from.second in
    let n = unsigned_abs (s +ℤ pos 62135683200) in
    let here : s +ℤ pos 62135683200 ≡ pos n = omega (arith, ints, from.start) in
    let after : first ≤ n = omega (arith, ints, from.start) in
    let before : n < first + d = omega (arith, ints, from.start) in
    let whole = floor_whole d from.second in
    let up : first ≤ floor d n = whole_below d first n step.some whole after in
    let same : floor d n ≡ first = elim (cases_lt first (floor d n)) [
      | inl lt ↦ absurd (omega (arith, whole_above d (floor d n) first step.some (floor_whole d n) lt, whole_is d first whole, floor_le d n))
      | inr back ↦ omega arith
    ] in
    period_is r s n h here ∙ ap Some (rw same (sym from.start))

-- a period is one with itself, and with no other
pub is_same_is : (o : Option ℤ) → is_same_start o o ≡ true
is_same_is None = refl
is_same_is (Some a) = grind (arith, ints)

pub is_same_to : (a b : Option ℤ) → is_same_start a b ≡ true → a ≡ b
is_same_to None None e = refl
is_same_to None (Some b) e = absurd (let both : false ≡ true = e in cc)
is_same_to (Some a) None e = absurd (let both : false ≡ true = e in cc)
is_same_to (Some a) (Some b) e = let same : a ≡ b = grind (arith, ints) in rw same refl

apart_starts : (q p s : ℤ) (d : ℕ) → q ≤ℤ s → s <ℤ (q +ℤ pos d) → (p ≤ℤ s → s <ℤ (p +ℤ pos d) → ⊥) → is_same_start (Some q) (Some p) ≡ false
apart_starts q p s d low high never = by (is_same_start (Some q) (Some p)) refl
  where
    by : (b : Bool) → is_same_start (Some q) (Some p) ≡ b → b ≡ false
    by false e = refl
    by true e = absurd (let one : q ≡ p = grind (arith, ints) in never (omega (arith, ints)) (omega (arith, ints)))

pub between : (r : Rotation) (m s p : ℤ) → r.kind ≢ Never → IsMoment m → period_of r m ≡ Some p
    → is_in_period r m s ≡ (not (int_lt s p) && int_lt s (p +ℤ pos (step_of r.kind)))
between r m s p h g e = by (int_lt s p) (int_lt s (p +ℤ pos (step_of r.kind))) refl refl
  where
    else_apart : ((p ≤ℤ s) → (s <ℤ (p +ℤ pos (step_of r.kind))) → ⊥) → is_in_period r m s ≡ false
    else_apart never = let q = lies_in r s h in rw (q.1, e) (apart_starts q.0 p s (step_of r.kind) q.2 q.3 never)

    by : (a b : Bool) → int_lt s p ≡ a → int_lt s (p +ℤ pos (step_of r.kind)) ≡ b → is_in_period r m s ≡ (not a && b)
    by true b low high = else_apart (λ x y. absurd (grind (arith, ints)))
    by false false low high = else_apart (λ x y. absurd (grind (arith, ints)))
    by false true low high = rw (same_period r m s p h g e (grind (arith, ints)) (grind (arith, ints)), e) (is_same_is (Some p))

-- the next start, a step later
pub next_is : (r : Rotation) (m p n : ℤ) → period_of r m ≡ Some p → next_of r m ≡ Some n → p +ℤ pos (step_of r.kind) ≡ n
next_is r m p n e f = same_some (p +ℤ pos (step_of r.kind)) n (sym (ap (option_map (λ (b : ℤ). b +ℤ pos (step_of r.kind))) e) ∙ f)
