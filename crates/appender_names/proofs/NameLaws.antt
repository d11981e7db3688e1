-- The laws of names: what the name of a period reads as, that each period has a name of its own, and that names rise.
use Rattle.std.proofs.Common.{◌≡◌, ◌≢◌, ℕ, ◌+◌, ◌/◌, ◌%◌, ℤ, pos, List, [], ◌∷◌, length, Some, arith, refl, ap, sym, ◌∙◌, subst}
use Rattle.std.specs.Cmp.Lexicographic.{slice_cmp}
use Rattle.std.specs.Ordering.{nat_cmp}
use Rattle.std.specs.declared.cmp.Ordering.TheVariants.{Less}
use Rattle.std.proofs.Math.Nat.{dvd-add, dvd-mul_left}
use Rattle.std.proofs.lemmas.Nat.Gcd.{dvd_trans, dvd_of_mod-eq-zero, mod-eq-zero_of_dvd}
use Rattle.std.proofs.lemmas.Int.{ints}
use Rattle.appender_names.specs.declared.rotation.RotationKind.{RotationKind}
use Rattle.appender_names.specs.declared.rotation.RotationKind.TheVariants.{Minutely, Hourly, Daily, Weekly, Never}
use Rattle.appender_names.specs.declared.rotation.Rotation.{Rotation}
use Rattle.appender_names.specs.Rotation.{IsMoment, period_of, period_of_kind, step_of, StartsOwnPeriod}
use Rattle.appender_names.specs.DateText.{IsDated, second_of, date_text, unit_of}
use Rattle.appender_names.specs.Name.{Naming, name_at, mark_of, dated_name, after_prefix, before_suffix, ReadsAt, NamesRise, NamesArePeriods, NamesReadAsStarts, NamesReadOnce}
use Rattle.appender_names.proofs.Periods.{floor, floor_whole, whole_is, period_is, start_is}
use Rattle.appender_names.proofs.Clock.{second_is}
use Rattle.appender_names.proofs.Digits.{over}
use Rattle.appender_names.proofs.Joins.{name_at-dated_name}
use Rattle.appender_names.proofs.Reading.{reads_once}
use Rattle.appender_names.proofs.Order.{cmp_front, cmp_behind}
use Rattle.appender_names.proofs.Marks.{same_length, marked_length, mark_less}

-- a period with a start is one of a rotation with boundaries
rotates : (k : RotationKind) (m p : ℤ) → period_of_kind k m ≡ Some p → k ≢ Never
rotates Minutely m p e = λ n. cc
rotates Hourly m p e = λ n. cc
rotates Daily m p e = λ n. cc
rotates Weekly m p e = λ n. cc
rotates Never m p e = λ n. cc

-- a rotation's step and its count of seconds from 0000-01-01 to a Sunday are whole units of its date texts
units_divide : (k : RotationKind) → (step_of k % unit_of k ≡ 0) × (31536000 % unit_of k ≡ 0)
units_divide Minutely = (refl, refl)
units_divide Hourly = (refl, refl)
units_divide Daily = (refl, refl)
units_divide Weekly = (refl, refl)
units_divide Never = (refl, refl)

-- so the start of a period is a whole minute, hour or day
whole_start : (k : RotationKind) (n : ℕ) → (floor (step_of k) n + 31536000) % unit_of k ≡ 0
whole_start k n =
    let u = unit_of k in
    let divide = units_divide k in
    mod-eq-zero_of_dvd u (dvd-add u (dvd_trans u (dvd_of_mod-eq-zero u divide.0) (dvd-mul_left (step_of k) (n / step_of k))) (dvd_of_mod-eq-zero u divide.1))

record IsNamed (r : Rotation) (p : ℤ) : Type 0 where
  pub rotates_is : r.kind ≢ Never
  pub years : IsDated p
  pub whole : second_of p % unit_of r.kind ≡ 0

start_named : (r : Rotation) (m p : ℤ) → IsMoment m → period_of r m ≡ Some p → IsNamed r p
start_named r m p g e =
    let h = rotates r.kind m p e in
    let from = start_is r m p h g e in
    let years : IsDated p = (omega (arith, ints, from.start), omega (arith, ints, from.here, from.start, from.low)) in
    let second : second_of p ≡ floor (step_of r.kind) from.second + 31536000 = omega (arith, ints, from.start, second_is p years) in
    record { rotates_is = h; years = years; whole = rw second (whole_start r.kind from.second) }

pub reads_as_start : (n : Naming) → NamesReadAsStarts n
reads_as_start n m p k g e low =
    let start = start_named n.rotation m p g e in
    record {
      dated_second = start.years;
      whole = over n.rotation.kind p start.years ∙ ap pos start.whole;
      number_is = low;
      text = name_at-dated_name n m p k start.rotates_is e;
    }

pub one_name : (n : Naming) → NamesArePeriods n
one_name n a b p q j k ga gb ea eb low top = (
  λ e. reads_once n (name_at n b k) p q j k (subst (λ (name : List ℕ). ReadsAt n name p j) e (reads_as_start n a p j ga ea low)) (reads_as_start n b q k gb eb top),
  λ e. name_at-dated_name n a p j (start_named n.rotation a p ga ea).rotates_is ea ∙ ap (λ s. dated_name n.prefix n.suffix (mark_of n s j)) e.0 ∙ ap (λ i. dated_name n.prefix n.suffix (mark_of n q i)) e.1 ∙ sym (name_at-dated_name n b q k (start_named n.rotation b q gb eb).rotates_is eb),
)

before_less : (a b s : List ℕ) → length a ≡ length b → slice_cmp nat_cmp a b ≡ Less → slice_cmp nat_cmp (before_suffix a s) (before_suffix b s) ≡ Less
before_less a b [] len h = h
before_less a b (x ∷ xs) len h = cmp_behind a b (46 ∷ x ∷ xs) (46 ∷ x ∷ xs) len h

behind_less : (p a b : List ℕ) → slice_cmp nat_cmp a b ≡ Less → slice_cmp nat_cmp (after_prefix p a) (after_prefix p b) ≡ Less
behind_less [] a b h = h
behind_less (x ∷ xs) a b h = cmp_front (x ∷ xs) (46 ∷ a) (46 ∷ b) ∙ cmp_front (46 ∷ []) a b ∙ h

pub rise : (n : Naming) → NamesRise n
rise n a b p q j k ga gb ea eb low top later =
    let x = start_named n.rotation a p ga ea in
    let y = start_named n.rotation b q gb eb in
    let less = mark_less n.numbered n.rotation.kind p q j k (record { years = x.years; whole = x.whole }) (record { years = y.years; whole = y.whole }) top later in
    rw (name_at-dated_name n a p j x.rotates_is ea, name_at-dated_name n b q k y.rotates_is eb)
    (behind_less n.prefix (before_suffix (mark_of n p j) n.suffix) (before_suffix (mark_of n q k) n.suffix)
    (before_less (mark_of n p j) (mark_of n q k) n.suffix (marked_length n.numbered (date_text n.rotation.kind p) (date_text n.rotation.kind q) j k (same_length n.rotation.kind (second_of p) (second_of q))) less))

pub read_once : (n : Naming) → NamesReadOnce n
read_once = reads_once

pub starts_itself : (r : Rotation) → StartsOwnPeriod r
starts_itself r m p gm gp e =
    let h = rotates r.kind m p e in
    let s = step_of r.kind in
    let from = start_is r m p h gm e in
    let again = whole_is s (floor s from.second) (floor_whole s from.second) in
    period_is r p (floor s from.second) h (omega (arith, ints, from.start)) ∙ ap Some (rw again (sym from.start))
