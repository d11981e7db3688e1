-- When the next boundary lies ahead.
use Rattle.std.proofs.Common.{◌≡◌, ◌↔◌, inl, inr, List, ℕ, ◌+◌, ◌<◌, ℤ, ◌<ℤ◌, Bool, true, false, if◌then◌else◌, Option, None, Some, IsNone, IfSome, arith, refl, ap, subst}
use Rattle.std.proofs.lemmas.Int.{ints}
use Rattle.appender_names.specs.declared.rotation.Rotation.{Rotation}
use Rattle.appender_names.specs.Rotation.{IsMoment, IsNever, IsNextBoundary, IsBoundary}
use Rattle.std.specs.Prelude.{unwrap_or, not, ◌==◌}
use Rattle.std.proofs.lemmas.Bool.Decides.{nat_tests}
use Rattle.appender_names.specs.Name.{greatest_number}
use Rattle.appender_rolling.specs.declared.rolling.setup.Stamp.{Stamp}
use Rattle.appender_rolling.specs.Config.{Config, IsStamp, IsLaterStamp, stamp, last_of}
use Rattle.appender_rolling.specs.Roller.{Scheduled, IsLaterBoundary, IsSchedule, is_due, is_full, next_with}

same_some : (a b : ℤ) → ◌≡◌ {A = Option ℤ} (Some a) (Some b) → a ≡ b
same_some a b e = cc

-- the one after a moment does
pub next_is_later : (r : Rotation) (m : ℤ) (b : Option ℤ) → IsNone b ↔ IsNever r → IfSome b (IsNextBoundary r m) → IsLaterBoundary r m b
next_is_later r m None none next = record {
  none = λ e. none.0 refl;
  never = λ e. refl;
  is_boundary = λ x e. absurd (let both : ◌≡◌ {A = Option ℤ} None (Some x) = e in cc);
  ahead = λ x e. absurd (let both : ◌≡◌ {A = Option ℤ} None (Some x) = e in cc);
}
next_is_later r m (Some b) none next = record {
  none = λ e. absurd (let both : ◌≡◌ {A = Option ℤ} (Some b) None = e in cc);
  never = λ never. absurd (let both : true ≡ false = none.1 never in cc);
  is_boundary = λ x e. subst (λ (y : ℤ). IsBoundary r y) (same_some b x e) next.boundary;
  ahead = λ x e. subst (λ (y : ℤ). m <ℤ y) (same_some b x e) next.after;
}

-- a moment that is due is one of the range
pub due_is_moment : (m : ℤ) (b : Option ℤ) → is_due b m ≡ true → IsMoment m
due_is_moment m None due = absurd (let both : false ≡ true = due in cc)
due_is_moment m (Some b) due = (grind (arith, ints), grind (arith, ints))

-- a moment that is due is later than that of the open file
pub due_is_later : (r : Rotation) (opened m : ℤ) (b : Option ℤ) → IsLaterBoundary r opened b → is_due b m ≡ true → opened <ℤ m
due_is_later r opened m None ahead due = absurd (let both : false ≡ true = due in cc)
due_is_later r opened m (Some b) ahead due =
    let before : opened <ℤ b = ahead.ahead b refl in
    grind (arith, ints, before)

-- what lies ahead of a moment lies ahead of those before it
pub ahead_of_earlier : (r : Rotation) (earlier m : ℤ) (b : Option ℤ) → earlier <ℤ m → IsLaterBoundary r m b → IsLaterBoundary r earlier b
ahead_of_earlier r earlier m b le ahead = record {
  none = ahead.none;
  never = ahead.never;
  is_boundary = ahead.is_boundary;
  ahead = λ x e. let after : m <ℤ x = ahead.ahead x e in omega (arith, ints);
}

-- ---- what an attempt is for

-- a stamp that names can have, later than that of the open file
pub record IsNext (s : Scheduled) (next : Stamp) : Type 0 where
  pub is_stamp : IsStamp s.config next
  pub later : IsLaterStamp s.opened next

limited : (c : Config) (k : ℕ) → k < c.max_bytes → last_of c ≡ 999999
limited c k lt = by (c.max_bytes == 0) refl
  where
    by : (b : Bool) → (c.max_bytes == 0) ≡ b → greatest_number (not b) ≡ 999999
    by false e = refl
    by true e = absurd (grind (arith, nat_tests))

module _ (s : Scheduled) (name : List ℕ) (room : ℕ) (m : ℤ) (len : ℕ) (is : IsSchedule s.config name s.opened s.last s.boundary) where
  arrival_is_next : is_due s.boundary m ≡ true → IsNext s (stamp m 0)
  arrival_is_next due = record {
    is_stamp = record { in_range = due_is_moment m s.boundary due; number_is = omega arith };
    later = inl (due_is_later s.config.rotation s.opened.moment m s.boundary is.is_opened.later_boundary due);
  }

  full_is_next : is_full s room len ≡ true → IsNext s (stamp s.last.moment (s.last.number + 1))
  full_is_next full =
      let number : s.last.number < 999999 = grind (arith, nat_tests) in
      let low : room < s.config.max_bytes = grind (arith, nat_tests) in
      record {
        is_stamp = record { in_range = is.is_last_attempt.is_stamp.in_range; number_is = omega (arith, limited s.config room low, number) };
        later = elim is.is_last_attempt.not_before [
          | inl same ↦ inr (ap (λ (t : Stamp). t.moment) same, omega (arith, ap (λ (t : Stamp). t.number) same))
          | inr (inl earlier) ↦ inl earlier
          | inr (inr (same, lower)) ↦ inr (same, omega (arith, lower))
        ];
      }

  -- what an attempt is made for: an arrival, or the number after that of a full file
  pub is_next : (next : Stamp) → next_with s room m len ≡ Some next → IsNext s next
  is_next next e = by (is_due s.boundary m) (is_full s room len) refl refl e
    where
      by : (due full : Bool) → is_due s.boundary m ≡ due → is_full s room len ≡ full
          → (if due then Some (stamp m 0) else if full then Some (stamp s.last.moment (s.last.number + 1)) else None) ≡ Some next → IsNext s next
      by true full d f e = subst (IsNext s) (ap (λ (o : Option Stamp). unwrap_or o next) e) (arrival_is_next d)
      by false true d f e = subst (IsNext s) (ap (λ (o : Option Stamp). unwrap_or o next) e) (full_is_next f)
      by false false d f e = absurd (let both : ◌≡◌ {A = Option Stamp} None (Some next) = e in cc)

-- what lies ahead of a stamp lies ahead of those before it
pub ahead_of_stamp : (r : Rotation) (a b : Stamp) (n : Option ℤ) → IsLaterStamp a b → IsLaterBoundary r b.moment n → IsLaterBoundary r a.moment n
ahead_of_stamp r a b n (inl lt) ahead = ahead_of_earlier r a.moment b.moment n lt ahead
ahead_of_stamp r a b n (inr (same, number)) ahead = rw same ahead
