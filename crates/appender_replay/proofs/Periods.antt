-- When a moment comes into another period.
use Rattle.std.proofs.Common.{◌≡◌, ◌⊎◌, ◌<◌, ◌==◌, ◌&&◌, ℤ, pos, ◌+ℤ◌, ◌≤ℤ◌, ◌<ℤ◌, Bool, true, false, int_lt, Option, None, Some, arith, inl, inr, refl, ap, sym, ◌∙◌, subst}
use Rattle.std.specs.Int.{int_max}
use Rattle.std.specs.Option.{option_map}
use Rattle.std.proofs.lemmas.Int.{ints}
use Rattle.appender_names.specs.declared.rotation.RotationKind.{RotationKind}
use Rattle.appender_names.specs.declared.rotation.RotationKind.TheVariants.{Minutely, Hourly, Daily, Weekly, Never}
use Rattle.appender_names.specs.declared.rotation.Rotation.{Rotation}
use Rattle.appender_names.specs.Rotation.{IsMoment, is_moment, is_same_start, period_of, period_of_kind, next_of, step_of, IsGreatestBoundary, IsNextBoundary, PeriodsBeginAtBoundaries, PeriodsEndAtBoundaries}
use Rattle.appender_rolling.specs.Roller.{is_due}
use Rattle.appender_names.proofs.Periods.{is_same_is}
use Rattle.appender_replay.specs.Run.{FileKey, is_same_key}

pub record Laws (r : Rotation) : Type 0 where
  pub begins : PeriodsBeginAtBoundaries r
  pub ends : PeriodsEndAtBoundaries r

pub moment_is : (m : ℤ) → is_moment m ≡ true → IsMoment m
moment_is m h = grind (arith, ints)

pub max_moment : (l m : ℤ) → IsMoment l → IsMoment m → IsMoment (int_max m l)
max_moment l m h g = grind (arith, ints)

-- every moment's period has a start, or none has
starts_of : (k : RotationKind) → ((m : ℤ) → period_of_kind k m ≡ None) ⊎ ((m : ℤ) → (p : ℤ) × (period_of_kind k m ≡ Some p))
starts_of Minutely = inr (λ m. (_, refl))
starts_of Hourly = inr (λ m. (_, refl))
starts_of Daily = inr (λ m. (_, refl))
starts_of Weekly = inr (λ m. (_, refl))
starts_of Never = inl (λ m. refl)

-- one period's start is before the other's
abbrev pub IsLater : Option ℤ → Option ℤ → Type 0
IsLater None q = ⊥
IsLater (Some p) None = ⊥
IsLater (Some p) (Some q) = p <ℤ q

before_or_not : (a b : ℤ) → (a <ℤ b) ⊎ (b ≤ℤ a)
before_or_not a b = elim (int_lt a b) as (λ (t : Bool). int_lt a b ≡ t → (a <ℤ b) ⊎ (b ≤ℤ a)) [ true ↦ λ e. inl (grind (arith, ints)) | false ↦ λ e. inr (grind (arith, ints)) ] refl

-- a moment before the end of an earlier one's period is in that period
one_start : (r : Rotation) (l m p q n : ℤ) → IsGreatestBoundary r l p → IsGreatestBoundary r m q → IsNextBoundary r l n → l ≤ℤ m → m <ℤ n → q ≡ p
one_start r l m p q n first second next le lt =
    let least : p ≤ℤ q = second.greatest p first.boundary (let a = first.not_after in omega (arith, ints)) in
    let most : q ≤ℤ p = elim (before_or_not l q) [
      | inl after ↦ absurd (let c : n ≤ℤ q = next.least q second.boundary after in let d : q ≤ℤ m = second.not_after in omega (arith, ints))
      | inr not_after ↦ first.greatest q second.boundary not_after
    ] in
    omega (arith, ints)

-- one at or past it is in a later one
later_start : (r : Rotation) (l m p q n : ℤ) → IsGreatestBoundary r l p → IsGreatestBoundary r m q → IsNextBoundary r l n → n ≤ℤ m → p <ℤ q
later_start r l m p q n first second next le =
    let c : n ≤ℤ q = second.greatest n next.boundary le in
    let d : l <ℤ n = next.after in
    let e : p ≤ℤ l = first.not_after in
    omega (arith, ints)

later_is_other : (a b : ℤ) → a <ℤ b → (is_same_start (Some b) (Some a) ≡ false) × (is_same_start (Some a) (Some b) ≡ false)
later_is_other a b h = (grind (arith, ints), grind (arith, ints))

-- What a moment m of the range does to the latest moment l.
pub record Moves (r : Rotation) (l m : ℤ) (due : Bool) : Type 0 where
  pub in_range : IsMoment (int_max m l)
  pub stays : due ≡ false → period_of r (int_max m l) ≡ period_of r l
  pub goes : due ≡ true → (int_max m l ≡ m) × IsLater (period_of r l) (period_of r m)

not_due : (m n : ℤ) → is_moment m ≡ true → is_due (Some n) m ≡ false → m <ℤ n
not_due m n h g = grind (arith, ints)

is_past : (m n : ℤ) → is_due (Some n) m ≡ true → n ≤ℤ m
is_past m n g = grind (arith, ints)

next_is : (r : Rotation) (l p : ℤ) → period_of r l ≡ Some p → next_of r l ≡ Some (p +ℤ pos (step_of r.kind))
next_is r l p e = ap (option_map (λ (b : ℤ). b +ℤ pos (step_of r.kind))) e

pub moves : (r : Rotation) (l m : ℤ) → Laws r → IsMoment l → is_moment m ≡ true → Moves r l m (is_due (next_of r l) m)
moves r l m laws h g = elim (starts_of r.kind) [
  | inl none ↦ record {
    in_range = max_moment l m h (moment_is m g);
    stays = λ no. none (int_max m l) ∙ sym (none l);
    goes = λ due. absurd (let never : false ≡ true = subst (λ (o : Option ℤ). is_due (option_map (λ (b : ℤ). b +ℤ pos (step_of r.kind)) o) m ≡ true) (none l) due in cc);
  }
  | inr some ↦
      let p = some l in
      let next = next_is r l p.0 p.1 in
      let n : ℤ = p.0 +ℤ pos (step_of r.kind) in
      let first = laws.begins l p.0 h p.1 in
      let end : IsNextBoundary r l n = laws.ends l p.0 h p.1 in
      let top = max_moment l m h (moment_is m g) in
      record {
        in_range = top;
        stays = λ no.
            let q = some (int_max m l) in
            let before : m <ℤ n = not_due m n g (subst (λ (o : Option ℤ). is_due o m ≡ false) next no) in
            let after : l <ℤ n = end.after in
            let same : q.0 ≡ p.0 = one_start r l (int_max m l) p.0 q.0 n first (laws.begins (int_max m l) q.0 top q.1) end (grind (arith, ints)) (grind (arith, ints)) in
            q.1 ∙ ap Some same ∙ sym p.1;
        goes = λ due.
            let q = some m in
            let past : n ≤ℤ m = is_past m n (subst (λ (o : Option ℤ). is_due o m ≡ true) next due) in
            let after : l <ℤ n = end.after in
            let later : p.0 <ℤ q.0 = later_start r l m p.0 q.0 n first (laws.begins m q.0 (moment_is m g) q.1) end past in
            (grind (arith, ints), rw (p.1, q.1) later);
      }
]

pub later_differs : (p q : Option ℤ) → IsLater p q → (is_same_start q p ≡ false) × (is_same_start p q ≡ false)
later_differs None q h = absurd h
later_differs (Some p) None h = absurd h
later_differs (Some p) (Some q) h = later_is_other p q h

pub later_still : (p q s : Option ℤ) → IsLater p q → IsLater q s → IsLater p s
later_still None q s h k = absurd h
later_still (Some p) None s h k = absurd h
later_still (Some p) (Some q) None h k = absurd k
later_still (Some p) (Some q) (Some s) h k = omega (arith, ints)

-- ---- a period and a number in it

-- a later period, or in one period a greater number
abbrev pub IsLaterKey : FileKey → FileKey → Type 0
IsLaterKey a b = IsLater a.0 b.0 ⊎ ((a.0 ≡ b.0) × (a.1 < b.1))

pub same_key_is_same : (a : FileKey) → is_same_key a a ≡ true
same_key_is_same a = let number : (a.1 == a.1) ≡ true = grind arith in rw (is_same_is a.0, number) refl

neither : (t : Bool) → (t && false) ≡ false
neither true = refl
neither false = refl

pub later_key_differs : (a b : FileKey) → IsLaterKey a b → (is_same_key b a ≡ false) × (is_same_key a b ≡ false)
later_key_differs a b (inl later) = let other = later_differs a.0 b.0 later in (rw other.0 refl, rw other.1 refl)
later_key_differs a b (inr (same, lt)) =
    let back : (b.1 == a.1) ≡ false = grind arith in
    let front : (a.1 == b.1) ≡ false = grind arith in
    (rw back (neither (is_same_start b.0 a.0)), rw front (neither (is_same_start a.0 b.0)))

pub later_key_still : (a b c : FileKey) → IsLaterKey a b → IsLaterKey b c → IsLaterKey a c
later_key_still a b c (inl k) (inl l) = inl (later_still a.0 b.0 c.0 k l)
later_key_still a b c (inl k) (inr (same, lt)) = inl (subst (λ (q : Option ℤ). IsLater a.0 q) same k)
later_key_still a b c (inr (same, lt)) (inl l) = inl (subst (λ (q : Option ℤ). IsLater q c.0) (sym same) l)
later_key_still a b c (inr (same, lt)) (inr (equal, less)) = inr (same ∙ equal, omega (arith, lt, less))
