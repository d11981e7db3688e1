-- Names, as prefix, date and suffix joined by dots.
use Rattle.std.proofs.Common.{◌≡◌, ◌≢◌, ℕ, ℤ, true, false, List, [], ◌∷◌, ◌++◌, length, Some, arith, refl, ap, inl, inr, length-append, ◌∙◌}
use Rattle.std.specs.Prelude.{◌==◌}
use Rattle.appender_names.specs.declared.rotation.RotationKind.{RotationKind}
use Rattle.appender_names.specs.declared.rotation.RotationKind.TheVariants.{Minutely, Hourly, Daily, Weekly, Never}
use Rattle.appender_names.specs.declared.rotation.Rotation.{Rotation}
use Rattle.appender_names.specs.Rotation.{period_of, IsNever}
use Rattle.appender_names.specs.DateText.{date_text}
use Rattle.appender_names.specs.Name.{Naming, name_at, mark_of, numbered_date, named_moment, name_by, dated_name, undated_name, after_prefix, before_suffix, IsPart, IsDots, IsAllowed, IsNoPart}

pub behind_set : (p text : List ℕ) → false ≡ (length p == 0) → p ++ (46 ∷ text) ≡ after_prefix p text
behind_set [] text e = cc
behind_set (x ∷ xs) text e = refl

pub before_set : (text s : List ℕ) → false ≡ (length s == 0) → text ++ (46 ∷ s) ≡ before_suffix text s
before_set text [] e = cc
before_set text (x ∷ xs) e = refl

pub name_by-dated_name : (k : RotationKind) (p s d : List ℕ) → k ≢ Never → name_by k p s d ≡ dated_name p s d
name_by-dated_name Minutely p s d h = refl
name_by-dated_name Hourly p s d h = refl
name_by-dated_name Daily p s d h = refl
name_by-dated_name Weekly p s d h = refl
name_by-dated_name Never p s d h = absurd (h refl)

pub name_at-dated_name : (n : Naming) (m s : ℤ) (k : ℕ) → n.rotation.kind ≢ Never → period_of n.rotation m ≡ Some s → name_at n m k ≡ dated_name n.prefix n.suffix (mark_of n s k)
name_at-dated_name n m s k h e = rw e (name_by-dated_name n.rotation.kind n.prefix n.suffix (mark_of n s k) h)

-- a name of two parts and a dot is longer than two dots
parts_are_plain : (x : ℕ) (xs : List ℕ) (y : ℕ) (ys : List ℕ) → ¬ (IsDots (undated_name (x ∷ xs) (y ∷ ys) []))
parts_are_plain x xs y ys dots = elim dots [
  | inl e ↦ absurd (omega (arith, length-append (x ∷ xs) (46 ∷ y ∷ ys), ap length e))
  | inr e ↦ absurd (omega (arith, length-append (x ∷ xs) (46 ∷ y ∷ ys), ap length e))
]

-- parts that may stand beside each other are allowed
pub parts_are_allowed : (r : Rotation) (p s : List ℕ) → IsPart p → IsPart s → ¬ IsNoPart r p s → ¬ IsNoPart r s p → IsAllowed r p s
parts_are_allowed r p s of_p of_s fits_p fits_s = record {
  prefix_is_part = of_p;
  suffix_is_part = of_s;
  no_dots = no_dots_of p s fits_p fits_s;
}
  where
    no_dots_of : (p s : List ℕ) → ¬ IsNoPart r p s → ¬ IsNoPart r s p → IsNever r → ¬ IsDots (undated_name p s [])
    no_dots_of [] [] fits_p fits_s never dots = elim dots [ inl e ↦ absurd (omega (arith, ap length e)) | inr e ↦ absurd (omega (arith, ap length e)) ]
    no_dots_of [] (y ∷ ys) fits_p fits_s never dots = fits_s (inr (never, dots, refl))
    no_dots_of (x ∷ xs) [] fits_p fits_s never dots = fits_p (inr (never, dots, refl))
    no_dots_of (x ∷ xs) (y ∷ ys) fits_p fits_s never dots = parts_are_plain x xs y ys dots

-- a prefix or a suffix that is at fault is not allowed
pub no_prefix_is_allowed : (r : Rotation) (p s : List ℕ) → IsNoPart r p s → ¬ IsAllowed r p s
no_prefix_is_allowed r p s (inl fault) allowed = fault allowed.prefix_is_part
no_prefix_is_allowed r [] s (inr (never, dots, whole)) allowed = elim dots [ inl e ↦ absurd (omega (arith, ap length e)) | inr e ↦ absurd (omega (arith, ap length e)) ]
no_prefix_is_allowed r (x ∷ xs) [] (inr (never, dots, whole)) allowed = allowed.no_dots never dots
no_prefix_is_allowed r (x ∷ xs) (y ∷ ys) (inr (never, dots, whole)) allowed = absurd (omega (arith, ap length whole))

pub no_suffix_is_allowed : (r : Rotation) (p s : List ℕ) → IsNoPart r s p → ¬ IsAllowed r p s
no_suffix_is_allowed r p s (inl fault) allowed = fault allowed.suffix_is_part
no_suffix_is_allowed r p [] (inr (never, dots, whole)) allowed = elim dots [ inl e ↦ absurd (omega (arith, ap length e)) | inr e ↦ absurd (omega (arith, ap length e)) ]
no_suffix_is_allowed r [] (y ∷ ys) (inr (never, dots, whole)) allowed = allowed.no_dots never dots
no_suffix_is_allowed r (x ∷ xs) (y ∷ ys) (inr (never, dots, whole)) allowed = absurd (omega (arith, ap length whole))

-- a numbered name
pub name_at-numbered : (n : Naming) (m : ℤ) (k : ℕ) → n.rotation.kind ≢ Never → n.numbered ≡ true
    → name_at n m k ≡ dated_name n.prefix n.suffix (numbered_date true (date_text n.rotation.kind (named_moment n.rotation m)) k)
name_at-numbered n m k h numbered =
    name_by-dated_name n.rotation.kind n.prefix n.suffix (mark_of n (named_moment n.rotation m) k) h
    ∙ ap (λ b. dated_name n.prefix n.suffix (numbered_date b (date_text n.rotation.kind (named_moment n.rotation m)) k)) numbered
