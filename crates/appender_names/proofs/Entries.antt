-- A name is that of one entry of a folder.
use Rattle.std.proofs.Common.{Bool, true, false, ◌≡◌, ◌≢◌, ℕ, ◌+◌, ◌/◌, ◌≤◌, List, [], ◌∷◌, ◌++◌, length, arith, refl, ap, inl, inr, length-append, lit≤}
use Rattle.std.proofs.lemmas.List.Elements.{All-append, All-from_recursion}
use Rattle.appender_names.specs.declared.rotation.RotationKind.{RotationKind}
use Rattle.appender_names.specs.declared.rotation.RotationKind.TheVariants.{Minutely, Hourly, Daily, Weekly, Never}
use Rattle.appender_names.specs.Calendar.{CivilDate, date_of}
use Rattle.appender_names.specs.DateText.{day_text, day_at, hour_at, minute_at, text_at, date_text, second_of}
use Rattle.appender_names.specs.Name.{Naming, IsPart, IsDots, IsEntry, NamesAreEntries, after_prefix, before_suffix, dated_name, undated_name, name_by, named_moment, numbered_date, number_text}

-- a byte that may be in a name
abbrev pub IsNameByte : ℕ → Type 0
IsNameByte b = (b ≢ 47) × (b ≢ 0)

digit : (x : ℕ) → IsNameByte (48 + x)
digit x = ((λ e. absurd (omega arith)), (λ e. absurd (omega arith)))

dash : IsNameByte 45
dash = ((λ e. absurd (omega arith)), (λ e. absurd (omega arith)))

dot : IsPart (46 ∷ [])
dot = All-from_recursion IsNameByte (46 ∷ []) (((λ e. absurd (omega arith)), (λ e. absurd (omega arith))), tt)

day_is_part : (d : CivilDate) → IsPart (day_text d)
day_is_part d = All-from_recursion IsNameByte (day_text d) (digit _, (digit _, (digit _, (digit _, (dash, (digit _, (digit _, (dash, (digit _, (digit _, tt))))))))))

text_is_part : (k : RotationKind) (s : ℕ) → IsPart (text_at k s)
text_is_part Minutely s = All-append IsNameByte (day_at s) (45 ∷ hour_at s ++ 45 ∷ minute_at s) (day_is_part (date_of (s / 86400))) (All-from_recursion IsNameByte (45 ∷ hour_at s ++ 45 ∷ minute_at s) (dash, (digit _, (digit _, (dash, (digit _, (digit _, tt)))))))
text_is_part Hourly s = All-append IsNameByte (day_at s) (45 ∷ hour_at s) (day_is_part (date_of (s / 86400))) (All-from_recursion IsNameByte (45 ∷ hour_at s) (dash, (digit _, (digit _, tt))))
text_is_part Daily s = day_is_part (date_of (s / 86400))
text_is_part Weekly s = day_is_part (date_of (s / 86400))
text_is_part Never s = day_is_part (date_of (s / 86400))

text_is_long : (k : RotationKind) (s : ℕ) → 10 ≤ length (text_at k s)
text_is_long Minutely s = lit≤ tt
text_is_long Hourly s = lit≤ tt
text_is_long Daily s = lit≤ tt
text_is_long Weekly s = lit≤ tt
text_is_long Never s = lit≤ tt

behind_is_part : (p t : List ℕ) → IsPart p → IsPart t → IsPart (after_prefix p t)
behind_is_part [] t a b = b
behind_is_part (x ∷ xs) t a b = All-append IsNameByte (x ∷ xs) (46 ∷ t) a (All-append IsNameByte (46 ∷ []) t dot b)

before_is_part : (t s : List ℕ) → IsPart t → IsPart s → IsPart (before_suffix t s)
before_is_part t [] a b = a
before_is_part t (x ∷ xs) a b = All-append IsNameByte t (46 ∷ x ∷ xs) a (All-append IsNameByte (46 ∷ []) (x ∷ xs) dot b)

behind_is_long : (p t : List ℕ) → length t ≤ length (after_prefix p t)
behind_is_long [] t = omega arith
behind_is_long (x ∷ xs) t = omega (arith, length-append (x ∷ xs) (46 ∷ t))

before_is_long : (t s : List ℕ) → length t ≤ length (before_suffix t s)
before_is_long t [] = omega arith
before_is_long t (x ∷ xs) = omega (arith, length-append t (46 ∷ x ∷ xs))

long_is_entry : (name : List ℕ) → IsPart name → 10 ≤ length name → IsEntry name
long_is_entry name part long = record {
  is_part = part;
  no_dots = λ d. elim d [ inl e ↦ absurd (omega (arith, ap length e)) | inr e ↦ absurd (omega (arith, ap length e)) ];
  some_byte = λ e. absurd (omega (arith, ap length e));
}

undated_is_entry : (p s date : List ℕ) → IsPart p → IsPart s → ¬ (IsDots (undated_name p s [])) → IsEntry date → IsEntry (undated_name p s date)
undated_is_entry [] [] date a b d entry = entry
undated_is_entry [] (y ∷ ys) date a b d entry = record { is_part = b; no_dots = d; some_byte = λ e. cc }
undated_is_entry (x ∷ xs) s date a b d entry = record {
  is_part = before_is_part (x ∷ xs) s a b;
  no_dots = d;
  some_byte = λ e. absurd (omega (arith, before_is_long (x ∷ xs) s, ap length e));
}

dated_is_entry : (p s date : List ℕ) → IsPart p → IsPart s → IsPart date → 10 ≤ length date → IsEntry (dated_name p s date)
dated_is_entry p s date a b c long =
    long_is_entry (dated_name p s date) (behind_is_part p (before_suffix date s) a (before_is_part date s c b))
    (omega (arith, behind_is_long p (before_suffix date s), before_is_long date s))

by_kind : (k : RotationKind) (p s mark : List ℕ) → IsPart p → IsPart s → (k ≡ Never → ¬ (IsDots (undated_name p s []))) → IsPart mark → 10 ≤ length mark → IsEntry (name_by k p s mark)
by_kind Never p s mark a b d c long = undated_is_entry p s mark a b (d refl) (long_is_entry mark c long)
by_kind Minutely p s mark a b d c long = dated_is_entry p s mark a b c long
by_kind Hourly p s mark a b d c long = dated_is_entry p s mark a b c long
by_kind Daily p s mark a b d c long = dated_is_entry p s mark a b c long
by_kind Weekly p s mark a b d c long = dated_is_entry p s mark a b c long

marked_is_part : (b : Bool) (t : List ℕ) (k : ℕ) → IsPart t → IsPart (numbered_date b t k)
marked_is_part false t k a = a
marked_is_part true t k a = All-append IsNameByte t (46 ∷ number_text k) a (All-from_recursion IsNameByte (46 ∷ number_text k) (((λ e. absurd (omega arith)), (λ e. absurd (omega arith))), (digit _, (digit _, (digit _, (digit _, (digit _, (digit _, tt))))))))

marked_is_long : (b : Bool) (t : List ℕ) (k : ℕ) → length t ≤ length (numbered_date b t k)
marked_is_long false t k = omega arith
marked_is_long true t k = omega (arith, length-append t (46 ∷ number_text k))

-- each name is that of one entry of a folder, where prefix and suffix are allowed
pub entries : (n : Naming) → NamesAreEntries n
entries n allowed m k =
    let date = date_text n.rotation.kind (named_moment n.rotation m) in
    by_kind n.rotation.kind n.prefix n.suffix (numbered_date n.numbered date k) allowed.prefix_is_part allowed.suffix_is_part allowed.no_dots
    (marked_is_part n.numbered date k (text_is_part n.rotation.kind (second_of (named_moment n.rotation m))))
    (omega (arith, marked_is_long n.numbered date k, text_is_long n.rotation.kind (second_of (named_moment n.rotation m))))
