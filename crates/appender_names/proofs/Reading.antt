-- A name reads as one second and one number at most.
use Rattle.std.proofs.Common.{◌≡◌, ◌≢◌, ◌↔◌, ℕ, zero, suc, ◌<◌, ◌+◌, ◌*◌, ◌/◌, ◌%◌, ℤ, pos, ◌+ℤ◌, Bool, true, false, if◌then◌else◌, List, [], ◌∷◌, arith, refl, ap, sym, ◌∙◌, subst, inl, inr, Option, Some, None}
use Rattle.std.specs.Int.{int_rem_euclid}
use Rattle.std.specs.Str.{bytes_eq}
use Rattle.std.proofs.Math.Nat.{mul-mod_left}
use Rattle.std.proofs.lemmas.Slice.Eq.{bytes_eq-Decides}
use Rattle.std.specs.Prelude.{MatchOption, unwrap_or}
use Rattle.std.proofs.lemmas.Bool.{cases_order}
use Rattle.std.proofs.lemmas.Int.{ints}
use Rattle.std.proofs.lemmas.List.{append_cancel_left, append_cancel_right}
use Rattle.appender_names.specs.declared.rotation.RotationKind.{RotationKind}
use Rattle.appender_names.specs.declared.rotation.RotationKind.TheVariants.{Minutely, Hourly, Daily, Weekly, Never}
use Rattle.appender_names.specs.DateText.{IsDated, second_of, unit_of, IsDateText, date_text}
use Rattle.appender_names.specs.Name.{Naming, Reads, ReadsAt, IsMark, NamesReadOnce, after_prefix, before_suffix, dated_name, numbered_date, mark_of, unit_start, numbers_of, second_in, number_in, last_named, reading_at}
use Rattle.appender_names.proofs.Marks.{IsWhole, mark_once, place, place_low, unit_low}
use Rattle.std.specs.Option.{option_map}
use Rattle.appender_names.proofs.Clock.{second_is}
use Rattle.appender_names.proofs.Digits.{over, whole_second}

-- what is joined comes apart in one way
pub behind_injective : (p a b : List ℕ) → after_prefix p a ≡ after_prefix p b → a ≡ b
behind_injective [] a b e = e
behind_injective (x ∷ xs) a b e = let same = append_cancel_left (x ∷ xs) (46 ∷ a) (46 ∷ b) e in cc

pub before_injective : (a b s : List ℕ) → before_suffix a s ≡ before_suffix b s → a ≡ b
before_injective a b [] e = e
before_injective a b (x ∷ xs) e = append_cancel_right a b (46 ∷ x ∷ xs) e

whole_is : (kind : RotationKind) (text : List ℕ) (s : ℤ) → IsDateText kind text s → IsWhole kind s
whole_is kind text s d = record { years = d.years; whole = whole_second kind s d.years d.whole }

pub read_whole : (n : Naming) (name : List ℕ) (s : ℤ) (k : ℕ) → ReadsAt n name s k → IsWhole n.rotation.kind s
read_whole n name s k r = record { years = r.dated_second; whole = whole_second n.rotation.kind s r.dated_second r.whole }

-- a name reads as what is in it between prefix and suffix
pub reads_mark : (n : Naming) (name rest mark : List ℕ) (s : ℤ) (k : ℕ) → name ≡ after_prefix n.prefix rest → rest ≡ before_suffix mark n.suffix → IsMark n.rotation.kind n.numbered mark s k → ReadsAt n name s k
reads_mark n name rest mark s k front back d = record {
  dated_second = d.is_date.years;
  whole = d.is_date.whole;
  number_is = d.number_is;
  text = front ∙ ap (after_prefix n.prefix) (back ∙ ap (λ u. before_suffix u n.suffix) (d.text ∙ ap (λ u. numbered_date n.numbered u k) d.is_date.same));
}

pub mark_read : (n : Naming) (name rest mark : List ℕ) (s : ℤ) (k : ℕ) → name ≡ after_prefix n.prefix rest → rest ≡ before_suffix mark n.suffix → ReadsAt n name s k → IsMark n.rotation.kind n.numbered mark s k
mark_read n name rest mark s k front back r =
    let middle = behind_injective n.prefix rest (before_suffix (mark_of n s k) n.suffix) (sym front ∙ r.text) in
    record {
      date = date_text n.rotation.kind s;
      is_date = record { years = r.dated_second; whole = r.whole; same = refl };
      number_is = r.number_is;
      text = before_injective mark (mark_of n s k) n.suffix (sym back ∙ middle);
    }

-- the one second and the one number that a name reads as
pub reads_once : (n : Naming) → NamesReadOnce n
reads_once n name s t j k a b =
    let same = before_injective (mark_of n s j) (mark_of n t k) n.suffix (behind_injective n.prefix (before_suffix (mark_of n s j) n.suffix) (before_suffix (mark_of n t k) n.suffix) (sym a.text ∙ b.text)) in
    mark_once n.numbered n.rotation.kind s t j k (read_whole n name s j a) (read_whole n name t k b) a.number_is b.number_is same

same_key : (s t : ℤ) (j k : ℕ) → ◌≡◌ {A = Option (ℤ × ℕ)} (Some (t, j)) (Some (s, k)) → (t ≡ s) × (j ≡ k)
same_key s t j k e = (ap (λ (o : Option (ℤ × ℕ)). (unwrap_or o (s, k)).0) e, ap (λ (o : Option (ℤ × ℕ)). (unwrap_or o (s, k)).1) e)

pub reads_exactly : (n : Naming) (name rest mark : List ℕ) (r : Option (ℤ × ℕ)) → name ≡ after_prefix n.prefix rest → rest ≡ before_suffix mark n.suffix
    → MatchOption r ((s : ℤ) (k : ℕ) → ¬ (IsMark n.rotation.kind n.numbered mark s k)) (λ key. IsMark n.rotation.kind n.numbered mark key.0 key.1)
    → (s : ℤ) (k : ℕ) → (r ≡ Some (s, k)) ↔ ReadsAt n name s k
reads_exactly n name rest mark None front back miss s k = (λ e. cc, λ w. absurd (miss s k (mark_read n name rest mark s k front back w)))
reads_exactly n name rest mark (Some (t, j)) front back d s k = (
  λ e. (let key = same_key s t j k e in rw (← key.0, ← key.1) (reads_mark n name rest mark t j front back d)),
  λ w. (let same = reads_once n name t s j k (reads_mark n name rest mark t j front back d) w in rw (same.0, same.1) refl),
)

-- the same of what was read with this kind and with or without numbers
pub reads_as : (n : Naming) (name rest mark : List ℕ) (r : Option (ℤ × ℕ)) (kind : RotationKind) (numbered : Bool) → kind ≡ n.rotation.kind → numbered ≡ n.numbered → name ≡ after_prefix n.prefix rest → rest ≡ before_suffix mark n.suffix
    → MatchOption r ((s : ℤ) (k : ℕ) → ¬ (IsMark kind numbered mark s k)) (λ key. IsMark kind numbered mark key.0 key.1)
    → (s : ℤ) (k : ℕ) → (r ≡ Some (s, k)) ↔ ReadsAt n name s k
reads_as n name rest mark r kind numbered e f front back d =
    reads_exactly n name rest mark r front back
    (subst (λ (x : RotationKind). MatchOption r ((s : ℤ) (k : ℕ) → ¬ (IsMark x n.numbered mark s k)) (λ key. IsMark x n.numbered mark key.0 key.1)) e
    (subst (λ (b : Bool). MatchOption r ((s : ℤ) (k : ℕ) → ¬ (IsMark kind b mark s k)) (λ key. IsMark kind b mark key.0 key.1)) f d))

pub reads_none : (n : Naming) (name rest : List ℕ) (r : Option (ℤ × ℕ)) → name ≡ after_prefix n.prefix rest → r ≡ None → ((mark : List ℕ) → rest ≢ before_suffix mark n.suffix)
    → (s : ℤ) (k : ℕ) → (r ≡ Some (s, k)) ↔ ReadsAt n name s k
reads_none n name rest r front e miss s k = (
  λ some. cc,
  λ w. absurd (miss (mark_of n s k) (behind_injective n.prefix rest (before_suffix (mark_of n s k) n.suffix) (sym front ∙ w.text))),
)

-- the second alone
pub seconds_exactly : (n : Naming) (name : List ℕ) (both : Option (ℤ × ℕ)) → ((s : ℤ) (k : ℕ) → (both ≡ Some (s, k)) ↔ ReadsAt n name s k)
    → (s : ℤ) → (option_map (λ (key : ℤ × ℕ). key.0) both ≡ Some s) ↔ Reads n name s
seconds_exactly n name None exact s = (λ e. cc, λ w. (let none : ◌≡◌ {A = Option (ℤ × ℕ)} None (Some (s, w.0)) = (exact s w.0).1 w.1 in cc))
seconds_exactly n name (Some (t, j)) exact s = (
  λ e. (j, (let second : t ≡ s = cc in (exact s j).0 (rw second refl))),
  λ w. (let same : ◌≡◌ {A = Option (ℤ × ℕ)} (Some (t, j)) (Some (s, w.0)) = (exact s w.0).1 w.1 in cc),
)

-- ---- the same as a function

-- each whole unit of those years
record IsUnitStart (k : RotationKind) (i : ℕ) : Type 0 where
  pub years : IsDated (unit_start k i)
  pub second : second_of (unit_start k i) ≡ i * unit_of k
  pub whole : int_rem_euclid (unit_start k i) (pos (unit_of k)) ≡ pos 0

below_end : (k : RotationKind) (i : ℕ) → i < 315569520000 / unit_of k → i * unit_of k < 315569520000
below_end Minutely i low = omega arith
below_end Hourly i low = omega arith
below_end Daily i low = omega arith
below_end Weekly i low = omega arith
below_end Never i low = omega arith

unit_starts : (k : RotationKind) (i : ℕ) → i < 315569520000 / unit_of k → IsUnitStart k i
unit_starts k i low =
    let below = below_end k i low in
    let years : IsDated (unit_start k i) = (omega (arith, ints), omega (arith, ints)) in
    let second : second_of (unit_start k i) ≡ i * unit_of k = (let here = (second_is (unit_start k i) years).0 in omega (arith, ints)) in
    record { years = years; second = second; whole = over k (unit_start k i) years ∙ ap (λ n. pos (n % unit_of k)) second ∙ ap pos (mul-mod_left i (unit_of k)) }

-- and every second that a name can read as is one
record IsUnitNumber (k : RotationKind) (s : ℤ) : Type 0 where
  pub number : ℕ
  pub low : number < 315569520000 / unit_of k
  pub is : unit_start k number ≡ s

unit_number : (k : RotationKind) (s : ℤ) → IsDated s → int_rem_euclid s (pos (unit_of k)) ≡ pos 0 → IsUnitNumber k s
unit_number k s years whole = by k (second_of s) (whole_second k s years whole) (second_is s years)
  where
    by : (k : RotationKind) (n : ℕ) → n % unit_of k ≡ 0 → (s +ℤ pos 62167219200 ≡ pos n) × (n < 315569520000) → IsUnitNumber k s
    by Minutely n e h = record { number = n / 60; low = omega (arith, h.1); is = omega (arith, ints, h.0) }
    by Hourly n e h = record { number = n / 3600; low = omega (arith, h.1); is = omega (arith, ints, h.0) }
    by Daily n e h = record { number = n / 86400; low = omega (arith, h.1); is = omega (arith, ints, h.0) }
    by Weekly n e h = record { number = n / 86400; low = omega (arith, h.1); is = omega (arith, ints, h.0) }
    by Never n e h = record { number = n / 86400; low = omega (arith, h.1); is = omega (arith, ints, h.0) }

abbrev name_in : Naming → ℕ → List ℕ
name_in n i = dated_name n.prefix n.suffix (mark_of n (second_in n i) (number_in n i))

-- what was tried and found
found : (n : Naming) (name : List ℕ) (k : ℕ) (key : ℤ × ℕ) → last_named n name k ≡ Some key → (i : ℕ) × (i < k) × (key ≡ (second_in n i, number_in n i)) × (name ≡ name_in n i)
unfolding last_named
found n name zero key h = absurd (let both : ◌≡◌ {A = Option (ℤ × ℕ)} None (Some key) = h in cc)
found n name (suc k) key h = by (bytes_eq name (name_in n k)) refl h (found n name k key)
  where
    by : (t : Bool) → bytes_eq name (name_in n k) ≡ t → (if t then Some (second_in n k, number_in n k) else last_named n name k) ≡ Some key
        → (last_named n name k ≡ Some key → (i : ℕ) × (i < k) × (key ≡ (second_in n i, number_in n i)) × (name ≡ name_in n i))
        → (i : ℕ) × (i < suc k) × (key ≡ (second_in n i, number_in n i)) × (name ≡ name_in n i)
    by true is some earlier = (k, omega arith, (cc), (bytes_eq-Decides name (name_in n k)).0 is)
    by false is rest earlier = let w = earlier rest in (w.0, omega (arith, w.1), w.2, w.3)

-- what has the name is found
finds : (n : Naming) (name : List ℕ) (k i : ℕ) → i < k → name ≡ name_in n i → (key : ℤ × ℕ) × (last_named n name k ≡ Some key)
unfolding last_named
finds n name zero i low same = absurd (omega arith)
finds n name (suc k) i low same = by (bytes_eq name (name_in n k)) refl (λ lt. finds n name k i lt same)
  where
    by : (t : Bool) → bytes_eq name (name_in n k) ≡ t → (i < k → (key : ℤ × ℕ) × (last_named n name k ≡ Some key))
        → (key : ℤ × ℕ) × ((if t then Some (second_in n k, number_in n k) else last_named n name k) ≡ Some key)
    by true is earlier = ((second_in n k, number_in n k), refl)
    by false is earlier = elim (cases_order i k) [
      | inl e ↦ absurd (let both : false ≡ true = sym is ∙ (bytes_eq-Decides name (name_in n k)).1 (same ∙ ap (name_in n) e) in cc)
      | inr (inl lt) ↦ earlier lt
      | inr (inr gt) ↦ absurd (omega arith)
    ]

-- a name reads as the function says
pub reading_reads : (n : Naming) (name : List ℕ) (key : ℤ × ℕ) → reading_at n name ≡ Some key → ReadsAt n name key.0 key.1
unfolding reading_at
reading_reads n name key h =
    let units = 315569520000 / unit_of n.rotation.kind in
    let w = found n name (units * numbers_of n) key h in
    let low = unit_low n.numbered w.0 units w.1 in
    let at = unit_starts n.rotation.kind (w.0 / numbers_of n) low.0 in
    rw w.2 (record { dated_second = at.years; whole = at.whole; number_is = low.1; text = w.3 })

pair_is : (key : ℤ × ℕ) (s : ℤ) (k : ℕ) → key.0 ≡ s → key.1 ≡ k → key ≡ (s, k)
pair_is key s k e f = rw (← e, ← f) refl

pub reads_reading : (n : Naming) (name : List ℕ) (s : ℤ) (k : ℕ) → ReadsAt n name s k → reading_at n name ≡ Some (s, k)
unfolding reading_at
reads_reading n name s k r =
    let units = 315569520000 / unit_of n.rotation.kind in
    let u = unit_number n.rotation.kind s r.dated_second r.whole in
    let i = u.number * numbers_of n + k in
    let in_place = place n.numbered u.number k r.number_is in
    let second : second_in n i ≡ s = ap (unit_start n.rotation.kind) in_place.0 ∙ u.is in
    let named : name ≡ name_in n i = r.text ∙ rw (second, in_place.1) refl in
    let w = finds n name (units * numbers_of n) i (place_low n.numbered u.number k units u.low r.number_is) named in
    let same = reads_once n name w.0.0 s w.0.1 k (reading_reads n name w.0 w.1) r in
    w.1 ∙ ap Some (pair_is w.0 s k same.0 same.1)

pub reading_is : (n : Naming) (name : List ℕ) (r : Option (ℤ × ℕ)) → ((s : ℤ) (k : ℕ) → (r ≡ Some (s, k)) ↔ ReadsAt n name s k) → r ≡ reading_at n name
reading_is n name (Some (s, k)) exact = sym (reads_reading n name s k ((exact s k).0 refl))
reading_is n name None exact = by (reading_at n name) refl
  where
    by : (o : Option (ℤ × ℕ)) → reading_at n name ≡ o → None ≡ o
    by None e = refl
    by (Some key) e = (exact key.0 key.1).1 (reading_reads n name key e)
