-- Log files that are known by their names.
use Rattle.std.proofs.Common.{◌≡◌, ◌∙◌, ◌||◌, ◌&&◌, ℕ, ◌≤◌, ◌<◌, ℤ, pos, negsuc, ◌+ℤ◌, ◌*ℤ◌, ◌<ℤ◌, Bool, true, false, if◌then◌else◌, List, Option, None, Some, refl, sym, ap, subst, arith, inl, inr}
use Rattle.std.specs.Prelude.{◌==◌, ◌≤ℤ◌, int_lt}
use Rattle.std.specs.Option.{option_map, option_and_then}
use Rattle.std.specs.FinMap as fin
use Rattle.std.proofs.lemmas.Int.{ints}
use Rattle.appender_names.specs.Name.{Naming, IsLaterName, greatest_number, reading, reading_at}
use Rattle.appender_names.specs.Rotation.{is_moment, is_same_start, period_of}
use Rattle.appender_names.proofs.Reading.{reading_reads}
use Rattle.appender_store.specs.Content.{Entry, NameMap, File, Link, Folder}
use Rattle.appender_store.specs.Folder.{entry_row}
use Rattle.appender_retain.specs.Rank.{LogFiles, key_by_name, opened_key, candidate_key, rank_of}
use Rattle.appender_retain.specs.Survival.{NamesAreKept, KeysRise, name_survives}

-- what is read without numbers has the number 0
pub read_unnumbered : (n : Naming) (name : List ℕ) (s : ℤ) → n.numbered ≡ false → reading n name ≡ Some s → reading_at n name ≡ Some (s, 0)
read_unnumbered n name s plain h = by (reading_at n name) refl h
  where
    by : (o : Option (ℤ × ℕ)) → reading_at n name ≡ o → option_map (λ (key : ℤ × ℕ). key.0) o ≡ Some s → o ≡ Some (s, 0)
    by None e none = absurd (let nothing : None ≡ Some s = none in cc)
    by (Some key) e is =
        let second : Some key.0 ≡ Some s = is in
        let bound : key.1 ≤ 0 = subst (λ (b : Bool). key.1 ≤ greatest_number b) plain (reading_reads n name key e).number_is in
        let number : key.1 ≡ 0 = omega arith in
        let same : key.0 ≡ s = (cc) in
        rw (← same, ← number) refl

-- what has no key survives
keyless_survives : (log : LogFiles) (name : List ℕ) → ((created : Option ℤ) → candidate_key log name created ≡ None) → (max : ℕ) (names : NameMap) → name_survives log max names name ≡ true
keyless_survives log name keyless max names = rw (no_rank (fin.get names name)) (either (max == 0))
  where
    either : (b : Bool) → (b || true) ≡ true
    either true = refl
    either false = refl

    no_rank : (o : Option Entry) → option_and_then (λ (e : Entry). rank_of log (0, entry_row (name, e))) o ≡ None
    no_rank None = refl
    no_rank (Some (File b t)) = ap (λ (k : Option ℤ). option_map (λ (key : ℤ). (key, name, 0)) k) (keyless t)
    no_rank (Some (Link target)) = refl
    no_rank (Some Folder) = refl

-- a number is not below one that it reaches
not_below : (x y : ℤ) → x ≤ℤ y → int_lt y x ≡ false
not_below x y reaches = by (int_lt y x) refl
  where
    by : (t : Bool) → int_lt y x ≡ t → t ≡ false
    by true e = absurd (omega (arith, ints, reaches, e))
    by false e = refl

-- by name a file from the one that is opened next on has no key
late_keyless : (log : LogFiles) (opened name : List ℕ) (x y : ℤ) → log.by_name ≡ true → log.opened ≡ Some opened → key_by_name log.naming opened ≡ Some x → key_by_name log.naming name ≡ Some y → x ≤ℤ y → (created : Option ℤ) → candidate_key log name created ≡ None
late_keyless log opened name x y by_name is key_opened key reaches created =
    let own : opened_key log ≡ Some x = ap (option_and_then (key_by_name log.naming)) is ∙ key_opened in
    rw (by_name, key, own, not_below x y reaches) refl

-- by name the file that is opened next has no key
pub opened_keyless : (log : LogFiles) (name : List ℕ) → log.by_name ≡ true → log.opened ≡ Some name → (created : Option ℤ) → candidate_key log name created ≡ None
opened_keyless log name by_name is created = by (key_by_name log.naming name) refl
  where
    itself : (x : ℤ) → x ≤ℤ x
    itself x = omega (arith, ints)

    by : (o : Option ℤ) → key_by_name log.naming name ≡ o → candidate_key log name created ≡ None
    by None e = rw (by_name, e) refl
    by (Some x) e = late_keyless log name name x x by_name is e e (itself x) created

pub spared : (log : LogFiles) → log.by_name ≡ true → NamesAreKept log
spared log by_name = record {
  opened = λ name is. keyless_survives log name (opened_keyless log name by_name is);
  later = λ opened name x y is key_opened key reaches. keyless_survives log name (late_keyless log opened name x y by_name is key_opened key reaches);
  others = λ name none. keyless_survives log name (λ created. rw (by_name, none) refl);
}

-- the key of a name that reads as this period and number
key_is : (n : Naming) (name : List ℕ) (p : ℤ) (k : ℕ) (x : ℤ) → reading_at n name ≡ Some (p, k) → key_by_name n name ≡ Some x → (x ≡ ((p *ℤ pos 1000000) +ℤ pos k)) × (k ≤ 999999)
key_is n name p k x read key = (by (is_moment p && is_same_start (period_of n.rotation p) (Some p)) (ap (option_and_then (λ (r : ℤ × ℕ). if is_moment r.0 && is_same_start (period_of n.rotation r.0) (Some r.0) then Some ((r.0 *ℤ pos 1000000) +ℤ pos r.1) else None)) (sym read) ∙ key), bound n.numbered (reading_reads n name (p, k) read).number_is)
  where
    by : (b : Bool) → (if b then Some ((p *ℤ pos 1000000) +ℤ pos k) else None) ≡ Some x → x ≡ ((p *ℤ pos 1000000) +ℤ pos k)
    by true is = let some : Some ((p *ℤ pos 1000000) +ℤ pos k) ≡ Some x = is in cc
    by false none = absurd (let nothing : None ≡ Some x = none in cc)

    bound : (b : Bool) → k ≤ greatest_number b → k ≤ 999999
    bound true h = h
    bound false h = omega arith

-- a greater period outweighs all numbers
outweighs : (p q : ℤ) (j k : ℕ) → p <ℤ q → j ≤ 999999 → ((p *ℤ pos 1000000) +ℤ pos j) <ℤ ((q *ℤ pos 1000000) +ℤ pos k)
outweighs (pos a) (pos b) j k less bound = omega (arith, ints, less, bound)
outweighs (pos a) (negsuc b) j k less bound = absurd (omega (arith, ints, less))
outweighs (negsuc a) (pos b) j k less bound = omega (arith, ints, less, bound)
outweighs (negsuc a) (negsuc b) j k less bound = omega (arith, ints, less, bound)

adds_on : (p : ℤ) (j k : ℕ) → j < k → (p +ℤ pos j) <ℤ (p +ℤ pos k)
adds_on p j k less = omega (arith, ints, less)

pub keys_rise : (n : Naming) → KeysRise n
keys_rise n a b p q j k x y read_a read_b key_a key_b later = by later (key_is n a p j x read_a key_a) (key_is n b q k y read_b key_b)
  where
    by : IsLaterName p j q k → (x ≡ ((p *ℤ pos 1000000) +ℤ pos j)) × (j ≤ 999999) → (y ≡ ((q *ℤ pos 1000000) +ℤ pos k)) × (k ≤ 999999) → x <ℤ y
    by (inl less) is_x is_y = rw (is_x.0, is_y.0) (outweighs p q j k less is_x.1)
    by (inr (same, less)) is_x is_y = rw (is_x.0, is_y.0, same) (adds_on (q *ℤ pos 1000000) j k less)
