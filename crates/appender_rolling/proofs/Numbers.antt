-- The number of the first file: of a listing, and so of the folder's names.
use Rattle.std.proofs.Common.{◌≡◌, ◌∙◌, ◌⊎◌, ◌&&◌, inl, inr, ℕ, zero, suc, ◌+◌, ◌<◌, ◌≤◌, ℤ, Bool, true, false, if◌then◌else◌, List, [], ◌∷◌, map, Option, None, Some, refl, sym, ap, subst, arith, lit≤}
use Rattle.std.specs.Prelude.{nat_lt, min, max, unwrap_or}
use Rattle.std.specs.FinMap as fin
use Rattle.std.specs.Option.{option_and_then, option_map_or}
use Rattle.std.specs.Cmp.Lexicographic.{nat_list_cmp_total}
use Rattle.std.proofs.lemmas.Bool.{cases_lt}
use Rattle.std.proofs.lemmas.Bool.Decides.{nat_tests}
use Rattle.std.proofs.lemmas.Int.{ints}
use Rattle.std.proofs.lemmas.List.Sorted.{Contains-permutation, IsPermutation-sym}
use Rattle.std.proofs.lemmas.Map.Lookups.{exact_bytes}
use Rattle.appender_names.specs.Rotation.{IsMoment, period_of, is_same_start, is_in_period}
use Rattle.appender_names.specs.Archive.{before_ending}
use Rattle.appender_names.specs.Name.{Naming, ReadsAt, reading_at, greatest_number}
use Rattle.appender_names.proofs.Periods.{is_same_is, is_same_to, has_start, same_period, step_is}
use Rattle.appender_names.proofs.Reading.{reading_reads, reads_reading}
use Rattle.appender_store.specs.Content.{Content}
use Rattle.appender_store.specs.Folder.{Row, Lists, listed_row, entry_row}
use Rattle.appender_store.specs.declared.store.Kind.{Kind}
use Rattle.appender_store.specs.declared.store.Kind.TheVariants.{File as ListedFile, Folder as ListedFolder, Link as ListedLink, Other as ListedOther}
use Rattle.appender_store.specs.declared.store.Listed.{Listed}
use Rattle.appender_retain.proofs.Elements.{Contains_later, Contains_map, map_Contains}
use Rattle.appender_retain.proofs.Entries.{entry_there, there_entry}
use Rattle.appender_retain.proofs.Listing.{row_name}
use Rattle.appender_rolling.specs.Config.{Config, naming_of}
use Rattle.appender_rolling.specs.Opening.{IsLastFile, IsNextNumber, IsTaken, IsFirstNumber, IsListed, HasEntry}
use Rattle.appender_rolling.specs.Inside.Numbers.{is_plain, continues_at, number_after, number_after_row, number_after_archive, number_after_listed, first_number}

some_is : {X : Type 0} (x y : X) → ◌≡◌ {A = Option X} (Some x) (Some y) → x ≡ y
some_is x y e = ap (λ (o : Option _). unwrap_or o x) e

last_low : (b : Bool) → greatest_number b ≤ 999999
last_low false = lit≤ tt
last_low true = lit≤ tt

both_true : (a b : Bool) → (a && b) ≡ true → (a ≡ true) × (b ≡ true)
both_true true b e = (refl, e)
both_true false b e = absurd (let both : false ≡ true = e in cc)

plain_is : (kind : Kind) → is_plain kind ≡ true → kind ≡ ListedFile
plain_is ListedFile e = refl
plain_is ListedFolder e = absurd (let both : false ≡ true = e in cc)
plain_is ListedLink e = absurd (let both : false ≡ true = e in cc)
plain_is ListedOther e = absurd (let both : false ≡ true = e in cc)

module _ (c : Config) (m : ℤ) (moment : IsMoment m) where
  abbrev n : Naming
  n = naming_of c

  -- the start of a moment's period is in it
  own_period : (p : ℤ) → period_of c.rotation m ≡ Some p → period_of c.rotation p ≡ period_of c.rotation m
  own_period p e =
      let rotates = has_start c.rotation m p e in
      let step = step_is c.rotation.kind rotates in
      same_period c.rotation m p p rotates moment e (omega (arith, ints)) (omega (arith, ints, step.some)) ∙ sym e

  -- whether an entry is continued, by what its name reads as
  abbrev test : ℤ × ℕ → Kind → Bool
  test key kind = c.continues && continues_at c.rotation m key.0 kind

  is_continued : (name : List ℕ) (kind : Kind) (key : ℤ × ℕ) → ReadsAt n name key.0 key.1 → test key kind ≡ true → IsLastFile c m name kind
  is_continued name kind key reads e =
      let (on, at) = both_true c.continues (continues_at c.rotation m key.0 kind) e in
      let (plain, start) = both_true (is_plain kind) (is_same_start (period_of c.rotation m) (Some key.0)) at in
      record { continues = on; plain = plain_is kind plain; own = (key.0, is_same_to (period_of c.rotation m) (Some key.0) start, (key.1, reads)) }

  continued_is : (name : List ℕ) (kind : Kind) (key : ℤ × ℕ) → reading_at n name ≡ Some key → IsLastFile c m name kind → test key kind ≡ true
  continued_is name kind key e is =
      let (start, begins, (k, reads)) = is.own in
      let same : key ≡ (start, k) = some_is key (start, k) (sym e ∙ reads_reading n name start k reads) in
      rw (is.continues, is.plain, ap (λ (x : ℤ × ℕ). x.0) same, begins) (is_same_is (Some start))

  -- among entries that are the same
  moved : (P Q : List ℕ → Kind → Type 0) (number : ℕ) → ((name : List ℕ) (kind : Kind) → P name kind → Q name kind) → ((name : List ℕ) (kind : Kind) → Q name kind → P name kind) → IsNextNumber c m P number → IsNextNumber c m Q number
  moved P Q number to from is = record {
    at_most = is.at_most;
    above = λ name kind k there. is.above name kind k (from name kind there);
    least = elim is.least [
      | inl none ↦ inl none
      | inr (name, kind, k, there, has, next) ↦ inr (name, kind, k, to name kind there, has, next)
    ];
  }

  abbrev InRow : Row → List ℕ → Kind → Type 0
  InRow row name kind = (row.0 ≡ Some name) × (row.1 ≡ kind)

  -- of one listed name
  of_row : (row : Row) → IsNextNumber c m (InRow row) (number_after_row n c.continues m row)
  of_row (None, kind, created) = record {
    at_most = lit≤ tt;
    above = λ name other k there. absurd (let both : ◌≡◌ {A = Option (List ℕ)} None (Some name) = there.0 in cc);
    least = inl refl;
  }
  of_row (Some name, kind, created) = by (reading_at n name) refl
    where
      -- what reads so has this key
      same_key : (key : ℤ × ℕ) → reading_at n name ≡ Some key → (other : List ℕ) (k : ℕ) (s : ℤ) → ◌≡◌ {A = Option (List ℕ)} (Some name) (Some other) → ReadsAt n other s k → key ≡ (s, k)
      same_key key e other k s there reads =
          some_is key (s, k) (sym e ∙ reads_reading n name s k (subst (λ (x : List ℕ). ReadsAt n x s k) (sym (some_is name other there)) reads))

      -- one that is not continued
      within : (key : ℤ × ℕ) → reading_at n name ≡ Some key → test key kind ≡ false → (t u : Bool) → is_in_period n.rotation m key.0 ≡ t → nat_lt key.1 999999 ≡ u
          → IsNextNumber c m (InRow (Some name, kind, created)) (if t then (if u then key.1 + 1 else 999999) else 0)
      within key e anew false u in_period below = record {
        at_most = lit≤ tt;
        above = λ other which k there has.
            let same = same_key key e other k has.0 there.0 has.1 in
            let period : period_of n.rotation key.0 ≡ period_of n.rotation m = ap (λ (x : ℤ × ℕ). period_of n.rotation x.0) same ∙ has.2 in
            absurd (let both : false ≡ true = sym in_period ∙ ap (λ p. is_same_start p (period_of n.rotation m)) period ∙ is_same_is (period_of n.rotation m) in cc);
        least = inl refl;
      }
      within key e anew true true in_period below =
          let low : key.1 < 999999 = grind (arith, nat_tests) in
          record {
            at_most = omega (arith, low);
            above = λ other which k there has. inl (let same = ap (λ (x : ℤ × ℕ). x.1) (same_key key e other k has.0 there.0 has.1) in omega (arith, same));
            least = inr (
              name,
              kind,
              key.1,
              (refl, refl),
              (key.0, reading_reads n name key e, is_same_to (period_of n.rotation key.0) (period_of n.rotation m) in_period),
              inl (refl, λ is. absurd (let both : false ≡ true = sym anew ∙ continued_is name kind key e is in cc)),
            );
          }
      within key e anew true false in_period below =
          let reads = reading_reads n name key e in
          let high : 999999 ≤ key.1 = grind (arith, nat_tests) in
          record {
            at_most = lit≤ tt;
            above = λ other which k there has. inr (inl refl);
            least = inr (name, kind, key.1, (refl, refl), (key.0, reads, is_same_to (period_of n.rotation key.0) (period_of n.rotation m) in_period), inr (inl (omega (arith, high, reads.number_is, last_low n.numbered), refl)));
          }

      -- one that is continued
      itself : (key : ℤ × ℕ) → reading_at n name ≡ Some key → test key kind ≡ true → IsNextNumber c m (InRow (Some name, kind, created)) (min key.1 999999)
      itself key e on =
          let reads = reading_reads n name key e in
          let same_number : min key.1 999999 ≡ key.1 = omega (arith, reads.number_is, last_low n.numbered) in
          let is = is_continued name kind key reads on in
          let start = (both_true (is_plain kind) (is_same_start (period_of c.rotation m) (Some key.0)) (both_true c.continues (continues_at c.rotation m key.0 kind) on).1).1 in
          rw same_number (record {
            at_most = omega (arith, reads.number_is, last_low n.numbered);
            above = λ other which k there has.
                let number : key.1 ≡ k = ap (λ (x : ℤ × ℕ). x.1) (same_key key e other k has.0 there.0 has.1) in
                inr (inr (sym number, subst (λ (x : List ℕ). IsLastFile c m x which) (some_is name other there.0) (subst (λ (x : Kind). IsLastFile c m name x) there.1 is)));
            least = inr (name, kind, key.1, (refl, refl), (key.0, reads, own_period key.0 (is_same_to (period_of c.rotation m) (Some key.0) start)), inr (inr (refl, is)));
          })

      with_key : (key : ℤ × ℕ) → reading_at n name ≡ Some key → (t : Bool) → test key kind ≡ t → IsNextNumber c m (InRow (Some name, kind, created)) (if t then min key.1 999999 else number_after n.rotation m key)
      with_key key e true on = itself key e on
      with_key key e false anew = within key e anew (is_in_period n.rotation m key.0) (nat_lt key.1 999999) refl refl

      by : (o : Option (ℤ × ℕ)) → reading_at n name ≡ o → IsNextNumber c m (InRow (Some name, kind, created)) (number_after_row n c.continues m (Some name, kind, created))
      by None e = rw e (record {
        at_most = lit≤ tt;
        above = λ other which k there has.
            let reads = subst (λ (x : List ℕ). ReadsAt n x has.0 k) (sym (some_is name other there.0)) has.1 in
            absurd (let both : ◌≡◌ {A = Option (ℤ × ℕ)} None (Some (has.0, k)) = sym e ∙ reads_reading n name has.0 k reads in cc);
        least = inl refl;
      })
      by (Some key) e = rw e (with_key key e (test key kind) refl)

  -- of entries of two kinds it is the greater of theirs
  joined : (P Q : List ℕ → Kind → Type 0) (a b : ℕ) → IsNextNumber c m P a → IsNextNumber c m Q b → IsNextNumber c m (λ name kind. P name kind ⊎ Q name kind) (max a b)
  joined P Q a b first second = by (nat_lt a b) refl
    where
      by : (t : Bool) → nat_lt a b ≡ t → IsNextNumber c m (λ name kind. P name kind ⊎ Q name kind) (max a b)
      by true e =
          let less : a < b = grind (arith, nat_tests) in
          let greatest : max a b ≡ b = omega (arith, less) in
          rw greatest (record {
            at_most = second.at_most;
            above = λ name kind k there has. elim there [
              | inl p ↦ elim (first.above name kind k p has) [
                | inl lt ↦ inl (omega (arith, lt, less))
                | inr (inl full) ↦ absurd (omega (arith, full, less, second.at_most))
                | inr (inr (is, on)) ↦ inl (omega (arith, is, less))
              ]
              | inr q ↦ second.above name kind k q has
            ];
            least = elim second.least [
              | inl none ↦ absurd (omega (arith, less, none))
              | inr (name, kind, k, there, has, next) ↦ inr (name, kind, k, inr there, has, next)
            ];
          })
      by false e =
          let less : b ≤ a = grind (arith, nat_tests) in
          let greatest : max a b ≡ a = omega (arith, less) in
          rw greatest (record {
            at_most = first.at_most;
            above = λ name kind k there has. elim there [
              | inl p ↦ first.above name kind k p has
              | inr q ↦ elim (second.above name kind k q has) [
                | inl lt ↦ inl (omega (arith, lt, less))
                | inr (inl full) ↦ inr (inl (omega (arith, full, less, first.at_most)))
                | inr (inr (is, on)) ↦ elim (cases_lt k a) [
                  | inl lt ↦ inl lt
                  | inr back ↦ inr (inr (omega (arith, is, less, back), on))
                ]
              ]
            ];
            least = elim first.least [
              | inl none ↦ inl none
              | inr (name, kind, k, there, has, next) ↦ inr (name, kind, k, inl there, has, next)
            ];
          })

  -- an archive of this name is listed
  abbrev Archived : Row → List ℕ → Kind → Type 0
  Archived row name kind = (archive : List ℕ) × (kind ≡ ListedOther) × (row.0 ≡ Some archive) × (before_ending archive ≡ Some name)

  -- the names that a row takes, if archives count
  abbrev InTaken : Bool → Row → List ℕ → Kind → Type 0
  InTaken by_name row name kind = InRow row name kind ⊎ ((by_name ≡ true) × Archived row name kind)

  -- of one listed archive
  of_archive : (row : Row) → IsNextNumber c m (Archived row) (number_after_archive n m row)
  of_archive (None, kind, created) = record {
    at_most = lit≤ tt;
    above = λ name other k (archive, is, named, ends) has. absurd (let both : ◌≡◌ {A = Option (List ℕ)} None (Some archive) = named in cc);
    least = inl refl;
  }
  of_archive (Some full, kind, created) = by (before_ending full) refl
    where
      -- what is no plain file is not continued
      anew : (t : Bool) (o : Option (ℤ × ℕ)) → option_map_or (λ (key : ℤ × ℕ). if t && false then min key.1 999999 else number_after n.rotation m key) o 0 ≡ option_map_or (number_after n.rotation m) o 0
      anew true o = refl
      anew false o = refl

      by : (o : Option (List ℕ)) → before_ending full ≡ o → IsNextNumber c m (Archived (Some full, kind, created)) (option_map_or (number_after n.rotation m) (option_and_then (reading_at n) o) 0)
      by None e = record {
        at_most = lit≤ tt;
        above = λ name other k (archive, is, named, ends) has.
            absurd (let both : ◌≡◌ {A = Option (List ℕ)} None (Some name) = sym e ∙ ap before_ending (some_is full archive named) ∙ ends in cc);
        least = inl refl;
      }
      by (Some base) e =
          moved (InRow (Some base, ListedOther, None)) (Archived (Some full, kind, created)) (option_map_or (number_after n.rotation m) (reading_at n base) 0)
          (λ name other (named, is). (full, sym is, refl, e ∙ named))
          (λ name other (archive, is, named, ends). (sym e ∙ ap before_ending (some_is full archive named) ∙ ends, sym is))
          (subst (IsNextNumber c m (InRow (Some base, ListedOther, None))) (anew c.continues (reading_at n base)) (of_row (Some base, ListedOther, None)))

  -- of one row
  of_listed : (row : Row) → IsNextNumber c m (InTaken c.by_name row) (number_after_listed n c.by_name c.continues m row)
  of_listed row = by c.by_name
    where
      by : (t : Bool) → IsNextNumber c m (InTaken t row) (number_after_listed n t c.continues m row)
      by true =
          moved (λ name kind. InRow row name kind ⊎ Archived row name kind) (InTaken true row) (max (number_after_row n c.continues m row) (number_after_archive n m row))
          (λ name kind there. elim there [ inl own ↦ inl own | inr archive ↦ inr (refl, archive) ])
          (λ name kind there. elim there [ inl own ↦ inl own | inr archive ↦ inr archive.1 ])
          (joined (InRow row) (Archived row) (number_after_row n c.continues m row) (number_after_archive n m row) (of_row row) (of_archive row))
      by false =
          moved (InRow row) (InTaken false row) (number_after_row n c.continues m row) (λ name kind own. inl own)
          (λ name kind there. elim there [ inl own ↦ own | inr archive ↦ absurd (let both : false ≡ true = archive.0 in cc) ])
          (of_row row)

  -- of a listing
  pub of_listing : (rows : List Row) → IsFirstNumber c m (IsListed rows) (first_number n c.by_name c.continues m rows)
  of_listing [] = record {
    at_most = lit≤ tt;
    above = λ name kind k there has. absurd (none there);
    least = inl refl;
  }
    where
      nothing : (name : List ℕ) (kind : Kind) → IsListed [] name kind → ⊥
      nothing name kind there = let low = there.1.1 in omega (arith, low)

      none : {name : List ℕ} {kind : Kind} → IsTaken c (IsListed []) name kind → ⊥
      none {name} {kind} (inl there) = nothing name kind there
      none (inr (archive, its, on, is, there, ends)) = nothing archive its there
  of_listing (row ∷ rows) =
      moved (λ name kind. InTaken c.by_name row name kind ⊎ IsTaken c (IsListed rows) name kind) (IsTaken c (IsListed (row ∷ rows))) (first_number n c.by_name c.continues m (row ∷ rows)) to from
      (joined (InTaken c.by_name row) (IsTaken c (IsListed rows)) (number_after_listed n c.by_name c.continues m row) (first_number n c.by_name c.continues m rows) (of_listed row) (of_listing rows))
    where
      first : (name : List ℕ) (kind : Kind) → InRow row name kind → IsListed (row ∷ rows) name kind
      first name kind is = (row, (0, omega arith, refl), is.0, is.1)

      later : (name : List ℕ) (kind : Kind) → IsListed rows name kind → IsListed (row ∷ rows) name kind
      later name kind (other, there, named, which) = (other, Contains_later row rows other there, named, which)

      either : (name : List ℕ) (kind : Kind) → IsListed (row ∷ rows) name kind → InRow row name kind ⊎ IsListed rows name kind
      either name kind (other, (zero, low, at), named, which) = inl (ap (λ (r : Row). r.0) at ∙ named, ap (λ (r : Row). r.1) at ∙ which)
      either name kind (other, (suc k, low, at), named, which) = inr (other, (k, omega arith, at), named, which)

      to : (name : List ℕ) (kind : Kind) → InTaken c.by_name row name kind ⊎ IsTaken c (IsListed rows) name kind → IsTaken c (IsListed (row ∷ rows)) name kind
      to name kind (inl (inl is)) = inl (first name kind is)
      to name kind (inl (inr (on, (archive, is, named, ends)))) = inr (archive, row.1, on, is, first archive row.1 (named, refl), ends)
      to name kind (inr (inl there)) = inl (later name kind there)
      to name kind (inr (inr (archive, its, on, is, there, ends))) = inr (archive, its, on, is, later archive its there, ends)

      from : (name : List ℕ) (kind : Kind) → IsTaken c (IsListed (row ∷ rows)) name kind → InTaken c.by_name row name kind ⊎ IsTaken c (IsListed rows) name kind
      from name kind (inl there) = elim (either name kind there) [
        | inl is ↦ inl (inl is)
        | inr more ↦ inr (inl more)
      ]
      from name kind (inr (archive, its, on, is, there, ends)) = elim (either archive its there) [
        | inl own ↦ inl (inr (on, (archive, is, own.0, ends)))
        | inr more ↦ inr (inr (archive, its, on, is, more, ends))
      ]

  -- and so of what the folder holds
  pub of_content : (d : Content) (all : List Listed) (number : ℕ) → Lists d all → IsFirstNumber c m (IsListed (map listed_row all)) number → IsFirstNumber c m (HasEntry d) number
  of_content d all number lists = moved (IsTaken c (IsListed (map listed_row all))) (IsTaken c (HasEntry d)) number (taken (IsListed (map listed_row all)) (HasEntry d) to) (taken (HasEntry d) (IsListed (map listed_row all)) from)
    where
      taken : (P Q : List ℕ → Kind → Type 0) → ((name : List ℕ) (kind : Kind) → P name kind → Q name kind) → (name : List ℕ) (kind : Kind) → IsTaken c P name kind → IsTaken c Q name kind
      taken P Q into name kind (inl there) = inl (into name kind there)
      taken P Q into name kind (inr (archive, its, on, is, there, ends)) = inr (archive, its, on, is, into archive its there, ends)

      to : (name : List ℕ) (kind : Kind) → IsListed (map listed_row all) name kind → HasEntry d name kind
      to name kind (row, there, named, is_kind) =
          let w = map_Contains entry_row (fin.entries d.names) row (Contains-permutation (map listed_row all) (map entry_row (fin.entries d.names)) row lists there) in
          let same : w.0.0 ≡ name = some_is w.0.0 name (sym (row_name w.0) ∙ ap (λ (r : Row). r.0) w.2 ∙ named) in
          let which : (entry_row w.0).1 ≡ kind = ap (λ (r : Row). r.1) w.2 ∙ is_kind in
          (w.0.1, subst (λ (x : List ℕ). fin.get d.names x ≡ Some w.0.1) same (entry_there nat_list_cmp_total d.names w.0 w.1), subst (λ (x : List ℕ). (entry_row (x, w.0.1)).1 ≡ kind) same which)

      from : (name : List ℕ) (kind : Kind) → HasEntry d name kind → IsListed (map listed_row all) name kind
      from name kind (e, at, which) = (
        entry_row (name, e),
        Contains-permutation (map entry_row (fin.entries d.names)) (map listed_row all) (entry_row (name, e)) (IsPermutation-sym (map listed_row all) (map entry_row (fin.entries d.names)) lists)
            (Contains_map entry_row (fin.entries d.names) (name, e) (there_entry exact_bytes d.names name e at)),
        row_name (name, e),
        which,
      )
