-- Removals, one after another.
use Rattle.std.proofs.Common.{◌≡◌, ◌≢◌, ◌∙◌, ◌⊎◌, ℕ, ◌+◌, ◌-◌, ◌^◌, ◌<◌, min, zero, suc, List, [], ◌∷◌, ◌++◌, append-nil, length, get_or, take, drop, Option, Some, IsTrue, OnOk, OnErr, MatchResult, None, refl, sym, ap, subst, arith, inl, inr}
use Rattle.std.specs.List.{Contains, filter_map}
use Rattle.std.specs.FinMap as fin
use Rattle.std.specs.declared.io.Error.{Error}
use Rattle.std.specs.Prelude.{Result, Ok, Err}
use Rattle.std.proofs.lemmas.List.Elements.{Contains-append_left}
use Rattle.appender_store.specs.Content.{Content, IsFile, Removes}
use Rattle.appender_store.specs.Folder.{AreNotedCounts, NotedCounts, NotedRemove, after_note, next_count}
use Rattle.appender_store.specs.NameLaws.{NameLaws}
use Rattle.appender_store.specs.Notes.{Notes}
use Rattle.appender_store.specs.declared.store.Folder.{Ghosts}
use Rattle.appender_store.specs.declared.store.NoticeKind.TheVariants.{Remove as OfRemove}
use Rattle.appender_retain.specs.Inside.Files.{AreFiles}
use Rattle.appender_retain.specs.Pruning.{RemovesFile, RemovesEach}
use Rattle.appender_retain.proofs.Elements.{Contains_later, filter_map_take, filter_map_drop}

-- ---- what removals do to the names

-- nothing changed but that some of these names may be gone
pub record RemovesAmong (gone : List (List ℕ)) (old new : Content) : Type 0 where
  pub there : new.there ≡ old.there
  pub bodies : new.bodies ≡ old.bodies
  pub names : (name : List ℕ) → (fin.get new.names name ≡ fin.get old.names name) ⊎ ((fin.get new.names name ≡ None) × Contains gone name)

-- each of these names is removed
abbrev pub AllRemoved : List (List ℕ) → Content → Type 0
AllRemoved gone c = (name : List ℕ) → Contains gone name → fin.get c.names name ≡ None

-- nothing is removed where nothing changed
among_none : (gone : List (List ℕ)) (old new : Content) → new ≡ old → RemovesAmong gone old new
among_none gone old new same = record {
  there = ap (λ (c : Content). c.there) same;
  bodies = ap (λ (c : Content). c.bodies) same;
  names = λ name. inl (ap (λ (c : Content). fin.get c.names name) same);
}

module _ (maps : NameLaws) (name : List ℕ) (old new : Content) (removes : Removes name old new) where
  -- a name is the one that was removed, or stands as before
  own_or_same : (other : List ℕ) → ((other ≡ name) × (fin.get new.names other ≡ None)) ⊎ ((other ≢ name) × (fin.get new.names other ≡ fin.get old.names other))
  own_or_same other = rw removes.after (maps.removals old.names name other)

  -- one name is removed
  among_one : RemovesAmong (name ∷ []) old new
  among_one = record {
    there = ap (λ (c : Content). c.there) removes.after;
    bodies = ap (λ (c : Content). c.bodies) removes.after;
    names = λ other. elim (own_or_same other) [
      | inl w ↦ inr (w.1, (0, omega arith, sym w.0))
      | inr w ↦ inl w.1
    ];
  }

  module _ (rest : List (List ℕ)) (last : Content) (later : RemovesAmong rest new last) where
    -- so are all where each of those after it was removed too
    all_removed : AllRemoved rest last → AllRemoved (name ∷ rest) last
    all_removed all other (zero, l, is) =
        elim (later.names other) [
          | inl same ↦ same ∙ elim (own_or_same other) [ inl w ↦ w.1 | inr w ↦ absurd (w.0 (sym is)) ]
          | inr w ↦ w.0
        ]
    all_removed all other (suc k, l, is) = all other (k, omega arith, is)

-- one name and those after it
among_more : (name : List ℕ) (rest : List (List ℕ)) (old new last : Content) → RemovesAmong (name ∷ []) old new → RemovesAmong rest new last → RemovesAmong (name ∷ rest) old last
among_more name rest old new last first second = record {
  there = second.there ∙ first.there;
  bodies = second.bodies ∙ first.bodies;
  names = λ other. elim (second.names other) [
    | inr w ↦ inr (w.0, Contains_later name rest other w.1)
    | inl same ↦ elim (first.names other) [
      | inl too ↦ inl (same ∙ too)
      | inr w ↦ inr (same ∙ w.0, Contains-append_left (name ∷ []) rest other w.1)
    ]
  ];
}

-- ---- one removal

-- the file was removed and nothing noted, or it stands and that was noted
abbrev pub FileEffect : {S F : Type 0} → Ghosts S F → List ℕ → S → S → Type 0
FileEffect kind name old new =
    ((kind.noted new ≡ kind.noted old) × (IsTrue kind.is_known → Removes name (kind.content old) (kind.content new)))
    ⊎ ((kind.noted new ≡ after_note OfRemove (kind.noted old)) × (kind.content new ≡ kind.content old))

module _ {S F : Type 0} (kind : Ghosts S F) where
  -- a removal has one of these two effects
  pub file_effect : (name : List ℕ) (old new : S) → RemovesFile kind name old new → FileEffect kind name old new
  file_effect name old new r = by r.answer r.ok r.err r.notes
    where
      by : (answer : Result (Unit {0}) Error) → OnOk answer (IsTrue kind.is_known → Removes name (kind.content old) (kind.content r.after)) → OnErr answer (kind.content r.after ≡ kind.content old) → MatchResult answer (λ _. new ≡ r.after) (λ fault. Notes kind r.after (NotedRemove name fault) new) → FileEffect kind name old new
      by (Ok u) ok err is = inl (ap (λ (s : S). kind.noted s) is ∙ r.noted, λ is_known. rw is (ok is_known))
      by (Err fault) ok err notes = inr (notes.noted ∙ ap (after_note OfRemove) r.noted, notes.content ∙ err)

  -- one removal more
  each_more : (names : List (List ℕ)) (name : List ℕ) (old between new : S) → RemovesEach kind names old between → RemovesFile kind name between new → RemovesEach kind (names ++ name ∷ []) old new
  each_more [] name old between new same file = (new, subst (λ s. RemovesFile kind name s new) same file, refl)
  each_more (first ∷ names) name old between new (after, removes, each) file = (after, removes, each_more names name after between new each file)

-- ---- many removals

-- So far, at the first i of some places, the names were removed, and what is to come are files.
pub record Progress {S F : Type 0} (kind : Ghosts S F) (names : ℕ → Option (List ℕ)) (places : List ℕ) (i : ℕ) (old now : S) : Type 0 where
  pub done : RemovesEach kind (filter_map names (take i places)) old now
  pub rest : IsTrue kind.is_known → AreFiles (kind.content now).names (filter_map names (drop i places))

-- so many failed removals noted; the greatest count stays
abbrev pub with_faults : ℕ → NotedCounts → NotedCounts
with_faults k c = record c { removes = min (c.removes + k) (2 ^ 64 - 1) }

-- one fault more
one_fault_more : (k : ℕ) (c : NotedCounts) → with_faults k (after_note OfRemove c) ≡ with_faults (suc k) c
one_fault_more k c =
    let same : min (next_count c.removes + k) (2 ^ 64 - 1) ≡ min (c.removes + suc k) (2 ^ 64 - 1) = omega arith in
    ap (λ (n : ℕ). record c { removes = n }) same

-- What many removals leave: each that failed was noted once, so where none was noted all succeeded.
pub record Removed {S F : Type 0} (kind : Ghosts S F) (gone : List (List ℕ)) (old new : S) : Type 0 where
  pub faults : ℕ
  pub noted : kind.noted new ≡ with_faults faults (kind.noted old)
  pub among : IsTrue kind.is_known → RemovesAmong gone (kind.content old) (kind.content new)
  pub all : faults ≡ 0 → IsTrue kind.is_known → AllRemoved gone (kind.content new)

module _ (maps : NameLaws) {S F : Type 0} (kind : Ghosts S F) where
  -- the other files stand
  files_after : (name : List ℕ) (rest : List (List ℕ)) (old new : S) → IsTrue kind.is_known → FileEffect kind name old new → AreFiles (kind.content old).names (name ∷ rest) → AreFiles (kind.content new).names rest
  files_after name rest old new is_known effect all = record {
    files = λ other there. stands other there effect (all.files other (Contains_later name rest other there));
    apart = λ i j d before short. all.apart (suc i) (suc j) d (omega arith) (omega arith);
  }
    where
      stands : (other : List ℕ) → Contains rest other → FileEffect kind name old new → IsFile (fin.get (kind.content old).names other) → IsFile (fin.get (kind.content new).names other)
      stands other (k, l, is) (inl (noted, removes)) file =
          elim (own_or_same maps name (kind.content old) (kind.content new) (removes is_known) other) [
            | inl w ↦ absurd (all.apart 0 (suc k) other (omega arith) (omega arith) (sym w.0 ∙ sym is))
            | inr w ↦ rw w.1 file
          ]
      stands other there (inr (noted, same)) file = rw same file

  module _ (names : ℕ → Option (List ℕ)) (places : List ℕ) (i : ℕ) (old now : S) (short : i < length places) (before : Progress kind names places i old now) where
    -- one place more whose name was removed
    pub one_removed : (name : List ℕ) (new : S) → Some name ≡ names (get_or places i 0) → RemovesFile kind name now new → Progress kind names places (i + 1) old new
    one_removed name new is file = record {
      done = rw (filter_map_take names places i 0, ← is) (each_more kind (filter_map names (take i places)) name old now new before.done file);
      rest = λ is_known. files_after name (filter_map names (drop (i + 1) places)) now new is_known (file_effect kind name now new file) (rw (filter_map_drop names places i 0, ← is) at (before.rest is_known));
    }

    -- one place more without a name
    pub none_removed : None ≡ names (get_or places i 0) → Progress kind names places (i + 1) old now
    none_removed is = record {
      done = rw (filter_map_take names places i 0, ← is, append-nil) before.done;
      rest = λ is_known. rw (filter_map_drop names places i 0, ← is) at (before.rest is_known);
    }

  -- removals leave just that
  pub removed : ((s : S) → AreNotedCounts (kind.noted s)) → (gone : List (List ℕ)) (old new : S) → RemovesEach kind gone old new → Removed kind gone old new
  removed fit [] old new same =
      let none : (kind.noted old).removes ≡ min ((kind.noted old).removes + 0) (2 ^ 64 - 1) = omega (arith, (fit old).removes) in
      record {
        faults = 0;
        noted = ap (λ (s : S). kind.noted s) same ∙ ap (λ (n : ℕ). record (kind.noted old) { removes = n }) none;
        among = λ is_known. among_none [] (kind.content old) (kind.content new) (ap (λ (s : S). kind.content s) same);
        all = λ z is_known name there. absurd (omega arith);
      }
  removed fit (name ∷ rest) old new (between, file, each) =
      by (file_effect kind name old between file) (removed fit rest between new each)
    where
      more : RemovesAmong (name ∷ []) (kind.content old) (kind.content between) → RemovesAmong rest (kind.content between) (kind.content new) → RemovesAmong (name ∷ rest) (kind.content old) (kind.content new)
      more = among_more name rest (kind.content old) (kind.content between) (kind.content new)

      by : FileEffect kind name old between → Removed kind rest between new → Removed kind (name ∷ rest) old new
      by (inl (counts, removes)) later = record {
        faults = later.faults;
        noted = later.noted ∙ ap (with_faults later.faults) counts;
        among = λ is_known. more (among_one maps name (kind.content old) (kind.content between) (removes is_known)) (later.among is_known);
        all = λ z is_known. all_removed maps name (kind.content old) (kind.content between) (removes is_known) rest (kind.content new) (later.among is_known) (later.all z is_known);
      }
      by (inr (counts, same)) later = record {
        faults = suc later.faults;
        noted = later.noted ∙ ap (with_faults later.faults) counts ∙ one_fault_more later.faults (kind.noted old);
        among = λ is_known. more (among_none (name ∷ []) (kind.content old) (kind.content between) same) (later.among is_known);
        all = λ z is_known. absurd (omega arith);
      }
