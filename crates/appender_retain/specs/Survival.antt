-- Which names of a folder survive retention.
use Rattle.std.specs.Prelude.{◌≡◌, ◌⊎◌, ℕ, ℤ, ◌<ℤ◌, ◌≤ℤ◌, ◌+◌, ◌≤◌, Bool, true, false, if◌then◌else◌, List, length, filter_map, Option, None, Some, option_and_then}
use Rattle.std.specs.FinMap as fin
use Rattle.appender_names.specs.Name.{Naming, IsLaterName, reading_at}
use Rattle.appender_store.specs.Content.{Content, NameMap, OpensBody, RemovesLink, MakesLink}
use Rattle.appender_store.specs.Folder.{entry_row}
use Rattle.appender_retain.specs.Rank.{LogFiles, key_by_name, Rank, rank_of, rank_survives}

-- the rank of a name, if it is a candidate's; the names of one folder differ, so no place decides
abbrev pub name_rank : LogFiles → NameMap → List ℕ → Option Rank
name_rank log names name = option_and_then (λ e. rank_of log (0, entry_row (name, e))) (fin.get names name)

-- all candidates
abbrev pub name_ranks : LogFiles → NameMap → List Rank
name_ranks log names = filter_map (λ e. rank_of log (0, entry_row e)) (fin.entries names)

-- how many there are
abbrev pub candidates_in : LogFiles → Content → ℕ
candidates_in log c = length (name_ranks log c.names)

-- what has a name survives, by its rank among all candidates
abbrev pub name_survives : LogFiles → ℕ → NameMap → List ℕ → Bool
name_survives log max names name = rank_survives max (name_ranks log names) (name_rank log names name)

-- only names that don't survive were removed, and nothing else changed
pub record RemovesOnlyOld (log : LogFiles) (max : ℕ) (old new : Content) : Type 0 where
  pub there : new.there ≡ old.there
  pub bodies : new.bodies ≡ old.bodies
  pub names : (name : List ℕ) → (fin.get new.names name ≡ fin.get old.names name) ⊎ ((fin.get new.names name ≡ None) × (name_survives log max old.names name ≡ false))

-- exactly the survivors are left
abbrev pub KeepsSurvivors : LogFiles → ℕ → Content → Content → Type 0
KeepsSurvivors log max old new =
    (name : List ℕ) → fin.get new.names name ≡ (if name_survives log max old.names name then fin.get old.names name else None)

-- a file that is opened is at most one candidate more
abbrev pub OpeningsAddOne : LogFiles → Type 0
OpeningsAddOne log = (name : List ℕ) (old new : Content) (b : ℕ) → OpensBody name old new b → candidates_in log new ≤ candidates_in log old + 1

-- neither a link that is made nor one that is removed is a candidate more
pub record LinksAddNone (log : LogFiles) : Type 0 where
  pub made : (link target : List ℕ) (old new : Content) → MakesLink link target old new → candidates_in log new ≤ candidates_in log old
  pub removed : (link : List ℕ) (old new : Content) → RemovesLink link old new → candidates_in log new ≤ candidates_in log old

-- retention removes neither the file that is opened next, nor a later one, nor a file whose name is not that of a log file
pub record NamesAreKept (log : LogFiles) : Type 0 where
  pub opened : (name : List ℕ) → log.opened ≡ Some name → (max : ℕ) (names : NameMap) → name_survives log max names name ≡ true
  pub later : (opened name : List ℕ) (x y : ℤ) → log.opened ≡ Some opened → key_by_name log.naming opened ≡ Some x → key_by_name log.naming name ≡ Some y → x ≤ℤ y
      → (max : ℕ) (names : NameMap) → name_survives log max names name ≡ true
  pub others : (name : List ℕ) → key_by_name log.naming name ≡ None → (max : ℕ) (names : NameMap) → name_survives log max names name ≡ true

-- the same names survive in both
abbrev pub SameSurvive : LogFiles → Content → Content → Type 0
SameSurvive log old new = (max : ℕ) (name : List ℕ) → name_survives log max new.names name ≡ name_survives log max old.names name

-- Neither the file that is opened next, nor a link, changes which names survive. So by name retention removes the same before the opening and
-- after it.
pub record SurvivorsStay (log : LogFiles) : Type 0 where
  pub opened : (name : List ℕ) (old new : Content) (b : ℕ) → log.opened ≡ Some name → OpensBody name old new b → SameSurvive log old new
  pub made : (link target : List ℕ) (old new : Content) → MakesLink link target old new → SameSurvive log old new
  pub removed : (link : List ℕ) (old new : Content) → RemovesLink link old new → SameSurvive log old new

-- a name that reads as a later period has a greater key, and in one period one with a greater number
abbrev pub KeysRise : Naming → Type 0
KeysRise n = (a b : List ℕ) (p q : ℤ) (j k : ℕ) (x y : ℤ) → reading_at n a ≡ Some (p, j) → reading_at n b ≡ Some (q, k)
    → key_by_name n a ≡ Some x → key_by_name n b ≡ Some y → IsLaterName p j q k → x <ℤ y
