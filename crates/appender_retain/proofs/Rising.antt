-- Retention lowers no count.
use Rattle.std.proofs.Common.{ℕ, ◌^◌, ◌<◌, zero, suc, List, [], ◌∷◌, map, filter_map, Result, Ok, Err, MatchResult, Vec, arith, refl, inl, inr}
use Rattle.std.specs.declared.alloc.Global.{Global}
use Rattle.std.specs.declared.io.Error.{Error}
use Rattle.appender_store.specs.Content.{ForbidsList}
use Rattle.appender_store.specs.Folder.{AreNotedCounts, Row, NotedList, NotedRemove, listed_row}
use Rattle.appender_store.specs.Notes.{CountsRise, Notes}
use Rattle.appender_store.specs.declared.store.Folder.{Ghosts}
use Rattle.appender_store.specs.declared.store.Listed.{Listed}
use Rattle.appender_store.proofs.Rising.{same_rises, rises_on, call_rises, note_rises, fault_rises}
use Rattle.appender_retain.specs.Rank.{LogFiles}
use Rattle.appender_retain.specs.Pruning.{Prunes, PrunesListed, RemovesEach, RemovesFile, RemovesPlanned, listed_name_at}

module _ {S F : Type 0} (kind : Ghosts S F) (failures_fit : (s : S) → kind.failures s < 2 ^ 64) (noted_fit : (s : S) → AreNotedCounts (kind.noted s)) where
  file_rises : (name : List ℕ) (old new : S) → RemovesFile kind name old new → CountsRise kind old new
  file_rises name old new r =
      rises_on kind old r.after new (call_rises kind ⊥ r.answer old r.after (failures_fit old) r.cause r.noted)
      (fault_rises kind noted_fit (NotedRemove name) r.answer r.after new r.notes)

  each_rises : (names : List (List ℕ)) (old new : S) → RemovesEach kind names old new → CountsRise kind old new
  each_rises [] old new same = same_rises kind old new same
  each_rises (name ∷ names) old new (between, file, each) = rises_on kind old between new (file_rises name old between file) (each_rises names between new each)

  planned_rises : (log : LogFiles) (max : ℕ) (rows : List Row) (old new : S) → RemovesPlanned kind log max rows old new → CountsRise kind old new
  planned_rises log max rows old new (inl (gone, plan, each)) = each_rises (filter_map (listed_name_at rows) gone) old new each
  planned_rises log max rows old new (inr (fault, memory, notes)) = note_rises kind noted_fit old (NotedList fault) new notes

  listed_rises : (log : LogFiles) (max : ℕ) (old new : S) → PrunesListed kind log max old new → CountsRise kind old new
  listed_rises log max old new p =
      rises_on kind old p.listed new (call_rises kind (ForbidsList (kind.content old)) p.answer old p.listed (failures_fit old) p.cause p.noted) (by p.answer p.goes_on)
    where
      by : (answer : Result (Vec Listed Global) Error) → MatchResult answer (λ all. RemovesPlanned kind log max (map listed_row all.items) p.listed new) (λ fault. Notes kind p.listed (NotedList fault) new) → CountsRise kind p.listed new
      by (Ok all) removes = planned_rises log max (map listed_row all.items) p.listed new removes
      by (Err fault) notes = note_rises kind noted_fit p.listed (NotedList fault) new notes

  pub prunes_rise : (log : LogFiles) (max : ℕ) (old new : S) → Prunes kind log max old new → CountsRise kind old new
  prunes_rise log zero old new p = same_rises kind old new (p.none refl)
  prunes_rise log (suc max) old new p = listed_rises log (suc max) old new (p.calls (λ none. absurd (omega arith)))
