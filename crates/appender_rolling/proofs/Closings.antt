-- What the flush of a file that gives way leaves.
use Rattle.std.proofs.Common.{◌≡◌, ◌∙◌, Result, Ok, Err, arith, ap, sym}
use Rattle.std.specs.Prelude.{MatchResult}
use Rattle.std.specs.declared.io.Error.{Error}
use Rattle.appender_store.specs.Folder.{NotedCounts, NotedFlush}
use Rattle.appender_store.specs.Notes.{Notes}
use Rattle.appender_store.specs.declared.store.Folder.{Ghosts}
use Rattle.appender_retain.specs.Pruning.{IsQuiet}
use Rattle.appender_rolling.specs.Roller.{ClosesLast}

module _ {S F : Type 0} (kind : Ghosts S F) where
  noted_no_removal : (answer : Result (Unit {0}) Error) (flushed new : S) → MatchResult answer (λ _. new ≡ flushed) (λ fault. Notes kind flushed (NotedFlush fault) new) → ((kind.noted new).lists ≡ (kind.noted flushed).lists) × ((kind.noted new).removes ≡ (kind.noted flushed).removes)
  noted_no_removal (Ok x) flushed new same = (ap (λ s. (kind.noted s).lists) same, ap (λ s. (kind.noted s).removes) same)
  noted_no_removal (Err fault) flushed new notes = (ap (λ (n : NotedCounts). n.lists) notes.noted, ap (λ (n : NotedCounts). n.removes) notes.noted)

  -- it notes neither List nor Remove
  pub closes_quietly : (old ready : S) (file : F) (new : S) → ClosesLast kind ready file new → IsQuiet (kind.noted old) (kind.noted new) → IsQuiet (kind.noted old) (kind.noted ready)
  closes_quietly old ready file new closes quiet =
      let late = noted_no_removal closes.answer closes.flushed new closes.notes in
      let lists = ap (λ (n : NotedCounts). n.lists) (sym closes.noted) ∙ sym late.0 in
      let removes = ap (λ (n : NotedCounts). n.removes) (sym closes.noted) ∙ sym late.1 in
      record {
        lists = lists ∙ quiet.lists;
        removes = removes ∙ quiet.removes;
        below = (omega (arith, lists, quiet.below.0), omega (arith, removes, quiet.below.1));
      }
