-- Counts that do not fall.
use Rattle.std.proofs.Common.{◌≡◌, ℕ, ◌^◌, ◌<◌, ◌≤◌, Bool, Result, Ok, Err, MatchResult, arith, ap, subst, sym, inl, inr}
use Rattle.std.specs.declared.io.Error.{Error}
use Rattle.appender_store.specs.Folder.{AreNotedCounts, NotedCounts, HasCause, NoticeMessage, after_note, notice_kind_of}
use Rattle.appender_store.specs.Notes.{CountsRise, Notes}
use Rattle.appender_store.specs.declared.store.Folder.{Ghosts}
use Rattle.appender_store.specs.declared.store.NoticeKind.{NoticeKind}
use Rattle.appender_store.specs.declared.store.NoticeKind.TheVariants.{List as OfList, Remove as OfRemove, Flush as OfFlush, Open as OfOpen}

-- no call lowers the count of failures
pub cause_rises : {T : Type 0} (is_known : Bool) (forbidden : Type 0) (old new : ℕ) (answer : Result T Error) → old < 2 ^ 64 → HasCause is_known forbidden old new answer → old ≤ new
cause_rises is_known forbidden old new (Ok value) fit same = omega arith
cause_rises is_known forbidden old new (Err fault) fit (inl risen) = omega arith
cause_rises is_known forbidden old new (Err fault) fit (inr (same, why)) = omega arith

-- one notice more lowers no count
more_noted : (k : NoticeKind) (n : NotedCounts) → AreNotedCounts n → (n.lists ≤ (after_note k n).lists) × (n.removes ≤ (after_note k n).removes) × (n.flushes ≤ (after_note k n).flushes) × (n.opens ≤ (after_note k n).opens)
more_noted OfList n fit = (omega arith, omega arith, omega arith, omega arith)
more_noted OfRemove n fit = (omega arith, omega arith, omega arith, omega arith)
more_noted OfFlush n fit = (omega arith, omega arith, omega arith, omega arith)
more_noted OfOpen n fit = (omega arith, omega arith, omega arith, omega arith)

module _ {S F : Type 0} (kind : Ghosts S F) where
  -- equal counts of notices, and no failure less
  pub equal_notes_rise : (old new : S) → kind.failures old ≤ kind.failures new → kind.noted new ≡ kind.noted old → CountsRise kind old new
  equal_notes_rise old new failures same = record {
    failures = failures;
    lists = omega (arith, ap (λ (n : NotedCounts). n.lists) same);
    removes = omega (arith, ap (λ (n : NotedCounts). n.removes) same);
    flushes = omega (arith, ap (λ (n : NotedCounts). n.flushes) same);
    opens = omega (arith, ap (λ (n : NotedCounts). n.opens) same);
  }

  -- in the same folder no count fell
  pub same_rises : (old new : S) → new ≡ old → CountsRise kind old new
  same_rises old new same = equal_notes_rise old new (omega (arith, ap kind.failures same)) (ap kind.noted same)

  -- one after another
  pub rises_on : (old between new : S) → CountsRise kind old between → CountsRise kind between new → CountsRise kind old new
  rises_on old between new first second = record {
    failures = omega (arith, first.failures, second.failures);
    lists = omega (arith, first.lists, second.lists);
    removes = omega (arith, first.removes, second.removes);
    flushes = omega (arith, first.flushes, second.flushes);
    opens = omega (arith, first.opens, second.opens);
  }

  -- a call that notes nothing
  pub call_rises : {T : Type 0} (forbidden : Type 0) (answer : Result T Error) (old new : S) → kind.failures old < 2 ^ 64 → HasCause kind.is_known forbidden (kind.failures old) (kind.failures new) answer → kind.noted new ≡ kind.noted old → CountsRise kind old new
  call_rises forbidden answer old new fit cause same =
      equal_notes_rise old new (cause_rises kind.is_known forbidden (kind.failures old) (kind.failures new) answer fit cause) same

  -- one notice
  pub note_rises : ((s : S) → AreNotedCounts (kind.noted s)) → (old : S) (notice : NoticeMessage) (new : S) → Notes kind old notice new → CountsRise kind old new
  note_rises fit old notice new notes =
      let more = more_noted (notice_kind_of notice) (kind.noted old) (fit old) in
      let is = sym notes.noted in
      record {
        failures = omega (arith, notes.failures);
        lists = subst (λ (n : NotedCounts). (kind.noted old).lists ≤ n.lists) is more.0;
        removes = subst (λ (n : NotedCounts). (kind.noted old).removes ≤ n.removes) is more.1;
        flushes = subst (λ (n : NotedCounts). (kind.noted old).flushes ≤ n.flushes) is more.2;
        opens = subst (λ (n : NotedCounts). (kind.noted old).opens ≤ n.opens) is more.3;
      }

  -- a notice of a fault, if the answer is one
  pub fault_rises : {T : Type 0} → ((s : S) → AreNotedCounts (kind.noted s)) → (notice_of : Error → NoticeMessage) (answer : Result T Error) (old new : S) → MatchResult answer (λ _. new ≡ old) (λ fault. Notes kind old (notice_of fault) new) → CountsRise kind old new
  fault_rises fit notice_of (Ok value) old new same = same_rises old new same
  fault_rises fit notice_of (Err fault) old new notes = note_rises fit old (notice_of fault) new notes
