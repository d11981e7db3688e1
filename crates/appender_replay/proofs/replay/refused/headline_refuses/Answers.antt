use Rattle.std.proofs.Common.{◌≡◌, ◌≢◌, ◌∙◌, ◌⊎◌, Bool, true, false, List, ℕ, Option, None, Some, Err, inl, inr, refl, sym, ap}
use Rattle.std.specs.Prelude.{if◌then◌else◌, unwrap_or, IsSome}
use Rattle.std.specs.FinMap as fin
use Rattle.std.specs.IoError.{error_kind}
use Rattle.std.specs.declared.io.Error.{Error}
use Rattle.std.specs.declared.io.ErrorKind.{ErrorKind}
use Rattle.std.specs.declared.io.ErrorKind.TheVariants.{OutOfMemory, NotFound}
use Rattle.appender_store.specs.Content.{Entry, File, Link, Folder}
use Rattle.appender_store.specs.Folder.{IsOneMore, NoticeMessage, next_count}
use Rattle.appender_store.specs.MemoryState.{MemoryState, is_named, remove_refusal}
use Rattle.appender_store.specs.MemoryView.{state_of}
use Rattle.appender_store.specs.contracts.store.memory.MemoryFolderFolder.TheImpl.{ghosts}
use Rattle.appender_store.specs.declared.store.memory.MemoryFolder.{MemoryFolder}
use Rattle.appender_rolling.specs.Config.{naming_of}
use Rattle.appender_replay.specs.Headline.{Calls, Lists, Removes, Opens, MakesFolder, RemovesLink, MakesLink, Flushes}
use Rattle.appender_replay.specs.Inside.Refused.{hourly}
use Rattle.appender_replay.proofs.Refusals.{IsCall, flushes_nothing, writes_twice, loses_byte, writes_out_of_order, takes_out_of_order, shutdown_takes_no_place, never_prunes, follows_clock_back, changes_other_names, loses_file, reuses_number, takes_nothing, notes_no_fault, removes_later_file, removes_at_failure, lacks_link, links_elsewhere}
use Rattle.appender_replay.proofs.replay.refused.headline_refuses.Goals as goal

-- each call counts, and changes no limit of appends
counts : (old new : MemoryFolder) → Calls ghosts old new → IsCall ghosts state_of old new
counts old new (Lists answer gives) = (gives.calls, gives.shortened)
counts old new (Removes name answer gives) = (gives.called.calls, gives.called.shortened)
counts old new (Opens name answer gives) = (gives.called.calls, gives.called.shortened)
counts old new (MakesFolder answer gives) = (gives.called.calls, gives.called.shortened)
counts old new (RemovesLink link answer gives) = (gives.called.calls, gives.called.shortened)
counts old new (MakesLink link target answer gives) = (gives.calls, gives.shortened)
counts old new (Flushes file after answer gives) = (gives.called.calls, gives.called.shortened)

noting : (old new : MemoryFolder) (notice : NoticeMessage) → ghosts.note_gives old notice new → ((state_of new).calls ≡ (state_of old).calls) × ((state_of new).shortened ≡ (state_of old).shortened)
noting old new notice gives = (ap (λ (s : MemoryState). s.calls) gives, ap (λ (s : MemoryState). s.shortened) gives)

-- a removal that fails by itself counts a failure, and no other needs memory
removal_counts : (old new : MemoryFolder) (name : List ℕ) (fault : Error) → ghosts.remove_gives old name (Err fault) new → IsOneMore (ghosts.failures old) (ghosts.failures new) ⊎ (error_kind fault ≢ OutOfMemory)
removal_counts old new name fault gives = by (is_named (state_of old)) refl
  where
    refusal : Option ErrorKind
    refusal = remove_refusal (fin.get (state_of old).content.names name)

    not_found : (o : Option Entry) → IsSome (remove_refusal o) → unwrap_or (remove_refusal o) OutOfMemory ≢ OutOfMemory
    not_found None some is = let both : ◌≡◌ {A = ErrorKind} NotFound OutOfMemory = is in cc
    not_found (Some (File b t)) some is = absurd (let both : false ≡ true = some in cc)
    not_found (Some (Link target)) some is = let both : ◌≡◌ {A = ErrorKind} NotFound OutOfMemory = is in cc
    not_found (Some Folder) some is = let both : ◌≡◌ {A = ErrorKind} NotFound OutOfMemory = is in cc

    by : (named : Bool) → is_named (state_of old) ≡ named → IsOneMore (ghosts.failures old) (ghosts.failures new) ⊎ (error_kind fault ≢ OutOfMemory)
    by true is = inl (gives.called.failures ∙ ap (λ (b : Bool). if b then next_count (state_of old).failures else (state_of old).failures) is)
    by false is = inr (λ memory. not_found (fin.get (state_of old).content.names name) (gives.fails is) (sym (gives.called.unnamed is) ∙ memory))

pub returns : goal.returns
returns g c = record {
  writes_twice = writes_twice g.S.Folder;
  loses_byte = loses_byte g.S.Folder;
  writes_out_of_order = writes_out_of_order g.S.Folder;
  takes_out_of_order = takes_out_of_order g.S.Folder;
  shutdown_takes_no_place = shutdown_takes_no_place g.S.Folder;
  never_prunes = never_prunes g.S.Folder;
  follows_clock_back = follows_clock_back g.S.Folder (c.names_are_periods.ensures (naming_of hourly));
  changes_other_names = changes_other_names g.S.Folder;
  loses_file = loses_file g.S.Folder;
  reuses_number = reuses_number g.S.Folder;
  takes_nothing = takes_nothing ghosts state_of counts noting (λ old new file after bytes answer gives. gives);
  flushes_nothing = flushes_nothing ghosts state_of counts noting (λ old new file after bytes answer gives. gives);
  notes_no_fault = notes_no_fault ghosts removal_counts;
  removes_later_file = removes_later_file g.S.Folder (c.names_are_periods.ensures (naming_of hourly));
  removes_at_failure = removes_at_failure g.S.Folder;
  lacks_link = lacks_link g.S.Folder;
  links_elsewhere = links_elsewhere g.S.Folder;
}
