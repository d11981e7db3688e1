use Rattle.std.proofs.Common.{◌≡◌, ◌++◌, map}
use Rattle.appender_store.specs.Folder.{listed_row, entry_row}
use Rattle.appender_store.specs.Inside.Entries.{named_entry}
use Rattle.appender_store.proofs.store.entries.all_listed.Given as goal

abbrev pub invariant-loop-name : goal.invariant-loop-name
invariant-loop-name l = map listed_row l.all.items ++ map (λ e. entry_row (named_entry e)) l.name-iterator ≡ map (λ e. entry_row (named_entry e)) l.names.entries
