use Rattle.std.proofs.Common.{◌∙◌}
use Rattle.appender_store.specs.Folder.{entry_row}
use Rattle.appender_store.specs.Inside.Entries.{named_entry}
use Rattle.appender_store.proofs.MemoryEntryLemmas.{of_entries, none_left}
use Rattle.appender_store.proofs.store.entries.all_listed.Goals as goal

pub returns : goal.returns
returns c =
    none_left (λ e. entry_row (named_entry e)) _ _ c.loop-name.name-iterator c.in-None.ensures.steps.0 c.loop-name.invariant
    ∙ of_entries entry_row c.args.names.now c.len.ensures.ordered
