use Rattle.std.proofs.Common.{◌∙◌, ℕ, List, string_bytes}
use Rattle.appender_store.specs.Content.{Entry}
use Rattle.appender_store.proofs.MemoryEntryLemmas.{of_entries, none_left}
use Rattle.appender_store.proofs.store.entries.all_names.Goals as goal

pub returns : goal.returns
returns c =
    none_left (λ e. string_bytes e.0) _ _ c.loop-name.name-iterator c.in-None.ensures.steps.0 c.loop-name.invariant
    ∙ of_entries (λ (e : List ℕ × Entry). e.0) c.args.names.now c.len.ensures.ordered
