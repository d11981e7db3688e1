-- Prints a name at a time.
use Rattle.std.proofs.Common.{◌≡◌, ◌++◌, map, take, string_bytes}
use Rattle.std.specs.List.{flat_map}
use Rattle.appender_store.specs.MemoryView.{state_of}
use Rattle.rollplay_core.specs.Page.{entry_line}
use Rattle.rollplay_core.proofs.page.print_folder.Given as goal

abbrev pub invariant-loop-name : goal.invariant-loop-name
invariant-loop-name l =
    l.page.items ≡ l.initial.page.items ++ flat_map (entry_line (state_of l.folder).content) (map string_bytes (take l.name-index l.name-items))
