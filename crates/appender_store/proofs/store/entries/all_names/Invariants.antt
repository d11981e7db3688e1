use Rattle.std.proofs.Common.{◌≡◌, ◌++◌, map, string_bytes}
use Rattle.appender_store.proofs.store.entries.all_names.Given as goal

abbrev pub invariant-loop-name : goal.invariant-loop-name
invariant-loop-name l = map string_bytes l.all.items ++ map (λ e. string_bytes e.0) l.name-iterator ≡ map (λ e. string_bytes e.0) l.names.entries
