-- The lines of a source.
use Rattle.std.specs.Prelude.{ℕ, List, map}
use Rattle.callers.specs.declared.audit_sink.Source.{Source}

abbrev pub texts_of : Source → List (List ℕ)
texts_of source = map (λ line. line.items) source.lines.items
