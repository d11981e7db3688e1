use Rattle.std.proofs.Common.{◌≡◌, ℕ, List, ◌++◌}
use Rattle.std.specs.Io.KnownBytes.{Appends}
use Rattle.program_io.proofs.report.report.Given as goal

-- what is no longer left was written
abbrev pub invariant-loop : goal.invariant-loop
invariant-loop g l = (done : List ℕ) × (l.initial.rest ≡ done ++ l.rest) × Appends (g.E.Write.contents l.initial.errors) (g.E.Write.contents l.errors) done
