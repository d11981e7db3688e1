use Rattle.std.proofs.Common.{◌≡◌, ◌≤◌, ℕ, ◌+◌, List, ◌++◌, Some, length, count_by, flat_map}
use Rattle.std.specs.Io.KnownBytes.{Appends}
use Rattle.tracing_appender.specs.Parts.{Part, written_of, is_cut}
use Rattle.callers.specs.Supervisor.{HasLines, AreLines}
use Rattle.callers.proofs.supervisor.copy.Given as goal

-- The lines that were read are counted, and the rest is left to be read. If none was cut, all bytes that were read were
-- written. Else of each line its part was.
abbrev pub invariant-loop : goal.invariant-loop
invariant-loop g l =
    (l.copied.lines ≡ l.counter) × (l.copied.cut ≤ l.copied.lines)
    × ((text : List ℕ) → g.I.Read.remaining l.fn.input ≡ Some text → (done : List ℕ) × (rest : List ℕ)
    × (g.I.Read.remaining l.input ≡ Some rest) × (done ++ rest ≡ text)
    × ((n : ℕ) → HasLines n rest → HasLines (l.copied.lines + n) text)
    × (l.copied.cut ≡ 0 → Appends (g.W.Write.contents l.fn.log) (g.W.Write.contents l.log) done)
    × (parts : List Part) × ((more : List Part) → AreLines more rest → AreLines (parts ++ more) text)
    × (length parts ≡ l.copied.lines) × (count_by is_cut parts ≡ l.copied.cut)
    × Appends (g.W.Write.contents l.fn.log) (g.W.Write.contents l.log) (flat_map written_of parts))
