use Rattle.std.proofs.Common.{◌≡◌, ℕ, List, ◌++◌, Some}
use Rattle.std.specs.Io.KnownBytes.{Appends}
use Rattle.program_io.proofs.copy_pieces.Given as goal

-- what was read so far was written, and the rest is left to be read
abbrev pub invariant-loop : goal.invariant-loop
invariant-loop g l =
    (text : List ℕ) → g.I.Read.remaining l.fn.input ≡ Some text →
    (done : List ℕ) × (rest : List ℕ) × (g.I.Read.remaining l.input ≡ Some rest) × (done ++ rest ≡ text)
    × Appends (g.W.Write.contents l.fn.writer) (g.W.Write.contents l.writer) done
