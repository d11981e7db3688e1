use Rattle.std.specs.Io.KnownBytes.{Consumes, Keeps}
use Rattle.program_io.specs.Inside.Piece.{IsOpen}
use Rattle.program_io.proofs.read_piece.Given as goal

-- what was read is a part of the piece
abbrev pub invariant-loop : goal.invariant-loop
invariant-loop g l =
    IsOpen l.fn.split l.piece.items × Consumes (g.I.Read.remaining l.fn.input) (g.I.Read.remaining l.input) l.piece.items
    × Keeps (g.W.Write.contents l.fn.writer) (g.W.Write.contents l.writer)
